-- The forms and the dialects by their numbers, as the code asks for them. Assumes nothing.
use Prim.Native.Nat.{ℕ, zero, suc}
use mathlib.Core.Path.{◌≡◌, refl}
use mathlib.Core.Option.{none, some}
use borrow.Author.Rules.{rules}
use Rattle.rules.specs.Dialects.{every_place, first_places, dialect_of}
use Rattle.rules.specs.Rows.{as_words, as_origins, form_of}

pub form_1 : (n : ℕ) → n ≡ 1 → form_of n ≡ some as_words
unfolding form_of
form_1 n e = rw e

pub form_2 : (n : ℕ) → n ≡ 2 → form_of n ≡ some as_origins
unfolding form_of
form_2 n e = rw e

pub no_form : (n : ℕ) → (n ≡ 1 → ⊥) → (n ≡ 2 → ⊥) → form_of n ≡ none
unfolding form_of
no_form zero f g = refl
no_form (suc zero) f g = absurd (f refl)
no_form (suc (suc zero)) f g = absurd (g refl)
no_form (suc (suc (suc n))) f g = refl

pub ruleset form_rules = (form_1, form_2, no_form, rules)

pub dialect_1 : (n : ℕ) → n ≡ 1 → dialect_of n ≡ some every_place
unfolding dialect_of
dialect_1 n e = rw e

pub dialect_2 : (n : ℕ) → n ≡ 2 → dialect_of n ≡ some first_places
unfolding dialect_of
dialect_2 n e = rw e

pub no_dialect : (n : ℕ) → (n ≡ 1 → ⊥) → (n ≡ 2 → ⊥) → dialect_of n ≡ none
unfolding dialect_of
no_dialect zero f g = refl
no_dialect (suc zero) f g = absurd (f refl)
no_dialect (suc (suc zero)) f g = absurd (g refl)
no_dialect (suc (suc (suc n))) f g = refl

pub ruleset dialect_rules = (dialect_1, dialect_2, no_dialect, rules)
