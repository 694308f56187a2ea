-- What the caller's picks stand for: the forms and the dialects of the rules, by their numbers.
use Rattle.std.specs.Prelude.{ℕ, ◌≡◌, Result, MatchResult}
use Rattle.std.proofs.Math.Option.{none, some}
use Rattle.rules.specs.Dialects.{Dialect, every_place, first_places, dialect_of}
use Rattle.rules.specs.Rows.{Form, as_words, as_origins, form_of}
use Rattle.services.specs.declared.picks.Dialect as code
use Rattle.services.specs.declared.picks.Dialect.TheVariants.{EveryPlace, FirstPlaces}
use Rattle.services.specs.declared.picks.RowForm.{RowForm}
use Rattle.services.specs.declared.picks.RowForm.TheVariants.{Values, Origins}
use Rattle.services.specs.declared.refusal.Refused.{Refused}
use Rattle.services.specs.declared.refusal.Refused.TheVariants.{UnknownForm, UnknownDialect}

abbrev pub form_in : RowForm → Form
form_in Values = as_words
form_in Origins = as_origins

abbrev pub dialect_in : code.Dialect → Dialect
dialect_in EveryPlace = every_place
dialect_in FirstPlaces = first_places

-- The form, and the dialect, with a number; or the refusal where there is none.
abbrev pub FormPicked : ℕ → Result RowForm Refused → Type 0
FormPicked n r = MatchResult r (λ form. form_of n ≡ some (form_in form)) (λ e. (form_of n ≡ none) × (e ≡ UnknownForm))

abbrev pub DialectPicked : ℕ → Result code.Dialect Refused → Type 0
DialectPicked n r = MatchResult r (λ dialect. dialect_of n ≡ some (dialect_in dialect)) (λ e. (dialect_of n ≡ none) × (e ≡ UnknownDialect))
