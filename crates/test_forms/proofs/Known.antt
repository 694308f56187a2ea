-- One word that must be known, by the tag at its index: past the end and at a negative word no table has a meaning, so that both are the fault at
-- that index. Assumes nothing.
use mathlib.Core.Path.{◌≡◌, refl, sym, ◌∙◌, ap}
use mathlib.Core.Option.{Option, none, some}
use mathlib.Core.List.{List, [], ◌∷◌}
use Prim.Native.Nat.{ℕ, zero, suc, ◌≤◌}
use native.Mathlib.Omega.{arith}
use lib.ListN.{length, get_elem?, drop}
use lib.Seq.{drop-nil}
use lib.IntN.{ℤ, pos, negsuc}
use Rattle.rules.specs.Reading.{Verdict, ok, fault, Got, known, entry}
use Rattle.words.specs.Words.{tag_z, tag_at}

pub past : {A : Type 0} (table : List A) (i : ℕ) → length table ≤ i → get_elem? table i ≡ none
past [] i h = refl
past (a ∷ table) zero h = absurd (omega arith)
past (a ∷ table) (suc i) h = past table i (omega arith)

pub entry_tag : {A : Type 0} (table : List A) (w : ℤ) → length table ≤ 2147483648 → entry table w ≡ get_elem? table (tag_z w)
unfolding entry
entry_tag table (pos n) h = refl
entry_tag table (negsuc n) h = sym (past table 2147483648 h)

-- What the meaning of the tag at an index gives: the words go on with `us`.
unfoldable pub meant : {A : Type 0} → ℕ → List ℤ → Option A → Verdict (Got A)
meant at us none = fault at
meant at us (some a) = ok (record { it = a; next = suc at; rest = us })

pub known_word : {A : Type 0} (f : ℤ → Option A) (at : ℕ) (w : ℤ) (ws : List ℤ) → known f at (w ∷ ws) ≡ meant at ws (f w)
unfolding known meant
known_word {A} f at w ws = go (f w)
  where
    go : (o : Option A) → elim o as (λ _. Verdict (Got A)) [ none ↦ fault at | some a ↦ ok (record { it = a; next = suc at; rest = ws }) ] ≡ meant at ws o
    go none = refl
    go (some a) = refl

module _ {A : Type 0} (table : List A) (few : length table ≤ 2147483648) where
  known_from : (s : List ℤ) (at i : ℕ) → known (entry table) i (drop at s) ≡ meant i (drop (suc at) s) (get_elem? table (tag_at s at))
  unfolding known meant tag_at
  known_from [] at i = rw (drop-nil at, past table 2147483648 few)
  known_from (w ∷ ws) zero i = known_word (entry table) i w ws ∙ ap (meant i ws) (entry_tag table w few)
  known_from (w ∷ ws) (suc at) i = known_from ws at i

  pub known_at : (s : List ℤ) (at t : ℕ) → t ≡ tag_at s at → known (entry table) at (drop at s) ≡ meant at (drop (suc at) s) (get_elem? table t)
  known_at s at t e = rw e (known_from s at at)
