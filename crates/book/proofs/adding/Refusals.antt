-- The block that a new rule takes, as the code asks for it. Assumes nothing.
use Prim.Native.Nat.{ℕ, ◌*◌, ◌/◌, ◌≤◌, ◌<◌}
use mathlib.Core.Path.{◌≡◌, sym, ap, ap₂, ◌∙◌}
use mathlib.Core.Bool.{Bool, true, false}
use mathlib.Core.Option.{Option, none, some}
use mathlib.Core.List.{List}
use lib.ListN.{length}
use lib.Dec.{ltb}
use borrow.Author.Rules.{rules}
use borrow.Author.Tests.{lt-ltb, le-ltb}
use Rattle.book_rules.specs.Sums.{and_also}
use Rattle.book_rules.specs.Books.{Book, in_use, place, withdrawn, growth, slot_or, slot}
use Rattle.book_rules.specs.Bytes.{blocks_from, book_of}
use Rattle.book.specs.Testing.{bears, found}
use Rattle.std.specs.Prelude.{Some, None}
use Rattle.std.specs.Prelude as code
use Rattle.book.proofs.Views.{lent_is, good_in_use}
use Rattle.book.proofs.Blocks as blocks

module _ (s : List ℕ) (used : ℕ) (fits : 512 * used ≤ length s) (f : code.Option ℕ) (e : f ≡ found (place (bears 0) (blocks_from s 0 used))) where
  abbrev b : Book
  b = book_of s used

  free : place withdrawn (in_use b) ≡ place (bears 0) (blocks_from s 0 used)
  unfolding place withdrawn bears
  free = ap (place withdrawn) (good_in_use s used fits)

  pub slot_free : (k : ℕ) → f ≡ Some k → Some k ≡ found (slot b)
  unfolding slot slot_or found
  slot_free k q = sym (ap (λ (o : Option ℕ). found (slot_or o (growth b))) (free ∙ blocks.found_some (place (bears 0) (blocks_from s 0 used)) f k e q))

  module _ (q : f ≡ None) where
    next_is : slot b ≡ growth b
    unfolding slot slot_or
    next_is = ap (λ (o : Option ℕ). slot_or o (growth b)) (free ∙ blocks.found_none (place (bears 0) (blocks_from s 0 used)) f e q)

    grow : Bool → Option ℕ
    grow t = elim t [ true ↦ some used | false ↦ none ]

    growth_is : growth b ≡ grow (and_also (ltb used (length s / 512)) (ltb used 65536))
    unfolding growth grow book_of
    growth_is = ap (λ (n : ℕ). grow (and_also (ltb used n) (ltb used 65536))) (lent_is s used)

    pub slot_full : length s / 512 ≤ used → None ≡ found (slot b)
    unfolding found grow and_also
    slot_full h = sym (ap found (next_is ∙ growth_is ∙ ap (λ (t : Bool). grow (and_also t (ltb used 65536))) (le-ltb used (length s / 512) h)))

    module _ (l : used < length s / 512) where
      pub slot_beyond : 65536 ≤ used → None ≡ found (slot b)
      unfolding found grow and_also
      slot_beyond h = sym (ap found (next_is ∙ growth_is ∙ ap₂ (λ (t u : Bool). grow (and_also t u)) (lt-ltb used (length s / 512) l) (le-ltb used 65536 h)))

      pub slot_next : used < 65536 → Some used ≡ found (slot b)
      unfolding found grow and_also
      slot_next h = sym (ap found (next_is ∙ growth_is ∙ ap₂ (λ (t u : Bool). grow (and_also t u)) (lt-ltb used (length s / 512) l) (lt-ltb used 65536 h)))

pub ruleset slot_rules = (slot_free, slot_full, slot_beyond, slot_next, rules)
