-- The words of an accepted target are a target, and the first held value, all of the value at index 0, is the target. Assumes nothing.
use mathlib.Core.Path.{◌≡◌, refl, sym, ◌∙◌, ap, subst}
use mathlib.Core.List.{List, ◌∷◌, ◌++◌, append-nil}
use Prim.Native.Nat.{ℕ, ◌+◌, ◌%◌, ◌<◌, ◌≤◌}
use native.Mathlib.Nat.{add-zero}
use native.Mathlib.Omega.{arith}
use lib.ListN.{length, get_or, drop, length-drop}
use lib.Seq.{get_or-drop}
use lib.IntN.{ℤ, pos, negsuc}
use Rattle.rules.specs.Forms.{Value, int, collection, tupled, Values, empty, ◌▸◌, count, words, words_all}
use Rattle.rules.specs.Reading.{ok, read_target}
use Rattle.forms.specs.Written.{deepest, deepest_of, largest, Widths, length_words}
use Rattle.forms.proofs.ReadTarget.{target_read}
use Rattle.words.specs.Words.{tag_z, tag_at}
use Rattle.value_places.specs.Places.{forest, head_of, value_at, count_at, Target, Tag}
use Rattle.value_places.specs.Held.{Held, held_at, whole_at}
use Rattle.value_places.proofs.Forest.{widest, widest_of, widest_64, forest_flat, tail_flat, tail_deep, two_words}
use Rattle.value_places.proofs.Held.{whole_held, whole_value_lem}

first_of : (s : List ℤ) (at : ℕ) (x : ℤ) (l : List ℤ) → drop at s ≡ x ∷ l → get_or s at (negsuc 0) ≡ x
first_of s at x l e = sym (ap (λ (k : ℕ). get_or s k (negsuc 0)) (add-zero at)) ∙ sym (get_or-drop at s 0 (negsuc 0)) ∙ ap (λ (k : List ℤ). get_or k 0 (negsuc 0)) e

second_of_lem : (s : List ℤ) (at : ℕ) (x y : ℤ) (l : List ℤ) → drop at s ≡ x ∷ y ∷ l → get_or s (at + 1) (negsuc 0) ≡ y
second_of_lem s at x y l e = sym (get_or-drop at s 1 (negsuc 0)) ∙ ap (λ (k : List ℤ). get_or k 1 (negsuc 0)) e

-- The count of the first of the values that stand at an index.
count_here : (s : List ℤ) (at : ℕ) (us : Values) → drop at s ≡ words_all us → widest_of us ≤ 64 → at < length s → count_at s at ≤ 64
unfolding words words_all widest widest_of count_at tag_at
count_here s at empty e h l = absurd (omega (arith, ap length e, length-drop at s))
count_here s at (int x ▸ us) e h l = rw (ap tag_z (first_of s at (pos 0) (x ∷ words_all us) e)) (omega arith)
count_here s at (collection vs ▸ us) e h l =
    rw (ap tag_z (first_of s at (pos 1) (pos (count vs) ∷ words_all vs ++ words_all us) e), ap tag_z (second_of_lem s at (pos 1) (pos (count vs)) (words_all vs ++ words_all us) e))
    (omega arith)
count_here s at (tupled vs ▸ us) e h l =
    rw (ap tag_z (first_of s at (pos 2) (pos (count vs) ∷ words_all vs ++ words_all us) e), ap tag_z (second_of_lem s at (pos 2) (pos (count vs)) (words_all vs ++ words_all us) e))
    (omega arith)

one_value : (v : Value) → words v ≡ words_all (v ▸ empty)
unfolding words_all
one_value v = sym (append-nil (words v))

one_widest : (v : Value) → largest v ≤ 64 → Widths v → widest_of (v ▸ empty) ≤ 64
unfolding widest_of
one_widest v h w = omega (arith, widest_64 v h w)

one_deep : (v : Value) → deepest v ≤ 8 → deepest_of (v ▸ empty) ≤ 8
unfolding deepest_of
one_deep v h = omega arith

head_deep : (d : ℕ) (us : Values) → deepest_of us ≤ d → deepest (head_of us) ≤ d
unfolding deepest deepest_of
head_deep d empty h = omega arith
head_deep d (u ▸ us) h = omega arith

one_forest : (v : Value) → forest (words v) ≡ v ▸ empty
one_forest v = ap forest (one_value v) ∙ forest_flat (v ▸ empty)

deep_here : (v : Value) (at : ℕ) → at % 2 ≡ 0 → deepest v ≤ 8 → deepest (value_at (words v) at) ≤ 8
unfolding value_at
deep_here v at e h = rw (one_value v) (head_deep 8 (forest (drop at (words_all (v ▸ empty)))) (tail_deep 8 at e (v ▸ empty) (one_deep v h)))

pub target_words : (v : Value) → largest v ≤ 64 → deepest v ≤ 8 → Widths v → length (words v) ≤ 1024 → Target (words v)
target_words v h m k l = record {
  whole = one_value v ∙ ap words_all (sym (one_forest v));
  small = λ at w.
      let r = tail_flat 64 at w.even (v ▸ empty) (one_widest v h k) in
      count_here (words v) at r.0 (ap (drop at) (one_value v) ∙ r.1) r.2 w.inside;
  deep = λ at w. deep_here v at w.even m;
  short = l;
}

pub value_words : (v : Value) → value_at (words v) 0 ≡ v
unfolding value_at
value_words v = ap head_of (one_forest v)

pub tag_words : (v : Value) → Tag (words v) 0
tag_words v = record { even = refl; inside = omega (arith, length_words v, two_words v) }

module _ (ts : List ℤ) (v : Value) (e : read_target ts ≡ ok v) where
  pub read_words : ts ≡ words v
  read_words = ((target_read ts v).0 e).0

  pub read_target_lem : Target ts
  read_target_lem = let r = (target_read ts v).0 e in subst Target (sym read_words) (target_words v r.2 r.3 r.4 (rw read_words at r.1))

  pub read_tag : Tag ts 0
  read_tag = subst (λ (l : List ℤ). Tag l 0) (sym read_words) (tag_words v)

  pub read_value : value_at ts 0 ≡ v
  read_value = ap (λ (l : List ℤ). value_at l 0) read_words ∙ value_words v

  pub read_held : Held ts 0 (whole_at ts 0)
  read_held = whole_held ts 0 read_target_lem read_tag

  pub read_is : held_at ts 0 (whole_at ts 0) ≡ v
  read_is = whole_value_lem ts 0 read_target_lem read_tag ∙ read_value
