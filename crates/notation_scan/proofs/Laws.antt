-- Scanning, as the code asks. Assumes nothing.
use Rattle.std.proofs.Common.{◌≡◌, ℕ, suc, ◌+◌, ◌<◌, ◌≤◌, Bool, true, false, cond, List, [], ◌∷◌, length, get_or, drop, refl, sym, ap, ◌∙◌, drop-cons, drop_of_length-le, add-one, eqb, arith}
use mathlib.Core.Bool.{◌&&◌}
use Rattle.std.specs.Cmp.Lexicographic.{pointwise}
use Rattle.notation_rules.specs.Letters.{same_word}
use Rattle.notation_scan.specs.Scanned.{whole_at, advanced, token, scan_from, nothing, scanned}
use Rattle.notation_scan.specs.declared.Begun.{Begun}

-- Words are compared from behind.
pub same_is : (a b : List ℕ) → pointwise eqb a b ≡ same_word a b
unfolding same_word
same_is [] [] = refl
same_is [] (d ∷ ds) = refl
same_is (c ∷ cs) [] = refl
same_is (c ∷ cs) (d ∷ ds) = ap (λ x. eqb c d && x) (same_is cs ds) ∙ turned (eqb c d) (same_word cs ds)
  where
    turned : (x y : Bool) → (x && y) ≡ (y && x)
    turned true true = refl
    turned true false = refl
    turned false true = refl
    turned false false = refl

module _ (text : List ℕ) (at : ℕ) (b : Begun) (i : ℕ) (h : scan_from text b i (drop i text) ≡ scanned text at) where
  one_more : i < length text → scan_from text b i (drop i text)
      ≡ cond (whole_at b (get_or text i 0)) (token text b i) (scan_from text (advanced b (get_or text i 0) i (i + 1)) (i + 1) (drop (suc i) text))
  unfolding scan_from
  one_more l = rw (drop-cons text i 0 l)

  -- What was begun is a token that ends before the character at i.
  pub scan_whole : i < length text → whole_at b (get_or text i 0) ≡ true → token text b i ≡ scanned text at
  scan_whole l e = sym (ap (λ x. cond x (token text b i) (scan_from text (advanced b (get_or text i 0) i (i + 1)) (i + 1) (drop (suc i) text))) e) ∙ sym (one_more l) ∙ h

  -- It is not, and goes on or is anew.
  pub scan_next : i < length text → whole_at b (get_or text i 0) ≡ false → scan_from text (advanced b (get_or text i 0) i (i + 1)) (i + 1) (drop (i + 1) text) ≡ scanned text at
  scan_next l e =
      ap (λ j. scan_from text (advanced b (get_or text i 0) i (i + 1)) (i + 1) (drop j text)) (add-one i)
      ∙ sym (ap (λ x. cond x (token text b i) (scan_from text (advanced b (get_or text i 0) i (i + 1)) (i + 1) (drop (suc i) text))) e) ∙ sym (one_more l) ∙ h

  -- The text ends.
  pub scan_end : (end : ℕ) → length text ≤ i → end ≤ i → i ≤ end → token text b end ≡ scanned text at
  unfolding scan_from
  scan_end end l p q = let e : end ≡ i = omega arith in ap (token text b) e ∙ sym (ap (scan_from text b i) (drop_of_length-le text {i = i} l)) ∙ h

pub scan_start : (text : List ℕ) (at : ℕ) → scan_from text (nothing at) at (drop at text) ≡ scanned text at
unfolding scanned
scan_start text at = refl

pub ruleset scan_rules = (scan_whole, scan_next, scan_end, scan_start)
