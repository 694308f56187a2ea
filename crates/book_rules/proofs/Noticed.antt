-- Laws of what specs/Noticed.antt defines.
use Rattle.std.specs.Prelude.{ℕ, ◌<◌, ◌≡◌, refl, Bool, true, false, ◌≢◌, List, set, eqb, T}
use Rattle.std.proofs.Common.{arith, sym, ap, ◌∙◌, subst, length-set, get_or-set_same, get_or-set_other, eqb→eq}
use Rattle.book_rules.specs.Sums.{word, checked, exchanged, Alike, same_place, first_last, last_first}
use Rattle.book_rules.proofs.Sums.{change_noticed, exchange_noticed}
use Rattle.book_rules.specs.Blocks.{Block, unless, or_else, verdict}
use Rattle.book_rules.specs.Noticed.{Refused, Sized, by_check, by_number, good_checked, good_number}

fails : (t : Bool) → (T t → ⊥) → t ≡ false
fails true h = absurd (h tt)
fails false h = refl

twelve : (k : ℕ) (earlier : List Block) (b : Block) → checked b ≡ false → verdict k earlier b ≡ 12
unfolding verdict or_else unless
twelve k earlier b h = rw h

-- (a) A change within one word is refused: with 12, whatever stands before the block.
pub change_refused : (k : ℕ) (earlier : List Block) (b : Block) (i y : ℕ) → Sized b → i < 256 → y < 65536 → word b i ≢ y → T (checked b)
    → verdict k earlier (set b i y) ≡ 12
change_refused k earlier b i y s h hy ne c =
    twelve k earlier (set b i y) (fails (checked (set b i y)) (λ d. change_noticed b i y s.long h (s.small i) hy ne c d))

-- (b) An exchange of two unequal words is refused: with 12, but for the first word and the last.
pub exchange_refused : (k : ℕ) (earlier : List Block) (b : Block) (i j : ℕ) → Sized b → i < 256 → j < 256 → word b i ≢ word b j → T (checked b)
    → (Alike i j → ⊥) → verdict k earlier (exchanged b i j) ≡ 12
exchange_refused k earlier b i j s hi hj ne c out =
    twelve k earlier (exchanged b i j) (fails (checked (exchanged b i j)) (λ d. out (exchange_noticed b i j s.long hi hj (s.small i) (s.small j) ne c d)))

thirteen : (k : ℕ) (earlier : List Block) (b : Block) → eqb (word b 0) k ≡ false → Refused (verdict k earlier b)
unfolding verdict or_else unless
thirteen k earlier b h = by (checked b) refl
  where
    by : (t : Bool) → checked b ≡ t → Refused (verdict k earlier b)
    by true e = by_number (rw (e, h))
    by false e = by_check (rw e)

other_number : (k : ℕ) (earlier : List Block) (b : Block) → word b 0 ≢ k → Refused (verdict k earlier b)
other_number k earlier b ne = thirteen k earlier b (fails (eqb (word b 0) k) (λ t. ne (eqb→eq (word b 0) k t)))

-- (b), for any two unequal words of a block in its place.
pub exchange_refused_anyhow : (k : ℕ) (before after : List Block) (b : Block) (i j : ℕ) → Sized b → i < 256 → j < 256 → word b i ≢ word b j
    → verdict k before b ≡ 0 → Refused (verdict k after (exchanged b i j))
unfolding exchanged
exchange_refused_anyhow k before after b i j s hi hj ne g = by (checked (exchanged b i j)) refl
  where
    number : word b 0 ≡ k
    number = good_number k before b g

    located : Alike i j → word (exchanged b i j) 0 ≢ k
    located (same_place e) f = ne (ap (λ (z : ℕ). word b z) e)
    located (first_last p q) f = ne (
        ap (λ (z : ℕ). word b z) p ∙ number ∙ sym f ∙ get_or-set_other (set b i (word b j)) j 0 (word b i) 0 (omega arith)
        ∙ ap (λ (z : ℕ). word (set b i (word b j)) z) (sym p) ∙ get_or-set_same b i (word b j) 0 (omega (arith, s.long)))
    located (last_first p q) f = ne (
        sym (get_or-set_same (set b i (word b j)) j (word b i) 0 (omega (arith, length-set b i (word b j), s.long)))
        ∙ ap (λ (z : ℕ). word (exchanged b i j) z) q ∙ f ∙ sym number ∙ ap (λ (z : ℕ). word b z) (sym q))

    by : (t : Bool) → checked (exchanged b i j) ≡ t → Refused (verdict k after (exchanged b i j))
    by false e = by_check (twelve k after (exchanged b i j) e)
    by true e = other_number k after (exchanged b i j) (located (
        exchange_noticed b i j s.long hi hj (s.small i) (s.small j) ne (good_checked k before b g) (subst T (sym e) tt)))
