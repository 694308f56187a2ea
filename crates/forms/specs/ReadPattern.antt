-- The words are one whole pattern exactly when some pattern writes them out, they are at most 256, and every tuple has 2 to 4 parts.
use Rattle.std.specs.Prelude.{ℕ, zero, suc, ◌+◌, ◌≤◌, ◌≡◌, refl, ◌↔◌, List, [], ◌∷◌, ◌++◌, length, ℤ, pos, negsuc}
use Rattle.std.proofs.Common.{arith, not-suc-le-zero, sym, ap, ◌∙◌, subst, append_assoc, length-append}
use Rattle.std.proofs.Math.Option.{some}
use Rattle.rules.specs.Forms.{Pattern, wildcard, variable, constant, value, nil, cons, join, tuple, both, either, never, Patterns, no_patterns, ◌▸ᵖ◌, countᵖ}
use Rattle.rules.specs.Reading.{ok, ◌then◌, Got, Reader, give, ◌>>=◌, word, entry, width, whole}
use Rattle.rules.specs.Reading.{PatternTag, alone, operand, operands, inner, parts, wide, pattern_tags, pattern_parts, pattern, read_pattern}
use Rattle.forms.specs.Written.{pattern_words, pattern_words_all, IsWidth, Widthsᵖ, WidthsAllᵖ}
use Rattle.forms.specs.Readers.{got, Took, Sound, Complete, of_some, not_some, bind_ok, word_ok, gives, moved, none_read, tagged_sound}
use Rattle.forms.specs.Readers.{whole_sound, whole_complete, limited_ok}
use Rattle.forms.specs.Counted.{width_only, width_is, Row, Gathers, Opens, counted_sound, counted_complete}

in_a_row : Row no_patterns ◌▸ᵖ◌ pattern_words pattern_words_all countᵖ
unfolding pattern_words countᵖ
in_a_row = record {
  no_words = refl;
  more_words = λ p ps. refl;
  no_number = refl;
  more_number = λ p ps. refl;
  by_forms = every;
}
  where
    every : (P : Patterns → Type 0) → P no_patterns → ((p : Pattern) (ps : Patterns) → P ps → P (p ▸ᵖ ps)) → (ps : Patterns) → P ps
    every P z s no_patterns = z
    every P z s (p ▸ᵖ ps) = s p ps (every P z s ps)

widths_gather : Gathers no_patterns ◌▸ᵖ◌ Widthsᵖ WidthsAllᵖ
unfolding Widthsᵖ
widths_gather = record { of_no = tt; of_more = λ p ps x y. (x, y) }

-- What a tag stands for: how its operands and parts are written, and that every width is good where its parts' are.
PatternMeans : ℤ → PatternTag → Type 0
PatternMeans w (alone p) = (pattern_words p ≡ w ∷ []) × Widthsᵖ p
PatternMeans w (operand f) = (x : ℤ) → (pattern_words (f x) ≡ w ∷ x ∷ []) × Widthsᵖ (f x)
PatternMeans w (operands f) = (x y : ℤ) → (pattern_words (f x y) ≡ w ∷ x ∷ y ∷ []) × Widthsᵖ (f x y)
PatternMeans w (inner f) = (p : Pattern) → (pattern_words (f p) ≡ w ∷ pattern_words p) × (Widthsᵖ p → Widthsᵖ (f p))
PatternMeans w (parts f) = (p q : Pattern) → (pattern_words (f p q) ≡ w ∷ (pattern_words p ++ pattern_words q)) × (Widthsᵖ p → Widthsᵖ q → Widthsᵖ (f p q))
PatternMeans w (wide f) = (ps : Patterns)
    → (pattern_words (f ps) ≡ w ∷ pos (countᵖ ps) ∷ pattern_words_all ps) × (WidthsAllᵖ ps → IsWidth (countᵖ ps) → Widthsᵖ (f ps))

pattern_means : (w : ℤ) (t : PatternTag) → entry pattern_tags w ≡ some t → PatternMeans w t
unfolding entry pattern_tags PatternMeans pattern_words Widthsᵖ
pattern_means (negsuc n) t e = not_some e
pattern_means (pos zero) t e = of_some (PatternMeans (pos 0)) e (refl, tt)
pattern_means (pos (suc zero)) t e = of_some (PatternMeans (pos 1)) e (λ x. (refl, tt))
pattern_means (pos (suc (suc zero))) t e = of_some (PatternMeans (pos 2)) e (λ x. (refl, tt))
pattern_means (pos (suc (suc (suc zero)))) t e = of_some (PatternMeans (pos 3)) e (λ x y. (refl, tt))
pattern_means (pos (suc (suc (suc (suc zero))))) t e = of_some (PatternMeans (pos 4)) e (refl, tt)
pattern_means (pos (suc (suc (suc (suc (suc zero)))))) t e = of_some (PatternMeans (pos 5)) e (λ p q. (refl, λ a b. (a, b)))
pattern_means (pos (suc (suc (suc (suc (suc (suc zero))))))) t e = of_some (PatternMeans (pos 6)) e (λ p q. (refl, λ a b. (a, b)))
pattern_means (pos (suc (suc (suc (suc (suc (suc (suc zero)))))))) t e = of_some (PatternMeans (pos 7)) e (λ ps. (refl, λ a b. (b, a)))
pattern_means (pos (suc (suc (suc (suc (suc (suc (suc (suc zero))))))))) t e = of_some (PatternMeans (pos 8)) e (λ p q. (refl, λ a b. (a, b)))
pattern_means (pos (suc (suc (suc (suc (suc (suc (suc (suc (suc zero)))))))))) t e = of_some (PatternMeans (pos 9)) e (λ p q. (refl, λ a b. (a, b)))
pattern_means (pos (suc (suc (suc (suc (suc (suc (suc (suc (suc (suc zero))))))))))) t e = of_some (PatternMeans (pos 10)) e (λ p. (refl, λ a. a))
pattern_means (pos (suc (suc (suc (suc (suc (suc (suc (suc (suc (suc (suc n)))))))))))) t e = not_some e

pattern_parts_lem : (part : Reader Pattern) → Sound part pattern_words Widthsᵖ → (w : ℤ) (t : PatternTag) → PatternMeans w t
    → (at : ℕ) (ws : List ℤ) (g : Got Pattern) → pattern_parts part t at ws ≡ ok g → Took pattern_words Widthsᵖ (w ∷ ws) g
unfolding pattern_parts PatternMeans Sound
pattern_parts_lem part s w (alone p) h at ws g e = gives pattern_words Widthsᵖ p at ws g e (ap (λ l. l ++ ws) (sym h.0)) h.1
pattern_parts_lem part s w (operand f) h at ws g e =
    let b = bind_ok word (λ x. give (f x)) at ws g e in
    let i = h b.0.it in
    gives pattern_words Widthsᵖ (f b.0.it) b.0.next b.0.rest g b.2
    (ap {B = List ℤ} (λ l. w ∷ l) (word_ok at ws b.0 b.1) ∙ ap (λ l. l ++ b.0.rest) (sym i.0)) i.1
pattern_parts_lem part s w (operands f) h at ws g e =
    let b = bind_ok word (λ x. word >>= λ y. give (f x y)) at ws g e in
    let c = bind_ok word (λ y. give (f b.0.it y)) b.0.next b.0.rest g b.2 in
    let i = h b.0.it c.0.it in
    gives pattern_words Widthsᵖ (f b.0.it c.0.it) c.0.next c.0.rest g c.2
    (ap {B = List ℤ} (λ l. w ∷ l) (word_ok at ws b.0 b.1 ∙ ap {B = List ℤ} (λ l. b.0.it ∷ l) (word_ok b.0.next b.0.rest c.0 c.1))
    ∙ ap (λ l. l ++ c.0.rest) (sym i.0)) i.1
pattern_parts_lem part s w (inner f) h at ws g e =
    let b = bind_ok part (λ p. give (f p)) at ws g e in
    let i = h b.0.it in
    let x = s at ws b.0 b.1 in
    gives pattern_words Widthsᵖ (f b.0.it) b.0.next b.0.rest g b.2
    (ap {B = List ℤ} (λ l. w ∷ l) x.0 ∙ ap (λ l. l ++ b.0.rest) (sym i.0)) (i.1 x.1)
pattern_parts_lem part s w (parts f) h at ws g e =
    let b = bind_ok part (λ p. part >>= λ q. give (f p q)) at ws g e in
    let c = bind_ok part (λ q. give (f b.0.it q)) b.0.next b.0.rest g b.2 in
    let i = h b.0.it c.0.it in
    let x = s at ws b.0 b.1 in
    let y = s b.0.next b.0.rest c.0 c.1 in
    gives pattern_words Widthsᵖ (f b.0.it c.0.it) c.0.next c.0.rest g c.2
    (ap {B = List ℤ} (λ l. w ∷ l) (x.0 ∙ ap {B = List ℤ} (λ l. pattern_words b.0.it ++ l) y.0
    ∙ sym (append_assoc (pattern_words b.0.it) (pattern_words c.0.it) c.0.rest))
    ∙ ap (λ l. l ++ c.0.rest) (sym i.0)) (i.1 x.1 y.1)
pattern_parts_lem part s w (wide f) h at ws g e = counted_sound in_a_row part width f width_only widths_gather s w
    (λ ps. (h ps).0) Widthsᵖ (λ ps k i. (h ps).1 k ((width_is (countᵖ ps)).0 i)) at ws g e

pub pattern_sound : (depth : ℕ) → Sound (pattern depth) pattern_words Widthsᵖ
unfolding pattern Sound
pattern_sound zero at ws g e = none_read pattern_words Widthsᵖ at ws g e
pattern_sound (suc depth) at ws g e = tagged_sound pattern_tags (pattern_parts (λ i us. pattern depth i us)) pattern_words Widthsᵖ PatternMeans
    pattern_means (pattern_parts_lem (λ i us. pattern depth i us) (pattern_sound depth)) at ws g e

-- The part of a not.
one_read : (part : Reader Pattern) (f : Pattern → Pattern) (p : Pattern) (at n : ℕ) (us : List ℤ)
    → part at (pattern_words p ++ us) ≡ ok (got p (at + length (pattern_words p)) us) → at + length (pattern_words p) ≡ n
    → pattern_parts part (inner f) at (pattern_words p ++ us) ≡ ok (got (f p) n us)
unfolding pattern_parts ◌then◌ give ◌>>=◌
one_read part f p at n us i k = ap (λ x. x then λ g. give (f g.it) g.next g.rest) i ∙ moved (f p) us k

-- The two parts of a cons, a join, an and or an or.
both_read : (part : Reader Pattern) (f : Pattern → Pattern → Pattern) (p q : Pattern) (at n : ℕ) (us : List ℤ)
    → part at (pattern_words p ++ (pattern_words q ++ us)) ≡ ok (got p (at + length (pattern_words p)) (pattern_words q ++ us))
    → part (at + length (pattern_words p)) (pattern_words q ++ us) ≡ ok (got q (at + length (pattern_words p) + length (pattern_words q)) us)
    → at + length (pattern_words p) + length (pattern_words q) ≡ n
    → pattern_parts part (parts f) at ((pattern_words p ++ pattern_words q) ++ us) ≡ ok (got (f p q) n us)
unfolding pattern_parts ◌then◌ give ◌>>=◌
both_read part f p q at n us i j k =
    ap (pattern_parts part (parts f) at) (append_assoc (pattern_words p) (pattern_words q) us)
    ∙ ap (λ x. x then λ g. part g.next g.rest then λ h. give (f g.it h.it) h.next h.rest) i
    ∙ ap (λ x. x then λ h. give (f p h.it) h.next h.rest) j ∙ moved (f p q) us k

has_word : (p : Pattern) → length (pattern_words p) ≤ 0 → ⊥
unfolding pattern_words
has_word wildcard h = not-suc-le-zero h
has_word nil h = not-suc-le-zero h
has_word (variable v) h = not-suc-le-zero h
has_word (constant c) h = not-suc-le-zero h
has_word (value v c) h = not-suc-le-zero h
has_word (cons p q) h = not-suc-le-zero h
has_word (join p q) h = not-suc-le-zero h
has_word (tuple ps) h = not-suc-le-zero h
has_word (both p q) h = not-suc-le-zero h
has_word (either p q) h = not-suc-le-zero h
has_word (never p) h = not-suc-le-zero h

-- Few words, and good widths.
abbrev Short : ℕ → Pattern → Type 0
Short depth p = (length (pattern_words p) ≤ depth) × Widthsᵖ p

short_opens : (depth : ℕ) → Opens ◌▸ᵖ◌ (Short depth) (λ ps. (length (pattern_words_all ps) ≤ depth) × WidthsAllᵖ ps)
unfolding pattern_words Widthsᵖ
short_opens depth p ps x =
    let l = length-append (pattern_words p) (pattern_words_all ps) in ((omega (arith, x.0, l), x.1.0), (omega (arith, x.0, l), x.1.1))

pub pattern_complete : (depth : ℕ) (p : Pattern) → Short depth p → (at : ℕ) (us : List ℤ)
    → pattern depth at (pattern_words p ++ us) ≡ ok (got p (at + length (pattern_words p)) us)
unfolding pattern pattern_words Widthsᵖ pattern_parts pattern_tags Complete
pattern_complete zero p h at us = absurd (has_word p h.0)
pattern_complete (suc d) wildcard h at us = moved wildcard us (omega arith)
pattern_complete (suc d) nil h at us = moved nil us (omega arith)
pattern_complete (suc d) (variable v) h at us = moved (variable v) us (omega arith)
pattern_complete (suc d) (constant c) h at us = moved (constant c) us (omega arith)
pattern_complete (suc d) (value v c) h at us = moved (value v c) us (omega arith)
pattern_complete (suc d) (cons p q) h at us =
    let l = length-append (pattern_words p) (pattern_words q) in
    both_read (λ i ws. pattern d i ws) cons p q (suc at) _ us (pattern_complete d p (omega (arith, h.0, l), h.1.0) (suc at) (pattern_words q ++ us))
    (pattern_complete d q (omega (arith, h.0, l), h.1.1) (suc at + length (pattern_words p)) us) (omega (arith, l))
pattern_complete (suc d) (join p q) h at us =
    let l = length-append (pattern_words p) (pattern_words q) in
    both_read (λ i ws. pattern d i ws) join p q (suc at) _ us (pattern_complete d p (omega (arith, h.0, l), h.1.0) (suc at) (pattern_words q ++ us))
    (pattern_complete d q (omega (arith, h.0, l), h.1.1) (suc at + length (pattern_words p)) us) (omega (arith, l))
pattern_complete (suc d) (both p q) h at us =
    let l = length-append (pattern_words p) (pattern_words q) in
    both_read (λ i ws. pattern d i ws) both p q (suc at) _ us (pattern_complete d p (omega (arith, h.0, l), h.1.0) (suc at) (pattern_words q ++ us))
    (pattern_complete d q (omega (arith, h.0, l), h.1.1) (suc at + length (pattern_words p)) us) (omega (arith, l))
pattern_complete (suc d) (either p q) h at us =
    let l = length-append (pattern_words p) (pattern_words q) in
    both_read (λ i ws. pattern d i ws) either p q (suc at) _ us (pattern_complete d p (omega (arith, h.0, l), h.1.0) (suc at) (pattern_words q ++ us))
    (pattern_complete d q (omega (arith, h.0, l), h.1.1) (suc at + length (pattern_words p)) us) (omega (arith, l))
pattern_complete (suc d) (never p) h at us =
    one_read (λ i ws. pattern d i ws) never p (suc at) _ us (pattern_complete d p (omega (arith, h.0), h.1) (suc at) us) (omega arith)
pattern_complete (suc d) (tuple ps) h at us = counted_complete in_a_row (λ i ws. pattern d i ws) width tuple (short_opens d)
    (λ p k i ws. pattern_complete d p k i ws) ps (omega (arith, h.0), h.1.1) ((width_is (countᵖ ps)).1 h.1.0) (suc at) _ us (omega arith)

pub pattern_read : (ps : List ℤ) (p : Pattern) → read_pattern ps ≡ ok p ↔ (ps ≡ pattern_words p) × (length ps ≤ 256) × Widthsᵖ p
unfolding read_pattern Complete
pattern_read ps p = (
  λ e. let l = (limited_ok 256 (whole (pattern 256)) ps p).0 e in
      let s = whole_sound (pattern 256) pattern_words Widthsᵖ (pattern_sound 256) ps p l.1 in (s.0, l.0, s.1),
  λ h. (limited_ok 256 (whole (pattern 256)) ps p).1 (
    h.1,
    ap (whole (pattern 256)) h.0 ∙ whole_complete (pattern 256) pattern_words (Short 256) (pattern_complete 256) p
        (subst (λ (l : List ℤ). length l ≤ 256) h.0 h.1, h.2),
  ),
)

-- No words are two patterns'.
pub pattern_once : (p q : Pattern) → length (pattern_words p) ≤ 256 → Widthsᵖ p → Widthsᵖ q → pattern_words p ≡ pattern_words q → p ≡ q
pattern_once p q l a b e = cc ((pattern_read (pattern_words p) p).1 (refl, l, a), (pattern_read (pattern_words p) q).1 (e, l, b))
