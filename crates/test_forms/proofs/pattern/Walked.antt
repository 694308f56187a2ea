-- Walking a pattern's words is reading them: the walk finds what `read_pattern` finds. Assumes nothing.
use mathlib.Core.Path.{◌≡◌, refl, sym, ◌∙◌, ap}
use mathlib.Core.Bool.{Bool, true, false, cond}
use mathlib.Core.Option.{Option, none, some}
use mathlib.Core.List.{List, [], ◌∷◌}
use Prim.Native.Nat.{ℕ, zero, suc, ◌+◌, ◌≤◌}
use native.Mathlib.Nat.{add-zero}
use native.Mathlib.Numerals.{add-one, add-two}
use native.Mathlib.Omega.{arith}
use borrow.Author.Tests.{leb-true, ne_eqb}
use lib.ListN.{length, get_elem?, length-append}
use lib.Dec.{leb}
use lib.IntN.{ℤ}
use Rattle.std.specs.Prelude.{Err}
use Rattle.rules.specs.Forms.{Pattern, Patterns, no_patterns, ◌▸ᵖ◌}
use Rattle.rules.specs.Reading.{Verdict, ok, fault, ◌then◌, Got, Reader, give, ◌>>=◌, known, word, entry, ended, whole, limited}
use Rattle.rules.specs.Reading.{PatternTag, alone, operand, operands, inner, parts, wide, pattern_tags, pattern_parts, width, times, pattern, read_pattern}
use Rattle.forms.specs.Readers.{Sound}
use Rattle.forms.specs.ReadPattern.{pattern_sound}
use Rattle.forms.specs.Written.{pattern_words}
use Rattle.words.specs.Words.{tag_z}
use Rattle.test_forms.specs.Tests.{tested}
use Rattle.test_forms.specs.Ends.{within}
use Rattle.test_forms.specs.Table.{row_in, row_of, by_row, taken_of}
use Rattle.test_forms.specs.Patterns.{width_in, reads_p, pattern_of}
use Rattle.test_forms.proofs.After.{after, after_then}
use Rattle.test_forms.proofs.Known.{meant, known_word, entry_tag}
use Rattle.test_forms.proofs.Rows.{width_takes}

-- What is left of the words is not more than there were.
shorter : (d p : ℕ) (ws : List ℤ) (g : Got Pattern) → pattern d p ws ≡ ok g → length g.rest ≤ length ws
unfolding Sound
shorter d p ws g e =
    let t = (pattern_sound d p ws g e).0 in
    omega (arith, ap length t, length-append (pattern_words g.it) g.rest)

-- A reader that the walk follows, on up to d words.
Walks : ℕ → Reader Pattern → Type 0
Walks d r = (n p : ℕ) (ws : List ℤ) → length ws ≤ d → reads_p 0 (suc n) p ws ≡ after Err (r p ws) (λ g. reads_p 0 n g.next g.rest)

module _ (d : ℕ) (part : Reader Pattern) (h : Walks d part) (less : (p : ℕ) (ws : List ℤ) (g : Got Pattern) → part p ws ≡ ok g → length g.rest ≤ length ws) where
  -- k patterns in a row, before n others.
  walk_times : (k n p : ℕ) (ws : List ℤ) → length ws ≤ d
      → reads_p 0 (n + k) p ws ≡ after Err (times no_patterns ◌▸ᵖ◌ part k p ws) (λ g. reads_p 0 n g.next g.rest)
  unfolding times ◌>>=◌ ◌then◌ give after Walks
  walk_times zero n p ws l = rw add-zero
  walk_times (suc k) n p ws l = let e : n + suc k ≡ suc (n + k) = omega arith in rw e (h (n + k) p ws l ∙ go (walk_times k n) (part p ws) refl)
    where
      go : ((q : ℕ) (us : List ℤ) → length us ≤ d
          → reads_p 0 (n + k) q us ≡ after Err (times no_patterns ◌▸ᵖ◌ part k q us) (λ g. reads_p 0 n g.next g.rest))
          → (x : Verdict (Got Pattern)) → part p ws ≡ x
          → after Err x (λ g. reads_p 0 (n + k) g.next g.rest)
          ≡ after Err (x then λ g. times no_patterns ◌▸ᵖ◌ part k g.next g.rest then λ j. give (g.it ▸ᵖ j.it) j.next j.rest) (λ g. reads_p 0 n g.next g.rest)
      go f (ok g) e =
          f g.next g.rest (let j = less p ws g e in omega arith)
          ∙ sym (after_then Err (times no_patterns ◌▸ᵖ◌ part k g.next g.rest) (λ j. give (g.it ▸ᵖ j.it) j.next j.rest) (λ j. reads_p 0 n j.next j.rest))
      go f (fault i) e = refl

  -- A width, and so many patterns.
  walk_wide : (f : Patterns → Pattern) (n p : ℕ) (ws : List ℤ) → length ws ≤ d
      → cond (within 2 (width_in ws) 4) (reads_p 1 (n + width_in ws) p ws) (Err p)
      ≡ after Err (pattern_parts part (wide f) p ws) (λ g. reads_p 0 n g.next g.rest)
  unfolding width_in within reads_p pattern_parts known meant ◌>>=◌ ◌then◌ after
  walk_wide f n p [] l = refl
  walk_wide f n p (w ∷ ws) l = go (within 2 (tag_z w) 4)
      ∙ ap (λ (x : Verdict (Got ℕ)). after Err (x then λ g. (times no_patterns ◌▸ᵖ◌ part g.it >>= λ l. give (f l)) g.next g.rest) (λ g. reads_p 0 n g.next g.rest))
      (sym (known_word width p w ws ∙ ap (meant p ws) (width_takes.by_tag w)))
    where
      go : (b : Bool) → cond b (reads_p 1 (n + tag_z w) p (w ∷ ws)) (Err p)
          ≡ after Err (meant p ws (cond b (some (tag_z w)) none) then λ g. (times no_patterns ◌▸ᵖ◌ part g.it >>= λ l. give (f l)) g.next g.rest) (λ g. reads_p 0 n g.next g.rest)
      go true =
          walk_times (tag_z w) n (suc p) ws (omega arith)
          ∙ sym (after_then Err (times no_patterns ◌▸ᵖ◌ part (tag_z w) (suc p) ws) (λ j. give (f j.it) j.next j.rest) (λ j. reads_p 0 n j.next j.rest))
      go false = refl

  walk_tag : (t : PatternTag) (b : Bool) (n p : ℕ) (ws : List ℤ) → length ws ≤ d
      → by_row (row_in (some t) b)
      (Err p)
      (λ o b. reads_p o (n + b) (suc p) ws)
      (cond (within 2 (width_in ws) 4) (reads_p 1 (n + width_in ws) (suc p) ws) (Err (suc p)))
      ≡ after Err (pattern_parts part t (suc p) ws) (λ g. reads_p 0 n g.next g.rest)
  unfolding by_row row_in reads_p pattern_parts ◌>>=◌ ◌then◌ give word known after Walks
  walk_tag (alone q) b n p ws l = rw add-zero
  walk_tag (operand f) b n p [] l = rw (ne_eqb (1 + (n + 0)) 0 (λ e. omega arith))
  walk_tag (operand f) b n p (w ∷ ws) l = rw add-zero
  walk_tag (operands f) b n p [] l = rw (ne_eqb (2 + (n + 0)) 0 (λ e. omega arith))
  walk_tag (operands f) b n p (w ∷ []) l = rw (ne_eqb (1 + (n + 0)) 0 (λ e. omega arith))
  walk_tag (operands f) b n p (w ∷ v ∷ ws) l = rw add-zero
  walk_tag (inner f) b n p ws l =
      rw (add-one n)
      (h n (suc p) ws l
      ∙ sym (after_then Err (part (suc p) ws) (λ k. give (f k.it) k.next k.rest) (λ k. reads_p 0 n k.next k.rest)))
  walk_tag (parts f) b n p ws l = rw (add-two n) (h (suc n) (suc p) ws l ∙ go (part (suc p) ws) refl)
    where
      go : (x : Verdict (Got Pattern)) → part (suc p) ws ≡ x
          → after Err x (λ g. reads_p 0 (suc n) g.next g.rest)
          ≡ after Err (x then λ g. part g.next g.rest then λ k. give (f g.it k.it) k.next k.rest) (λ g. reads_p 0 n g.next g.rest)
      go (ok g) e =
          h n g.next g.rest (let j = less (suc p) ws g e in omega arith)
          ∙ sym (after_then Err (part g.next g.rest) (λ k. give (f g.it k.it) k.next k.rest) (λ k. reads_p 0 n k.next k.rest))
      go (fault i) e = refl
  walk_tag (wide f) b n p ws l = walk_wide f n (suc p) ws l

walks : (d : ℕ) → Walks d (pattern d)
unfolding Walks pattern reads_p after meant row_of
walks zero n p [] l = rw (ne_eqb (0 + suc n) 0 (λ e. omega arith))
walks zero n p (w ∷ ws) l = absurd (omega arith)
walks (suc d) n p [] l = rw (ne_eqb (0 + suc n) 0 (λ e. omega arith))
walks (suc d) n p (w ∷ ws) l =
    go (walks d) (get_elem? pattern_tags (tag_z w)) (taken_of 0 (tag_z w))
    ∙ ap (λ (x : Verdict (Got PatternTag)). after Err (x then λ g. pattern_parts (λ i us. pattern d i us) g.it g.next g.rest) (λ g. reads_p 0 n g.next g.rest))
    (sym (known_word (entry pattern_tags) p w ws ∙ ap (meant p ws) (entry_tag pattern_tags w (omega arith))))
  where
    go : Walks d (pattern d) → (o : Option PatternTag) (b : Bool)
        → by_row (row_in o b)
        (Err p)
        (λ o b. reads_p o (n + b) (suc p) ws)
        (cond (within 2 (width_in ws) 4) (reads_p 1 (n + width_in ws) (suc p) ws) (Err (suc p)))
        ≡ after Err (meant p ws o then λ g. pattern_parts (λ i us. pattern d i us) g.it g.next g.rest) (λ g. reads_p 0 n g.next g.rest)
    go h none b = refl
    go h (some t) b = walk_tag d (λ i us. pattern d i us) h (shorter d) t b n p ws (omega arith)

-- With no pattern to come the words are at their end.
at_end : (x : Verdict (Got Pattern)) → after Err x (λ g. reads_p 0 0 g.next g.rest) ≡ tested (x then ended)
unfolding after reads_p tested ended ◌then◌
at_end (ok g) = go g.rest
  where
    go : (us : List ℤ) → reads_p 0 0 g.next us ≡ tested {A = Pattern} (ended (record { it = g.it; next = g.next; rest = us }))
    go [] = refl
    go (w ∷ ws) = refl
at_end (fault i) = refl

pub read_is : (s : List ℤ) → tested (read_pattern s) ≡ pattern_of s
unfolding read_pattern limited whole pattern_of tested Walks
read_is s = go (leb (length s) 256) refl
  where
    go : (b : Bool) → leb (length s) 256 ≡ b
        → tested {A = Pattern} (elim b as (λ _. Verdict Pattern) [ true ↦ whole (pattern 256) s | false ↦ fault 256 ]) ≡ cond b (reads_p 0 1 0 s) (Err 256)
    go true e = sym (walks 256 0 0 s (leb-true (length s) 256 e) ∙ at_end (pattern 256 0 s))
    go false e = refl
