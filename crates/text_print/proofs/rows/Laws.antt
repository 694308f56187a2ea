-- Rows, as the code asks: values counted one by one, rows printed one by one. Assumes nothing.
use Rattle.std.proofs.Common.{◌≡◌, refl, sym, ◌∙◌, ap, List, [], ◌∷◌, ◌++◌, map, ℕ, zero, suc, ◌+◌, ◌-◌, ◌*◌, ◌<◌, ◌≤◌, length, take, drop, replicate, arith, ℤ, pos, negsuc, to_z, of_z, w32, get_or, unsigned_abs, Result, Ok, Err, OkIff}
use lib.Seq.{take_all}
use Rattle.std.specs.Int.{FitsUnsignedBits}
use Rattle.std.specs.Result.{result_unwrap_or}
use Rattle.std.proofs.Common.{true, false, ◌==◌}
use Rattle.std.proofs.lemmas.List.{map-id}
use borrow.Author.Tests.{eq-eqb, ne_eqb, true-eqb, false-eqb}
use mir.Val.{SFits}
use mir.Facts.{to_z-of_z}
use Rattle.rules.specs.Numbers.{same}
use Rattle.words.specs.Words.{tag_z}
use Rattle.text_print.specs.Decimal.{line_of}
use Rattle.text_print.specs.Rows.{nat_of, inside, extent, cut_rows, empty_rows, lines}
use Rattle.text_print.specs.Meaning.{Wrote, WroteRows}
use Rattle.text_print.proofs.Written.{Going, going_on}
use Rattle.text_print.proofs.print.Laws.{line_short}

-- ---- The values inside a value. (The machine reads a word back from its bits before it hands it on.)

module _ (t c : ℤ) (n : ℕ) (f : SFits w32 t) (e : n ≡ tag_z (to_z w32 (of_z w32 t))) where
  pub none_inside : n ≡ 0 → 0 ≡ inside t c
  unfolding inside same
  none_inside z = none t (sym z ∙ rw (to_z-of_z f) at e)
    where
      none : (t : ℤ) → 0 ≡ tag_z t → 0 ≡ inside t c
      none (pos a) q = rw (eq-eqb a 0 (sym q))
      none (negsuc a) q = absurd (omega (arith, q))

  pub so_many : {E : Type 0} (r : Result ℕ E) (u : ℕ) → (n ≡ 0 → ⊥) → SFits w32 c → OkIff r (FitsUnsignedBits 32 (to_z w32 (of_z w32 c))) (unsigned_abs (to_z w32 (of_z w32 c)))
      → u ≡ result_unwrap_or r 0 → u ≡ inside t c
  unfolding inside same nat_of
  so_many r u o g h q = q ∙ count c r g (rw (to_z-of_z g) at h) ∙ sym (opened t (λ z. o (rw (to_z-of_z f) at e ∙ z)))
    where
      opened : (t : ℤ) → (tag_z t ≡ 0 → ⊥) → inside t c ≡ nat_of c
      opened (pos a) z = rw (ne_eqb a 0 z)
      opened (negsuc a) z = refl

      count : {E : Type 0} (c : ℤ) (r : Result ℕ E) → SFits w32 c → OkIff r (FitsUnsignedBits 32 c) (unsigned_abs c) → result_unwrap_or r 0 ≡ nat_of c
      count (pos k) (Ok x) g h = h.1
      count (pos k) (Err y) g h = let l = g.sfits in absurd (h (omega arith))
      count (negsuc k) (Ok x) g h = absurd h.0
      count (negsuc k) (Err y) g h = refl

-- ---- The words of the next values.

pub none_of : (k : ℕ) (ws : List ℤ) → k ≡ 0 → extent k ws ≡ 0
unfolding extent
none_of k [] z = refl
none_of k (t ∷ []) z = refl
none_of zero (t ∷ c ∷ ws) z = refl
none_of (suc k) (t ∷ c ∷ ws) z = absurd (omega (arith, z))

pub too_few : (k : ℕ) (ws : List ℤ) → length ws < 2 → extent k ws ≡ 0
unfolding extent
too_few k [] h = refl
too_few k (t ∷ []) h = refl
too_few k (t ∷ c ∷ ws) h = absurd (omega arith)

-- A value passes its own two words, and opens so many values.
pub record Turn (k n : ℕ) (ws rest : List ℤ) : Type 0 where
  pub turn : extent k ws ≡ 2 + extent (k - 1 + n) rest
  pub shorter : length ws ≡ length rest + 2

pub one_more : (k n : ℕ) (ws : List ℤ) → 2 ≤ length ws → (k ≡ 0 → ⊥) → SFits w32 (get_or ws 0 (pos 0)) → SFits w32 (get_or ws 1 (pos 0))
    → n ≡ inside (to_z w32 (of_z w32 (get_or ws 0 (pos 0)))) (to_z w32 (of_z w32 (get_or ws 1 (pos 0)))) → Turn k n ws (take (length ws - 2) (drop 2 ws))
unfolding extent
one_more k n [] h z f g e = absurd (omega arith)
one_more k n (t ∷ []) h z f g e = absurd (omega arith)
one_more zero n (t ∷ c ∷ ws) h z f g e = absurd (z refl)
one_more (suc k) n (t ∷ c ∷ ws) h z f g e =
    let i : n ≡ inside t c = e ∙ rw (to_z-of_z f, to_z-of_z g) in
    let s : suc k - 1 ≡ k = omega arith in
    let a : take (length (t ∷ c ∷ ws) - 2) ws ≡ ws = take_all (length (t ∷ c ∷ ws) - 2) ws (omega arith) in
    record { turn = rw (a, i, s); shorter = rw a (omega arith) }

-- ---- Rows one by one.

empty_lines : (values rows : ℕ) (ws : List ℤ) → extent values ws ≡ 0 → lines (cut_rows values rows ws) ≡ replicate rows 10
unfolding cut_rows lines line_of
empty_lines values zero ws e = refl
empty_lines values (suc rows) ws e = rw e (ap (λ (l : List ℕ). 10 ∷ l) (empty_lines values rows ws e))

next_row : (values left : ℕ) (ws : List ℤ) → 0 < left
    → lines (cut_rows values left ws) ≡ line_of (take (extent values ws) ws) ++ lines (cut_rows values (left - 1) (drop (extent values ws) ws))
unfolding cut_rows lines
next_row values zero ws h = absurd (omega arith)
next_row values (suc left) ws h = let p : suc left - 1 ≡ left = omega arith in rw p

empty_here : (values left : ℕ) (ws : List ℤ) → 0 < left → extent values ws ≡ 0 → empty_rows values left ws ≡ left
unfolding empty_rows
empty_here values zero ws h z = absurd (omega arith)
empty_here values (suc left) ws h z = rw (eq-eqb (extent values ws) 0 z)

empty_later : (values left : ℕ) (ws : List ℤ) → 0 < left → (extent values ws ≡ 0 → ⊥) → empty_rows values left ws ≡ empty_rows values (left - 1) (drop (extent values ws) ws)
unfolding empty_rows
empty_later values zero ws h z = absurd (omega arith)
empty_later values (suc left) ws h z = let p : suc left - 1 ≡ left = omega arith in rw (p, ne_eqb (extent values ws) 0 z)

-- The rows that are left, in the words that are left.
pub record Rows (values rows : ℕ) (ws : List ℤ) (old : List ℕ) (start : ℕ) (out : List ℕ) (at left : ℕ) (rest : List ℤ) : Type 0 where
  pub going : Going old start (lines (cut_rows values rows ws)) out at (lines (cut_rows values left rest))
  pub empty : empty_rows values rows ws ≡ empty_rows values left rest
  pub from : start ≤ at
  pub within : at + 22 * length rest ≤ start + 22 * length ws

module _ {values rows : ℕ} {ws : List ℤ} {old : List ℕ} {start : ℕ} {out : List ℕ} {at left : ℕ} {rest : List ℤ} (g : Rows values rows ws old start out at left rest) where
  pub rows_done : left ≡ 0 → WroteRows old out start (record { at = at; lines = 0 }) values rows ws
  unfolding cut_rows empty_rows lines
  rows_done z = record {
    text = rw z at g.going.whole;
    kept = g.going.kept;
    empty = sym (rw z at g.empty);
    from = g.from;
    within = let w = g.within in omega arith;
  }

  module _ (e : ℕ) (is : e ≡ extent values rest) (h : 0 < left) where
    pub rows_empty : (row : List ℤ) → length row ≡ e → true ≡ (length row == 0) → WroteRows old out start (record { at = at; lines = left }) values rows ws
    rows_empty row l t =
        let n = true-eqb (length row) 0 t in
        let z : extent values rest ≡ 0 = omega arith in
        record {
          text = rw (← empty_lines values left rest z) g.going.whole;
          kept = g.going.kept;
          empty = sym (g.empty ∙ empty_here values left rest h z);
          from = g.from;
          within = let w = g.within in omega arith;
        }

    module _ (row behind : List ℤ) (a : row ≡ take e rest) (b : behind ≡ drop e rest) (l : length row ≡ e) (k : length behind + e ≡ length rest) where
      pub row_room : start + 22 * length ws ≤ length out → at + 22 * length row ≤ length out
      row_room r = let w = g.within in omega arith

      module _ (f : false ≡ (length row == 0)) where
        some : extent values rest ≡ 0 → ⊥
        some z = false-eqb (length row) 0 f (omega arith)

        pub rows_turn : (m : List ℕ) (r : ℕ) → Wrote out m at r (line_of (map (λ n. n) row)) → start + 22 * length ws ≤ length out
            → Rows values rows ws old start m r (left - 1) behind
        rows_turn m r v room =
            let w : Wrote out m at r (line_of row) = rw map-id at v in
            let z = false-eqb (length row) 0 f in
            let s = line_short row (omega (arith, z)) in
            let j = g.within in
            let c = w.ends in
            let i = g.from in
            record {
              going = going_on old start (lines (cut_rows values rows ws)) out m (line_of row) _ _ at r g.going w (omega arith) (next_row values left rest h ∙ rw (a, b, is));
              empty = g.empty ∙ empty_later values left rest h some ∙ rw (b, is);
              from = omega arith;
              within = omega arith;
            }
