-- Rows that are cut apart are the rows that match wrote one after the other, where each has as many values as there are variables.
use Rattle.std.specs.Prelude.{◌≡◌, refl, List, [], ◌∷◌, ◌++◌, map, ℕ, suc, ◌+◌, ℤ, length}
use Rattle.std.proofs.Common.{sym, ◌∙◌, ap, append_assoc, add-zero, arith, length-append, take_at, drop_at}
use Rattle.rules.specs.Numbers.{same}
use Rattle.rules.specs.Forms.{Value, int, collection, tupled, Values, empty, ◌▸◌, count, words, words_all}
use Rattle.rules.specs.Origins.{Bindings, plain}
use Rattle.rules.specs.Rows.{as_words, told, row}
use Rattle.text_print.specs.Rows.{nat_of, inside, extent, cut_rows}

-- Values have their words, whatever stands behind them.
mutual
  unfolding extent inside same nat_of words words_all count

  one_value : (v : Value) (k : ℕ) (us : List ℤ) → extent (suc k) (words v ++ us) ≡ length (words v) + extent k us
  one_value (int x) k us = rw (add-zero k)
  one_value (collection vs) k us = rw (all_values vs k us) (omega arith)
  one_value (tupled vs) k us = rw (all_values vs k us) (omega arith)

  all_values : (vs : Values) (k : ℕ) (us : List ℤ) → extent (k + count vs) (words_all vs ++ us) ≡ length (words_all vs) + extent k us
  all_values empty k us = rw (add-zero k) (omega arith)
  all_values (v ▸ vs) k us =
      let s : k + suc (count vs) ≡ suc (k + count vs) = omega arith in
      let a = length-append (words v) (words_all vs) in
      let b = one_value v (k + count vs) (words_all vs ++ us) in
      let c = all_values vs k us in
      rw (s, append_assoc (words v) (words_all vs) us) (omega arith)

no_values : (us : List ℤ) → extent 0 us ≡ 0
unfolding extent
no_values [] = refl
no_values (t ∷ []) = refl
no_values (t ∷ c ∷ us) = refl

a_row : (e : Bindings) (k : ℕ) (us : List ℤ) → extent (length e + k) (row as_words e ++ us) ≡ length (row as_words e) + extent k us
unfolding row told
a_row [] k us = let z : 0 + k ≡ k = omega arith in rw z (omega arith)
a_row (v ∷ e) k us =
    let s : suc (length e) + k ≡ suc (length e + k) = omega arith in
    let a = length-append (words (plain v)) (row as_words e) in
    let b = one_value (plain v) (length e + k) (row as_words e ++ us) in
    let c = a_row e k us in
    rw (s, append_assoc (words (plain v)) (row as_words e) us) (omega arith)

unfoldable pub written : List Bindings → List ℤ
unfolding row
written [] = []
written (e ∷ es) = row as_words e ++ written es

-- All rows have so many values.
unfoldable pub Each : ℕ → List Bindings → Type 0
Each values [] = Unit {0}
Each values (e ∷ es) = (length e ≡ values) × Each values es

pub cut_written : (values : ℕ) (es : List Bindings) (us : List ℤ) → Each values es → cut_rows values (length es) (written es ++ us) ≡ map (row as_words) es
unfolding cut_rows written Each
cut_written values [] us h = refl
cut_written values (e ∷ es) us (l, h) =
    let z : length e + 0 ≡ values = omega arith in
    let n : extent values (row as_words e ++ (written es ++ us)) ≡ length (row as_words e) =
    ap (λ (k : ℕ). extent k (row as_words e ++ (written es ++ us))) (sym z) ∙ a_row e 0 (written es ++ us) ∙ rw (no_values (written es ++ us)) (omega arith) in
    rw (append_assoc (row as_words e) (written es) us, n, take_at (row as_words e) (written es ++ us) (length (row as_words e)) refl, drop_at (row as_words e) (written es ++ us) (length (row as_words e)) refl)
    (ap (λ (l : List (List ℤ)). row as_words e ∷ l) (cut_written values es us h))
