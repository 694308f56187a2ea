-- The contract of the whole library leaves nothing open: any two answers that it allows agree, and so does every byte.
use Rattle.std.specs.Prelude.{◌≡◌, refl, List, ◌++◌, ℕ, ◌+◌, ◌≤◌, length, replicate, Option, Some, None}
use Rattle.std.proofs.Math.Path.{sym, ap}
use Rattle.std.proofs.Common.{◌∙◌, arith, length-append, take-append-drop, length-take-le, take_at}
use Rattle.std.proofs.Math.ListN.{take, drop}
use Rattle.std.proofs.lemmas.List.{length-replicate}
use Rattle.text.specs.Printed.{printed, empty_lines}
use Rattle.text_print.specs.Meaning.{Text}
use Rattle.text.specs.Meaning.{Answer}
use Rattle.text_print.specs.declared.rows.Rest.{Rest}

-- Where a text ends, and what stands before, follow from the text and its empty lines.
module _ (old new text : List ℕ) (r : Rest) (t : Text old new r text) where
  ends : r.at + r.lines ≡ length text
  ends =
      let a = length-append (take r.at new) (replicate r.lines 10) in
      let b = length-take-le r.at new t.within in
      let c = length-replicate {A = ℕ} r.lines 10 in
      let d = ap length t.whole in
      omega arith

  bytes : new ≡ take r.at text ++ drop r.at old
  bytes =
      let f : take r.at text ≡ take r.at new =
      ap (take r.at) (sym t.whole) ∙ take_at (take r.at new) (replicate r.lines 10) r.at (length-take-le r.at new t.within) in
      sym (take-append-drop r.at new) ∙ rw (f, ← t.kept)

module _ (input old new new' : List ℕ) where
  pub unique : (r r' : Option Rest) → Answer input old new r → Answer input old new' r' → (r ≡ r') × (new ≡ new')
  unfolding Answer
  unique (Some r) (Some r') (h, e, t) (h', e', t') =
      let l : r.lines ≡ r'.lines = e ∙ sym e' in
      let a : r.at ≡ r'.at = (let m = ends old new (printed input) r t in let n = ends old new' (printed input) r' t' in omega arith) in (
        ap (λ n. Some (record { at = n; lines = r.lines })) a ∙ ap (λ n. Some (record { at = r'.at; lines = n })) l,
        bytes old new (printed input) r t ∙ ap (λ (n : ℕ). take n (printed input) ++ drop n old) a ∙ sym (bytes old new' (printed input) r' t'),
      )
  unique (Some r) None (h, e, t) (h', e') = absurd (omega arith)
  unique None (Some r) (h, e) (h', e', t') = absurd (omega arith)
  unique None None (h, e) (h', e') = (refl, e ∙ sym e')
