-- The whole answer, as the code asks: what was written at the start, and rows behind it. Assumes nothing.
use mathlib.Core.Path.{◌≡◌, ◌∙◌, ap}
use mathlib.Core.List.{List, ◌++◌}
use Prim.Native.Nat.{ℕ, ◌+◌, ◌-◌, ◌≤◌}
use native.Mathlib.Omega.{arith}
use lib.IntN.{ℤ}
use lib.ListN.{length}
use lib.Seq.{drop-drop}
use Rattle.text_print.specs.Rows.{cut_rows, lines}
use Rattle.text_print.specs.Meaning.{Wrote, WroteRows, Text}
use Rattle.text_print.specs.declared.rows.Rest.{Rest}
use Rattle.text_print.proofs.Written.{same_long, take_wrote, drop_wrote}

-- A first line, and rows behind it.
module _ (l m n line : List ℕ) (i : ℕ) (r : Rest) (values rows : ℕ) (ws : List ℤ) (w : Wrote l m 0 i line) (q : WroteRows m n i r values rows ws) where
  pub text_rows : i ≤ 132 → length ws ≤ 4096 → 98304 ≤ length l → length n ≡ length m → Text l n r (line ++ lines (cut_rows values rows ws))
  text_rows h f b s =
      let k = same_long l m 0 i line w in
      let e = w.ends in
      let t = q.from in
      let u = q.within in
      let c : i + (r.at - i) ≡ r.at = omega arith in
      let d = drop_wrote l m 0 i line w (omega arith) in
      record {
        whole = q.text ∙ ap (λ (x : List ℕ). x ++ lines (cut_rows values rows ws)) (take_wrote l m 0 i line w (omega arith));
        kept = q.kept ∙ rw (← c, ← drop-drop (r.at - i) i m, d, drop-drop (r.at - i) i l);
        within = omega arith;
      }
