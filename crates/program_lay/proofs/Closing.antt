-- The ends that wait on top of the stack: their lines, and what waits when they are written. Assumes nothing.
use Prim.Native.Nat.{ℕ, zero, suc, ◌+◌, ◌-◌, ◌<◌, ◌≤◌}
use native.Mathlib.Numerals.{add-one}
use native.Mathlib.Omega.{arith}
use native.Mathlib.Decide.{dec_lt}
use mathlib.Core.Path.{◌≡◌, refl, sym, ap, ◌∙◌}
use mathlib.Core.List.{List, [], ◌∷◌, ◌++◌}
use borrow.Author.Rules.{rules}
use borrow.Author.Tests.{lt-ltb, le-ltb}
use lib.ListN.{length, get_or}
use lib.IntN.{ℤ}
use mir.Syntax.{w64}
use mir.Val.{Fits}
use Rattle.words.specs.Words.{entries}
use Rattle.tables.specs.declared.line.Line.{Line}
use Rattle.tables.specs.Line.{Columns, written}
use Rattle.program_rules.specs.Lines.{Waiting, close_line, resumed, laid}
use Rattle.std.specs.Prelude.{Some, None}
use Rattle.program_rules.specs.Stack.{Stack, stack, waiting_at, close_lines}
use Rattle.program_parts.specs.declared.Part.{Part}
use Rattle.program_parts.specs.Parts.{Ended}
use Rattle.program_rules.specs.Made.{resumed_end}

close_more : (s b : List ℕ) (d : ℕ) → 3 < get_or b (suc d) 0 → close_lines s b (suc d) ≡ close_line (get_or b (suc d) 0) (get_or s (suc d) 0) ∷ close_lines s b d
unfolding close_lines
close_more s b d h = rw (lt-ltb 3 (get_or b (suc d) 0) h)

close_none : (s b : List ℕ) (d : ℕ) → get_or b d 0 ≤ 3 → close_lines s b d ≡ []
unfolding close_lines
close_none s b zero h = refl
close_none s b (suc d) h = rw (le-ltb 3 (get_or b (suc d) 0) h)

-- ---- The loop.

pub closing_less : (b : List ℕ) (d : ℕ) → get_or b 0 0 ≡ 0 → 3 < get_or b d 0 → d - 1 < d
closing_less b zero e h = absurd (omega arith)
closing_less b (suc d) e h = omega arith

pub record Closing (depth pc : ℕ) (s b : List ℕ) (t₀ t : Columns) (d q : ℕ) : Type 0 where
  pub whole : laid pc (close_lines s b depth) t₀ ≡ laid q (close_lines s b d) t
  pub place : q + length (close_lines s b d) ≡ pc + length (close_lines s b depth)
  pub level : q + d ≡ pc + depth
  pub deep : d ≤ depth

pub closing_start : (depth pc : ℕ) (s b : List ℕ) (t : Columns) → Closing depth pc s b t t depth pc
closing_start depth pc s b t = record { whole = refl; place = refl; level = refl; deep = omega arith }

module _ (depth pc : ℕ) (s b : List ℕ) (t₀ t : Columns) (d q : ℕ) (c : Closing depth pc s b t₀ t d q) where
  pub closing_some : get_or b 0 0 ≡ 0 → 3 < get_or b d 0 → 0 < d
  closing_some e h = go d h
    where
      go : (k : ℕ) → 3 < get_or b k 0 → 0 < k
      go zero g = absurd (omega arith)
      go (suc k) g = omega arith

  closing_first : get_or b 0 0 ≡ 0 → 3 < get_or b d 0 → close_lines s b d ≡ close_line (get_or b d 0) (get_or s d 0) ∷ close_lines s b (d - 1)
  closing_first e h = go d h
    where
      go : (k : ℕ) → 3 < get_or b k 0 → close_lines s b k ≡ close_line (get_or b k 0) (get_or s k 0) ∷ close_lines s b (k - 1)
      go zero g = absurd (omega arith)
      go (suc k) g = let z : suc k - 1 ≡ k = omega arith in rw z (close_more s b k g)

  pub closing_next : (t' : Columns) → get_or b 0 0 ≡ 0 → 3 < get_or b d 0 → t' ≡ written q (close_line (get_or b d 0) (get_or s d 0)) t → Closing depth pc s b t₀ t' (d - 1) (q + 1)
  unfolding laid
  closing_next t' e h w =
      let f = closing_first e h in
      let z = closing_some e h in
      let n = ap length f in
      let p = c.place in
      let l = c.level in
      let y = c.deep in
      record {
        whole = c.whole ∙ ap (λ ls. laid q ls t) f ∙ rw (add-one q, w);
        place = omega arith;
        level = omega arith;
        deep = omega arith;
      }

  pub closing_low : get_or b 0 0 ≡ 0 → 3 < get_or b d 0 → pc + length (close_lines s b depth) < entries → q < entries
  closing_low e h l = let n = ap length (closing_first e h) in let p = c.place in omega arith

  pub closing_fits : get_or b 0 0 ≡ 0 → 3 < get_or b d 0 → pc + length (close_lines s b depth) < entries → Fits w64 (q + 1)
  closing_fits e h l = let p = closing_low e h l in record { fits = omega arith }

  pub closing_index : depth < 257 → d < 257
  closing_index h = let y = c.deep in omega arith

  pub closing_done : get_or b d 0 ≤ 3 → d + length (close_lines s b depth) ≡ depth
  closing_done h = let n : length (close_lines s b d) ≡ 0 = ap length (close_none s b d h) in let p = c.place in let l = c.level in omega arith

  pub closing_laid : get_or b d 0 ≤ 3 → t ≡ laid pc (close_lines s b depth) t₀
  unfolding laid
  closing_laid h = sym (c.whole ∙ rw (close_none s b d h))

-- The same with the ends taken away one by one, over the stack w₀.
pub record Ending (w₀ w : Stack) (pc q : ℕ) (t₀ t : Columns) : Type 0 where
  pub closing : Closing w₀.depth pc w₀.slots w₀.behind t₀ t w.depth q
  pub same : w ≡ stack w₀.under w₀.slots w₀.behind w.depth

pub ending_start : (w : Stack) (pc : ℕ) (t : Columns) → Ending w w pc pc t t
ending_start w pc t = record { closing = closing_start w.depth pc w.slots w.behind t; same = refl }

module _ (w₀ w w' : Stack) (pc q : ℕ) (t₀ t : Columns) (c : Ending w₀ w pc q t₀ t) where
  behind_same : (k : ℕ) → get_or w.behind k 0 ≡ get_or w₀.behind k 0
  behind_same k = ap (λ (x : Stack). get_or x.behind k 0) c.same

  slot_same : (k : ℕ) → get_or w.slots k 0 ≡ get_or w₀.slots k 0
  slot_same k = ap (λ (x : Stack). get_or x.slots k 0) c.same

  pub ending_shallow : w₀.depth < 257 → w.depth < 257
  ending_shallow h = closing_index _ _ _ _ _ _ _ _ c.closing h

  pub ending_floor : get_or w₀.behind 0 0 ≡ 0 → get_or w.behind 0 0 ≡ 0
  ending_floor e = behind_same 0 ∙ e

  module _ (e : get_or w₀.behind 0 0 ≡ 0) where
    module _ (p : Part) (o : Ended w (Some p) w') where
      more : 3 < get_or w₀.behind w.depth 0
      more = rw (← behind_same w.depth) o.0

      pub ending_less : w'.depth < w.depth
      ending_less = let d : w'.depth ≡ w.depth - 1 = ap (λ (x : Stack). x.depth) o.3 in rw d (closing_less w₀.behind w.depth e more)

      pub ending_low : pc + length (close_lines w₀.slots w₀.behind w₀.depth) < entries → q < entries
      ending_low l = closing_low _ _ _ _ _ _ _ _ c.closing e more l

      pub ending_fits : pc + length (close_lines w₀.slots w₀.behind w₀.depth) < entries → Fits w64 (q + 1)
      ending_fits l = closing_fits _ _ _ _ _ _ _ _ c.closing e more l

      pub ending_next : (t' : Columns) → t' ≡ written q (close_line p.behind p.slot) t → Ending w₀ w' pc (q + 1) t₀ t'
      ending_next t' h =
          let b : p.behind ≡ get_or w₀.behind w.depth 0 = o.1 ∙ behind_same w.depth in
          let s : p.slot ≡ get_or w₀.slots w.depth 0 = o.2 ∙ slot_same w.depth in
          let d : w'.depth ≡ w.depth - 1 = ap (λ (x : Stack). x.depth) o.3 in
          record {
            closing = rw d (closing_next _ _ _ _ _ _ _ _ c.closing t' e more (rw (b, s) at h));
            same = o.3 ∙ (λ i. stack (ap (λ (x : Stack). x.under) c.same i) (ap (λ (x : Stack). x.slots) c.same i) (ap (λ (x : Stack). x.behind) c.same i) (sym d i));
          }

    module _ (o : Ended w None w') where
      most : get_or w₀.behind w.depth 0 ≤ 3
      most = rw (← behind_same w.depth) o.0

      pub ending_place : q ≡ pc + length (close_lines w₀.slots w₀.behind w₀.depth)
      ending_place = let d = closing_done _ _ _ _ _ _ _ _ c.closing most in let l = c.closing.level in omega arith

      pub ending_depth : w'.depth + length (close_lines w₀.slots w₀.behind w₀.depth) ≡ w₀.depth
      ending_depth = rw o.1 (closing_done _ _ _ _ _ _ _ _ c.closing most)

      pub ending_same : w' ≡ stack w₀.under w₀.slots w₀.behind w'.depth
      ending_same = rw o.1 c.same

      pub ending_laid : t ≡ laid pc (close_lines w₀.slots w₀.behind w₀.depth) t₀
      ending_laid = closing_laid _ _ _ _ _ _ _ _ c.closing most

pub ruleset closing_rules = (ending_start, ending_shallow, ending_floor, ending_less, ending_low, ending_fits, ending_next, ending_place, ending_depth, ending_same, ending_laid, rules)

-- ---- What waits then.

module _ (m : List ℤ) (u s b : List ℕ) (again : ℕ → List Waiting → ℕ → List Line) where
  pub resumed_close : (d q : ℕ) → resumed m (waiting_at u s b d) q again
      ≡ close_lines s b d ++ resumed m (waiting_at u s b (d - length (close_lines s b d))) (q + length (close_lines s b d)) again
  unfolding waiting_at close_lines
  resumed_close zero q = let z : q + 0 ≡ q = omega arith in rw z
  resumed_close (suc d) q = go (dec_lt 3 (get_or b (suc d) 0)) (resumed_close d (suc q))
    where
      go : Dec (3 < get_or b (suc d) 0) → resumed m (waiting_at u s b d) (suc q) again
          ≡ close_lines s b d ++ resumed m (waiting_at u s b (d - length (close_lines s b d))) (suc q + length (close_lines s b d)) again
          → resumed m (waiting_at u s b (suc d)) q again
          ≡ close_lines s b (suc d) ++ resumed m (waiting_at u s b (suc d - length (close_lines s b (suc d)))) (q + length (close_lines s b (suc d))) again
      go (yes h) r =
          let y : suc d - suc (length (close_lines s b d)) ≡ d - length (close_lines s b d) = omega arith in
          let x : q + suc (length (close_lines s b d)) ≡ suc q + length (close_lines s b d) = omega arith in
          rw (close_more s b d h, y, x) (resumed_end m (get_or u (suc d) 0) (get_or s (suc d) 0) (get_or b (suc d) 0) (waiting_at u s b d) q again h ∙ ap (λ ls. close_line (get_or b (suc d) 0) (get_or s (suc d) 0) ∷ ls) r)
      go (no h) r =
          let e : close_lines s b (suc d) ≡ [] = close_none s b (suc d) (omega arith) in
          let z : q + 0 ≡ q = omega arith in
          let y : suc d - 0 ≡ suc d = omega arith in
          rw (e, y, z)

-- No end is on top then.
pub opened : (s b : List ℕ) (d e : ℕ) → e + length (close_lines s b d) ≡ d → (e ≡ 0 → ⊥) → get_or b e 0 ≤ 3
opened s b zero e h z = absurd (z (omega arith))
opened s b (suc d) e h z = go (dec_lt 3 (get_or b (suc d) 0)) (λ g. opened s b d e g z)
  where
    go : Dec (3 < get_or b (suc d) 0) → (e + length (close_lines s b d) ≡ d → get_or b e 0 ≤ 3) → get_or b e 0 ≤ 3
    go (yes l) r = let n = ap length (close_more s b d l) in r (omega arith)
    go (no l) r =
        let g : get_or b (suc d) 0 ≤ 3 = omega arith in
        let n : length (close_lines s b (suc d)) ≡ 0 = ap length (close_none s b (suc d) g) in
        let y : e ≡ suc d = omega arith in
        rw y g
