-- One turn of the first pass: what comes of it stays the same, and its numbers keep their bounds. Assumes nothing.
use Prim.Native.Nat.{ℕ, zero, suc, ◌+◌, ◌-◌, ◌<◌, ◌≤◌}
use native.Mathlib.Numerals.{add-one}
use native.Mathlib.Omega.{arith}
use mathlib.Core.Path.{◌≡◌, refl, sym, ap, ◌∙◌}
use mathlib.Core.Bool.{Bool, true, false, cond}
use mathlib.Core.List.{List, [], ◌∷◌, ◌++◌}
use borrow.Author.Tests.{eqb-true, lt-ltb, le-ltb}
use lib.Dec.{eqb}
use lib.ListN.{length, length-append, get_or, drop, set, length-set, drop_of_length-le}
use lib.Seq.{drop-cons, drop-drop, get_or-set_other}
use lib.IntN.{ℤ, pos, negsuc}
use mir.Syntax.{w64}
use mir.Val.{Fits}
use Rattle.words.specs.Words.{tag_at, entries}
use Rattle.words.proofs.Signed.{within}
use Rattle.tables.specs.declared.line.Line.{Line}
use Rattle.tables.specs.Line.{Columns, written}
use Rattle.program_rules.specs.Lines.{line, end_line, reserved_lines, ops_under, op_of, operands_of, beyond_two, reserved_by, strip_lines, leaf_line, first_under, second_under}
use Rattle.program_rules.specs.Lines.{Waiting, waits, slot_of, from_by, slot_by, behind_by, others, else_lines, resumed, divided, lines_from, lines_split, lines_leaf, lines_of, laid}
use Rattle.program_rules.specs.Stack.{stack, waiting_at, popped, close_lines}
use Rattle.program_rules.specs.Made.{cond_le, op_most}
use Rattle.program_rules.specs.Bounds.{few, few_part, by_few, reserved_length, lines_few}
use Rattle.program_parts.proofs.Laws.{operands_le}
use Rattle.program_lay.proofs.Closing.{resumed_close, opened}
use Rattle.program.specs.Pass.{Progress, cursor, Outcome, laying, ahead, outcome, Within}
use Rattle.program.proofs.Stack.{waiting_push, pair_sum, slot_top, waiting_pop, Left, pop_left}

-- ---- Lines.

laid_append : (pc : ℕ) (xs ys : List Line) (t : Columns) → laid pc (xs ++ ys) t ≡ laid (pc + length xs) ys (laid pc xs t)
unfolding laid
laid_append pc [] ys t = let e : pc + 0 ≡ pc = omega arith in rw e
laid_append pc (x ∷ xs) ys t =
    let e : pc + suc (length xs) ≡ suc pc + length xs = omega arith in
    rw (e) (laid_append (suc pc) xs ys (written pc x t))

-- The first lines are laid already.
laying_on : (pc q : ℕ) (xs ys : List Line) (t t' : Columns) → q ≡ pc + length xs → t' ≡ laid pc xs t → laying pc (xs ++ ys) t ≡ laying q ys t'
unfolding laying
laying_on pc q xs ys t t' e w =
    let a : pc + (length xs + length ys) ≡ pc + length xs + length ys = omega arith in
    rw (laid_append pc xs ys t, length-append xs ys, a, e, w)

laying_one : (pc q : ℕ) (x : Line) (ls : List Line) (t t' : Columns) → q ≡ suc pc → t' ≡ written pc x t → laying pc (x ∷ ls) t ≡ laying q ls t'
unfolding laying laid
laying_one pc q x ls t t' e w = let a : pc + suc (length ls) ≡ suc pc + length ls = omega arith in rw (a, e, w)

skips : (m : List ℤ) (o i : ℕ) (ts : List Waiting) (pc : ℕ) (ws : List ℤ) → lines_from m o i ts pc ws ≡ lines_from m 0 i ts pc (drop o ws)
unfolding lines_from
skips m zero i ts pc ws = refl
skips m (suc o) i ts pc [] = refl
skips m (suc o) i ts pc (w ∷ ws) = skips m o i ts pc ws

-- The places that are reserved are few.
reserved_few : (o : ℕ) (ws : List ℤ) → reserved_by o ws ≤ 2
unfolding reserved_by beyond_two
reserved_few o ws =
    cond_le (eqb o 11) _ 0 (cond_le (eqb (tag_at ws 0) 3) 1 _ (omega arith) (cond_le (eqb (tag_at ws 0) 4) 2 0 (omega arith) (omega arith))) (omega arith)

-- A cons or a tuple stands under a matcher that has words after its tag.
op_under : (tag k : ℕ) → 7 < op_of tag k → (op_of tag k ≡ 10 → ⊥) → op_of tag k ≤ 13 → k < 2147483648
unfolding op_of ops_under
op_under zero k l z w = absurd (omega arith)
op_under (suc zero) k l z w = absurd (omega arith)
op_under (suc (suc zero)) k l z w = absurd (omega arith)
op_under (suc (suc (suc zero))) k l z w = go (eqb k 1) l
  where
    go : {A : Type 0} (b : Bool) → 7 < cond b 5 6 → A
    go true h = absurd (omega arith)
    go false h = absurd (omega arith)
op_under (suc (suc (suc (suc zero)))) k l z w = absurd (omega arith)
op_under (suc (suc (suc (suc (suc zero))))) k l z w = go (eqb k 2) (eqb-true k 2) (eqb k 3) (eqb-true k 3) l
  where
    go : (a : Bool) → (a ≡ true → k ≡ 2) → (b : Bool) → (b ≡ true → k ≡ 3) → 7 < cond a 8 (cond b 9 0) → k < 2147483648
    go true f b g h = let e = f refl in omega arith
    go false f true g h = let e = g refl in omega arith
    go false f false g h = absurd (omega arith)
op_under (suc (suc (suc (suc (suc (suc zero)))))) k l z w = absurd (z refl)
op_under (suc (suc (suc (suc (suc (suc (suc zero))))))) k l z w = go (eqb k 4) (eqb-true k 4) l
  where
    go : (a : Bool) → (a ≡ true → k ≡ 4) → 7 < cond a 11 0 → k < 2147483648
    go true f h = let e = f refl in omega arith
    go false f h = absurd (omega arith)
op_under (suc (suc (suc (suc (suc (suc (suc (suc zero)))))))) k l z w = absurd (omega arith)
op_under (suc (suc (suc (suc (suc (suc (suc (suc (suc zero))))))))) k l z w = absurd (omega arith)
op_under (suc (suc (suc (suc (suc (suc (suc (suc (suc (suc zero)))))))))) k l z w = absurd (omega arith)
op_under (suc (suc (suc (suc (suc (suc (suc (suc (suc (suc (suc t))))))))))) k l z w = absurd (omega arith)

resumed_open : (m : List ℤ) (i c n : ℕ) (ts : List Waiting) (pc : ℕ) (again : ℕ → List Waiting → ℕ → List Line) → n ≤ 3
    → resumed m (waits i c n ∷ ts) pc again ≡ else_lines n ++ again i (others m i c n ts) (pc + length (else_lines n))
unfolding resumed
resumed_open m i c n ts pc again h = rw (le-ltb 3 n h)

-- What comes after the lines of a tag without parts that has n operands, by what waits and the place.
pub after : (m p : List ℤ) (n at : ℕ) → List Waiting → ℕ → List Line
after m p n at ts pc = resumed m ts pc (λ j us q. lines_from m n j us q (drop (suc at) p))

-- ---- What is known of the tag at the cursor.

pub record Tagged (m p : List ℤ) (u s b : List ℕ) (c : Progress) (t : Columns) (k o n : ℕ) : Type 0 where
  pub fits : Within u s b c
  pub brief : length m ≤ 64
  pub short : length p ≤ 256
  pub inside : c.at < length p
  pub under : k ≡ tag_at m c.i
  pub op : o ≡ op_of (tag_at p c.at) k
  pub skip : n ≡ operands_of o
  pub low : (outcome m p u s b c t).lines < entries

module _ {m p : List ℤ} {u s b : List ℕ} {c : Progress} {t : Columns} {k o n : ℕ} (T : Tagged m p u s b c t k o n) where
  slot_is : slot_of (waiting_at u s b c.depth) ≡ get_or s c.depth 0
  slot_is = slot_top u s b c.depth T.fits.bottom

  pub slot_asks : c.pc < 1000
  unfolding outcome laying
  slot_asks = omega (arith, T.low)

  pub skip_fits : Fits w64 (c.at + 1 + n)
  skip_fits = record { fits = omega (arith, T.short, T.inside, T.skip, operands_le o) }

  -- ---- A tag with parts.

  pub under_asks : 7 < o → (o ≡ 10 → ⊥) → o ≤ 13 → c.i + 2 < 256
  under_asks l z w =
      let e = T.op in
      let a = within m c.i k T.under (op_under (tag_at p c.at) k (rw e at l) (λ f. z (e ∙ f)) (rw e at w)) in
      omega (arith, T.brief)

  module _ (l : 7 < o) (r : ℕ) (rs : r ≡ reserved_by o (drop (c.at + 1) p)) where
    split_lines : ahead m p u s b c ≡ line (o + r) (from_by o (waiting_at u s b c.depth)) 0 c.i (pos 0) ∷ (reserved_lines r ++ lines_from m 0 (first_under o c.i) (waits (second_under m o c.i) (slot_by o c.pc (waiting_at u s b c.depth)) (behind_by o r) ∷ waiting_at u s b c.depth) (suc c.pc + r) (drop (c.at + 1 + n) p))
    unfolding ahead divided tag_at
    split_lines =
        let e : suc (c.pc + r) ≡ suc c.pc + r = omega arith in
        ap (lines_from m 0 c.i _ c.pc) (drop-cons p c.at (negsuc 0) T.inside)
        ∙ lines_split m c.i (get_or p c.at (negsuc 0)) k o T.under T.op (lt-ltb 7 o l) (waiting_at u s b c.depth) c.pc (drop (suc c.at) p)
        ∙ rw (← add-one c.at, ← rs, ← T.skip, skips m n, drop-drop n (c.at + 1) p, e)

    pub divide_asks : (suc c.pc + r < entries) × (o + r < 256)
    unfolding outcome laying
    divide_asks =
        let a = simp (length-append, reserved_length) at (ap length split_lines) in
        let g = reserved_few o (drop (c.at + 1) p) in
        let h = op_most (tag_at p c.at) k in
        (omega (arith, T.low), omega (arith, T.op))

    module _ (i' u' q sb bb fb : ℕ) (t' : Columns) (x : i' ≡ first_under o c.i) (y : u' ≡ second_under m o c.i)
        (es : sb ≡ cond (eqb o 15) (get_or s c.depth 0) c.pc) (eb : bb ≡ behind_by o r) (ef : fb ≡ cond (eqb o 16) (get_or s c.depth 0) 0)
        (eq : q ≡ suc c.pc + r) (w : t' ≡ laid c.pc (line (o + r) fb 0 c.i (pos 0) ∷ reserved_lines r) t) where
      from_is : from_by o (waiting_at u s b c.depth) ≡ fb
      unfolding from_by
      from_is = rw slot_is (sym ef)

      by_is : slot_by o c.pc (waiting_at u s b c.depth) ≡ sb
      unfolding slot_by
      by_is = rw slot_is (sym es)

      by_low_lem : sb + few bb ≤ c.pc + r
      by_low_lem =
          let a : slot_of (waiting_at u s b c.depth) ≤ c.pc = rw slot_is (omega (arith, T.fits.sums c.depth)) in
          rw (← by_is, eb) (by_few o c.pc r (waiting_at u s b c.depth) a (rw rs (reserved_few o (drop (c.at + 1) p))))

      split_within : Within (set u (c.depth + 1) u') (set s (c.depth + 1) sb) (set b (c.depth + 1) bb) (cursor (c.at + 1 + n) q (c.depth + 1) i')
      split_within =
          let W = T.fits in
          let e = T.inside in
          let f = T.short in
          let g = by_low_lem in
          record {
            deep = omega arith;
            bottom = get_or-set_other s (c.depth + 1) 0 sb 0 (λ h. omega arith) ∙ W.bottom;
            floor = get_or-set_other b (c.depth + 1) 0 bb 0 (λ h. omega arith) ∙ W.floor;
            sums = λ j. pair_sum s b (c.depth + 1) sb bb j q (omega arith) (omega arith) (omega arith) (omega (arith, W.sums j));
            long = length-set u (c.depth + 1) u' ∙ W.long;
            wide = length-set s (c.depth + 1) sb ∙ W.wide;
            tall = length-set b (c.depth + 1) bb ∙ W.tall;
          }

      split_outcome : outcome m p (set u (c.depth + 1) u') (set s (c.depth + 1) sb) (set b (c.depth + 1) bb) (cursor (c.at + 1 + n) q (c.depth + 1) i') t' ≡ outcome m p u s b c t
      unfolding outcome ahead
      split_outcome =
          let W = T.fits in
          let e = T.inside in
          let f = T.short in
          let v = waiting_push u s b c.depth u' sb bb (omega arith) (omega arith) (omega arith) in
          let g : q ≡ c.pc + suc (length (reserved_lines r)) = omega (arith, reserved_length r) in
          rw v (sym (ap (λ ls. laying c.pc ls t) split_lines ∙ rw (from_is, by_is, ← eb, ← x, ← y, ← eq) (laying_on c.pc q (line (o + r) fb 0 c.i (pos 0) ∷ reserved_lines r) _ t t' g w)))

      pub split_returns : (c.at < c.at + 1 + n)
          × (Within (set u (c.depth + 1) u') (set s (c.depth + 1) sb) (set b (c.depth + 1) bb) (cursor (c.at + 1 + n) q (c.depth + 1) i')
          × (outcome m p (set u (c.depth + 1) u') (set s (c.depth + 1) sb) (set b (c.depth + 1) bb) (cursor (c.at + 1 + n) q (c.depth + 1) i') t' ≡ outcome m p u s b c t))
      split_returns = (omega arith, (split_within, split_outcome))

-- ---- A tag without parts, and the ends that wait on top.

pub record Closed (m p : List ℤ) (u s b : List ℕ) (c : Progress) (t : Columns) (n d pc : ℕ) (t' : Columns) : Type 0 where
  pub rest : outcome m p u s b c t ≡ laying pc (after m p n c.at (waiting_at u s b d) pc) t'
  pub low : pc < entries
  pub later : c.pc ≤ pc
  pub lower : d ≤ c.depth
  pub index : d < 257
  pub top : (d ≡ 0 → ⊥) → get_or b d 0 ≤ 3
  pub fits : Within u s b c
  pub brief : length m ≤ 64
  pub inside : c.at < length p

module _ {m p : List ℤ} {u s b : List ℕ} {c : Progress} {t : Columns} {k o n : ℕ} (T : Tagged m p u s b c t k o n) (l : o ≤ 7) where
  leaf_lines : ahead m p u s b c ≡ strip_lines k o c.i ++ (leaf_line o c.i (get_or s c.depth 0) (drop (c.at + 1) p) ∷ after m p n c.at (waiting_at u s b c.depth) (suc (c.pc + length (strip_lines k o c.i))))
  unfolding ahead after tag_at
  leaf_lines =
      ap (lines_from m 0 c.i _ c.pc) (drop-cons p c.at (negsuc 0) T.inside)
      ∙ lines_leaf m c.i (get_or p c.at (negsuc 0)) k o T.under T.op (le-ltb 7 o l) (waiting_at u s b c.depth) c.pc (drop (suc c.at) p)
      ∙ rw (slot_is T, add-one c.at, ← T.skip)

  pub leaf_asks : c.pc + 1 < entries
  unfolding outcome laying
  leaf_asks = let a = simp length-append at (ap length leaf_lines) in omega (arith, T.low)

  module _ (q : ℕ) (t₁ : Columns) (e : q ≡ suc (c.pc + length (strip_lines k o c.i)))
      (w : t₁ ≡ written (c.pc + length (strip_lines k o c.i)) (leaf_line o c.i (get_or s c.depth 0) (drop (c.at + 1) p)) (laid c.pc (strip_lines k o c.i) t)) where
    leaf_rest : outcome m p u s b c t ≡ laying q (after m p n c.at (waiting_at u s b c.depth) q) t₁
    unfolding outcome
    leaf_rest =
        ap (λ ls. laying c.pc ls t) leaf_lines
        ∙ laying_on c.pc (c.pc + length (strip_lines k o c.i)) (strip_lines k o c.i) _ t _ refl refl
        ∙ rw (← e) (laying_one _ q _ _ _ t₁ e w)

    close_lines_lem : after m p n c.at (waiting_at u s b c.depth) q
        ≡ close_lines s b c.depth ++ after m p n c.at (waiting_at u s b (c.depth - length (close_lines s b c.depth))) (q + length (close_lines s b c.depth))
    unfolding after
    close_lines_lem = resumed_close m u s b (λ j us z. lines_from m n j us z (drop (suc c.at) p)) c.depth q

    close_low : q + length (close_lines s b c.depth) < entries
    unfolding laying
    close_low = let a = ap (λ (r : Outcome). r.lines) leaf_rest in let f = simp length-append at (ap length close_lines_lem) in omega (arith, T.low)

    pub close_asks : (c.depth < 257) × ((get_or b 0 0 ≡ 0) × (q + length (close_lines s b c.depth) < entries))
    close_asks = (omega (arith, T.fits.deep, T.inside, T.short), (T.fits.floor, close_low))

    pub closes : (d end : ℕ) (t' : Columns) → end ≡ q + length (close_lines s b c.depth) → d + length (close_lines s b c.depth) ≡ c.depth → t' ≡ laid q (close_lines s b c.depth) t₁
        → Closed m p u s b c t n d end t'
    closes d end t' g h x =
        let y : c.depth - length (close_lines s b c.depth) ≡ d = omega arith in
        let z : q + length (close_lines s b c.depth) ≡ end = sym g in
        let f = close_low in
        record {
          rest = leaf_rest ∙ ap (λ ls. laying q ls t₁) close_lines_lem ∙ rw (y, z) (laying_on q end (close_lines s b c.depth) _ t₁ t' g x);
          low = omega arith;
          later = omega arith;
          lower = omega arith;
          index = omega (arith, close_asks.0);
          top = opened s b c.depth d h;
          fits = T.fits;
          brief = T.brief;
          inside = T.inside;
        }

module _ {m p : List ℤ} {u s b : List ℕ} {c : Progress} {t : Columns} {n d pc : ℕ} {t' : Columns} (C : Closed m p u s b c t n d pc t') where
  pub close_fits : Fits w64 pc
  close_fits = record { fits = omega (arith, C.low) }

  -- Nothing waits: what is left of the words is passed over.
  pub done : d ≡ 0 → (c.at < length p) × (Within u s b (cursor (length p) pc 0 0) × (outcome m p u s b (cursor (length p) pc 0 0) t' ≡ outcome m p u s b c t))
  unfolding outcome ahead lines_from after waiting_at resumed
  done z =
      let W = C.fits in
      let e = C.later in (
        C.inside,
        (
          record {
            deep = omega arith;
            bottom = W.bottom;
            floor = W.floor;
            sums = λ j. omega (arith, W.sums j);
            long = W.long;
            wide = W.wide;
            tall = W.tall;
          },
          rw (drop_of_length-le p {i = length p} (omega arith)) (sym (C.rest ∙ rw z)),
        ),
      )

  module _ (z : d ≡ 0 → ⊥) where
    pub pop_asks : (length m ≤ 64) × ((0 < d) × (d < 257) × (get_or s d 0 < 1000))
    pop_asks = (C.brief, (omega arith, C.index, omega (arith, C.low, C.later, C.fits.sums d)))

    module _ (q : ℕ) (t'' : Columns) (e : q ≡ pc + length (else_lines (get_or b d 0))) (w : t'' ≡ laid pc (else_lines (get_or b d 0)) t')
        (u' s' b' : List ℕ) (d' : ℕ) (x : stack u' s' b' d' ≡ popped m (stack u s b d)) where
      left : Left m (stack u s b d) (stack u' s' b' d')
      left =
          let W = C.fits in
          let f = C.index in
          rw x (pop_left m (stack u s b d) z (C.top z) (omega arith) (omega arith) (omega arith))

      next_lines : after m p n c.at (waiting_at u s b d) pc ≡ else_lines (get_or b d 0) ++ lines_from m 0 (get_or u d 0) (waiting_at u' s' b' d') q (drop (c.at + 1 + n) p)
      unfolding after
      next_lines =
          rw (waiting_pop u s b d z, left.waits, e, add-one c.at)
          (resumed_open m (get_or u d 0) (get_or s d 0) (get_or b d 0) (waiting_at u s b (d - 1)) pc _ (C.top z)
          ∙ rw (skips m n, drop-drop n (suc c.at) p))

      pub leaf_returns : (c.at < c.at + 1 + n) × (Within u' s' b' (cursor (c.at + 1 + n) q d' (get_or u d 0))
          × (outcome m p u' s' b' (cursor (c.at + 1 + n) q d' (get_or u d 0)) t'' ≡ outcome m p u s b c t))
      unfolding outcome ahead
      leaf_returns =
          let W = C.fits in
          let f = C.later in
          let g = C.lower in
          let h = left.lower in (
            omega arith,
            (
              record {
                deep = omega arith;
                bottom = left.bottom ∙ W.bottom;
                floor = left.floor ∙ W.floor;
                sums = λ j. omega (arith, left.sums j, W.sums j);
                long = left.long ∙ W.long;
                wide = left.wide ∙ W.wide;
                tall = left.tall ∙ W.tall;
              },
              sym (C.rest ∙ ap (λ ls. laying pc ls t') next_lines ∙ laying_on pc q (else_lines (get_or b d 0)) _ t' t'' e w),
            ),
          )

-- ---- The pass as a whole, over the table t₀.

pub record Passing (m p : List ℤ) (t₀ : Columns) (u s b : List ℕ) (c : Progress) (t : Columns) : Type 0 where
  pub fits : Within u s b c
  pub whole : outcome m p u s b c t ≡ laying 0 (lines_of m p) t₀

pub start : (m p : List ℤ) (t : Columns) (u s b : List ℕ) → length u ≡ 257 → length s ≡ 257 → length b ≡ 257
    → ((j : ℕ) → get_or s j 0 ≡ 0) → ((j : ℕ) → get_or b j 0 ≡ 0) → Passing m p t u s b (cursor 0 0 0 0) t
unfolding outcome ahead lines_of waiting_at
start m p t u s b h l k e f = record {
  fits = record {
    deep = omega arith;
    bottom = e 0;
    floor = f 0;
    sums = λ j. let x = e j in let y = few_part (get_or b j 0) (omega (arith, f j)) in omega (arith, f j);
    long = h;
    wide = l;
    tall = k;
  };
  whole = refl;
}

pub goes_on_lem : {m p : List ℤ} {t₀ : Columns} {u s b u' s' b' : List ℕ} {c c' : Progress} {t t' : Columns} → Passing m p t₀ u s b c t
    → Within u' s' b' c' → outcome m p u' s' b' c' t' ≡ outcome m p u s b c t → Passing m p t₀ u' s' b' c' t'
goes_on_lem P W e = record { fits = W; whole = e ∙ P.whole }

module _ {m p : List ℤ} {t₀ : Columns} {u s b : List ℕ} {c : Progress} {t : Columns} (P : Passing m p t₀ u s b c t) (short : length p ≤ 256) where
  pub lines_low : (outcome m p u s b c t).lines < entries
  unfolding laying
  lines_low = rw P.whole (omega (arith, lines_few m p short))

  module _ (h : length p ≤ c.at) where
    end_is : laying c.pc (end_line ∷ []) t ≡ laying 0 (lines_of m p) t₀
    unfolding outcome ahead lines_from
    end_is = rw (drop_of_length-le p h) at P.whole

    end_count : suc c.pc ≡ length (lines_of m p)
    unfolding laying
    end_count = let a = ap (λ (r : Outcome). r.lines) end_is in omega arith

    pub end_low : c.pc < entries
    end_low = omega (arith, end_count, lines_few m p short)

    pub end_returns : (t' : Columns) → t' ≡ written c.pc end_line t → (suc c.pc ≡ length (lines_of m p)) × (t' ≡ laid 0 (lines_of m p) t₀)
    unfolding laying laid
    end_returns t' w = (end_count, w ∙ ap (λ (r : Outcome). r.table) end_is)
