-- The second pass: one line of it, and the places kept. Assumes nothing.
use Prim.Native.Nat.{ℕ, zero, suc, ◌+◌, ◌-◌, ◌*◌, ◌^◌, ◌<◌, ◌≤◌}
use native.Mathlib.Numerals.{add-one}
use native.Mathlib.Omega.{arith}
use mathlib.Core.Path.{◌≡◌, refl, sym, ◌∙◌}
use mathlib.Core.Bool.{Bool, true, false, cond}
use mathlib.Core.List.{List, ◌∷◌}
use borrow.Author.Rules.{rules}
use borrow.Author.Tests.{ne_eqb}
use lib.ListN.{length, get_or, set, length-set}
use lib.Seq.{get_or-set_same, get_or-set_other}
use mir.Syntax.{w64}
use mir.Val.{Fits}
use Rattle.words.specs.Words.{entries}
use Rattle.program_rules.specs.Lines.{binding}
use Rattle.program_rules.specs.Link.{keeps, takes, top, under, kept_by}
use Rattle.program_rules.specs.Pile.{Pile, pile, kept_at, lower, place_by, to_at, piled}

-- ---- One line.

pub count_bind : (n o : ℕ) → o ≡ 3 → n + 1 ≡ n + binding o
unfolding binding
count_bind n o e = rw e

pub count_other : (n o : ℕ) → (o ≡ 3 → ⊥) → n ≡ n + binding o
unfolding binding
count_other n o h = rw (ne_eqb o 3 h) (omega arith)

pub ruleset count_rules = (count_bind, count_other, rules)

pub place_other : (o pc land : ℕ) → o ≡ 18 → pc + 1 ≡ place_by o pc land
unfolding place_by
place_other o pc land e = rw (e, add-one pc)

pub place_land : (o pc land : ℕ) → (o ≡ 18 → ⊥) → land ≡ place_by o pc land
unfolding place_by
place_land o pc land h = rw (ne_eqb o 18 h)

pub place_fits : (pc : ℕ) → pc < entries → Fits w64 (pc + 1)
place_fits pc h = record { fits = omega arith }

pub place_short : (pc : ℕ) → pc < entries → pc + 1 < 2 ^ 16
place_short pc h = omega arith

pub pc_short : (pc : ℕ) → pc < entries → pc < 2 ^ 16
pc_short pc h = omega arith

pub ruleset place_rules = (place_other, place_land, place_fits, place_short, pc_short, rules)

pub lower_one : (o d : ℕ) (b : Bool) → b ≡ takes o → b ≡ true → d - 1 ≡ lower o d
unfolding lower
lower_one o d b e h = let t : takes o ≡ true = sym e ∙ h in rw t

pub lower_same : (o d : ℕ) (b : Bool) → b ≡ takes o → b ≡ false → d ≡ lower o d
unfolding lower
lower_same o d b e h = let t : takes o ≡ false = sym e ∙ h in rw t

pub to_taken : (o land x : ℕ) (b : Bool) → b ≡ takes o → b ≡ true → x ≡ to_at o land x
unfolding to_at
to_taken o land x b e h = let t : takes o ≡ true = sym e ∙ h in rw t

pub to_land : (o land x : ℕ) (b : Bool) → b ≡ takes o → b ≡ false → land ≡ to_at o land x
unfolding to_at
to_land o land x b e h = let t : takes o ≡ false = sym e ∙ h in rw t

pub ruleset to_rules = (to_taken, to_land, rules)

pub ruleset lower_rules = (lower_one, lower_same, rules)

pub lower_le : (o d : ℕ) → lower o d ≤ d
unfolding lower
lower_le o d = go (takes o)
  where
    go : (b : Bool) → cond b (d - 1) d ≤ d
    go true = omega arith
    go false = omega arith

pub keep_some : (o pc land d e x : ℕ) (k : List ℕ) (b : Bool) → e ≡ lower o d → b ≡ keeps o → b ≡ true → x ≡ place_by o pc land
    → pile (set k (e + 1) x) (e + 1) ≡ piled o pc land (pile k d)
unfolding piled
keep_some o pc land d e x k b l h t y = let z : keeps o ≡ true = sym h ∙ t in rw (z, ← l, ← y)

pub keep_none : (o pc land d e : ℕ) (k : List ℕ) (b : Bool) → e ≡ lower o d → b ≡ keeps o → b ≡ false → pile k e ≡ piled o pc land (pile k d)
unfolding piled
keep_none o pc land d e k b l h t = let z : keeps o ≡ false = sym h ∙ t in rw (z, ← l)

pub keep_fits : (o d e : ℕ) → e ≡ lower o d → d < entries → Fits w64 (e + 1)
keep_fits o d e l h = let a = lower_le o d in record { fits = omega arith }

pub keep_index : (o d e : ℕ) → e ≡ lower o d → d < entries → e + 1 < suc entries
keep_index o d e l h = let a = lower_le o d in omega arith

pub keep_mul : (o d e : ℕ) → e ≡ lower o d → d < entries → Fits w64 ((e + 1) * 2)
keep_mul o d e l h = let a = lower_le o d in record { fits = omega arith }

pub ruleset keep_rules = (keep_some, keep_none, keep_fits, keep_index, keep_mul, rules)

-- ---- The pile is the list of the places kept.

kept_above : (k : List ℕ) (j x d : ℕ) → d < j → kept_at (set k j x) d ≡ kept_at k d
unfolding kept_at
kept_above k j x zero h = refl
kept_above k j x (suc d) h = rw (get_or-set_other k j (suc d) x 0 (λ e. omega arith), kept_above k j x d (omega arith))

kept_push : (k : List ℕ) (d x : ℕ) → suc d < length k → kept_at (set k (suc d) x) (suc d) ≡ x ∷ kept_at k d
unfolding kept_at
kept_push k d x h = rw (get_or-set_same k (suc d) x 0 h, kept_above k (suc d) x d (omega arith))

pub kept_top : (k : List ℕ) (d : ℕ) → get_or k 0 0 ≡ 0 → top (kept_at k d) ≡ get_or k d 0
unfolding kept_at top
kept_top k zero e = sym e
kept_top k (suc d) e = refl

kept_under : (k : List ℕ) (d : ℕ) → under (kept_at k d) ≡ kept_at k (d - 1)
unfolding kept_at under
kept_under k zero = refl
kept_under k (suc d) = let e : suc d - 1 ≡ d = omega arith in rw e

kept_lower : (o : ℕ) (k : List ℕ) (d : ℕ) → cond (takes o) (under (kept_at k d)) (kept_at k d) ≡ kept_at k (lower o d)
unfolding lower
kept_lower o k d = go (takes o)
  where
    go : (b : Bool) → cond b (under (kept_at k d)) (kept_at k d) ≡ kept_at k (cond b (d - 1) d)
    go true = kept_under k d
    go false = refl

-- Where the lines before pc are still to come, each of which can keep one place.
pub record Held (k : List ℕ) (depth pc : ℕ) : Type 0 where
  pub deep : depth + pc ≤ entries
  pub long : length k ≡ suc entries
  pub bottom : get_or k 0 0 ≡ 0

pub held_start : (k : List ℕ) (n pc : ℕ) → n + pc ≤ entries → length k ≡ suc entries → get_or k 0 0 ≡ 0 → Held k 0 pc
held_start k n pc h l b = record { deep = omega arith; long = l; bottom = b }

-- With one place more, x, or without.
record Kept (b : Bool) (x : ℕ) (k : List ℕ) (e pc : ℕ) (t : Pile) : Type 0 where
  is : kept_at t.places t.depth ≡ cond b (x ∷ kept_at k e) (kept_at k e)
  held : Held t.places t.depth (pc - 1)

module _ (k : List ℕ) (depth pc : ℕ) (H : Held k depth pc) where
  pub held_less : Held k depth (pc - 1)
  held_less = let a = H.deep in record { deep = omega arith; long = H.long; bottom = H.bottom }

  kept_by_lem : (b : Bool) (x e : ℕ) → 0 < pc → e ≤ depth → Kept b x k e pc (cond b (pile (set k (e + 1) x) (e + 1)) (pile k e))
  kept_by_lem true x e h l =
      let a = H.deep in
      let c = H.long in
      record {
        is = rw (add-one e) (kept_push k e x (omega arith));
        held = record { deep = omega arith; long = length-set k (e + 1) x ∙ c; bottom = get_or-set_other k (e + 1) 0 x 0 (λ z. omega arith) ∙ H.bottom };
      }
  kept_by_lem false x e h l = let a = H.deep in record { is = refl; held = record { deep = omega arith; long = H.long; bottom = H.bottom } }

  module _ (h : 0 < pc) (o land d : ℕ) (k' : List ℕ) (w : pile k' d ≡ piled o (pc - 1) land (pile k depth)) where
    kept_now : Kept (keeps o) (place_by o (pc - 1) land) k (lower o depth) pc (pile k' d)
    unfolding piled
    kept_now = rw w (kept_by_lem (keeps o) (place_by o (pc - 1) land) (lower o depth) h (lower_le o depth))

    pub held_next : Held k' d (pc - 1)
    held_next = kept_now.held

    pub kept_next : kept_at k' d ≡ kept_by o (pc - 1) land (kept_at k depth)
    unfolding kept_by place_by
    kept_next = kept_now.is ∙ rw (kept_lower o k depth)
