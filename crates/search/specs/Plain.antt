-- A step in which every cons opens its frame, a list's too, and one under a multiset with the choices c. (The code takes the one choice of a list's cons at
-- once, and has a multiset's narrowed after the step.)
use Rattle.std.specs.Prelude.{ℕ, ◌+◌, ◌-◌, Bool, List, get_or, eqb, ltb, ℤ, pos}
use Rattle.tables.specs.Slot.{Tables}
use Rattle.search_atom.specs.Leaves.{when, passes_of, none_of}
use Rattle.search_step.specs.declared.State.{State}
use Rattle.search_step.specs.Steps.{Turned, turned, counted, moved, lived, dropped, pushed, pushed_in, apart_of, sides_of}
use Rattle.search_machine.specs.Operations.{opens_with}

unfoldable pub split_of : (o c : ℕ) → State → Tables → Turned
unfolding when pushed pushed_in lived opens_with none_of
split_of o c x t = when (none_of o x.marks) (turned (lived x 2) t) (turned (pushed x) (pushed_in (opens_with o x.marks c) x t))

unfoldable pub divide_of : List ℤ → (o c : ℕ) → (from : List ℕ) → State → Tables → Turned
unfolding when apart_of sides_of split_of
divide_of s o c from x t = when (ltb 10 o) (when (ltb o 14) (apart_of s (o - 10) x t) (sides_of o from x t)) (split_of o c x t)

unfoldable pub step_by : (o : ℕ) → (from to : List ℕ) → List ℤ → List ℤ → Bool → (c : ℕ) → State → Tables → Turned
unfolding when moved divide_of passes_of dropped lived
step_by o from to con s q c x t =
    when (eqb o 1) (turned (moved x (x.pc + 1) x.at x.marks) t)
    (when (ltb 7 o) (divide_of s o c from x t)
    (when (passes_of o q s x.at x.marks (get_or con x.pc (pos 0))) (turned (dropped from to t.ats t.backs x) t) (turned (lived x 2) t)))

unfoldable pub step_of : (op from to : List ℕ) → List ℤ → List ℤ → Bool → (c : ℕ) → State → Tables → Turned
unfolding step_by counted
step_of op from to con s q c x t = step_by (get_or op x.pc 0) from to con s q c (counted x) t
