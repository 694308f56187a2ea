-- The parts that wait by the definitions: a list for each number of a part, up to a depth.
use Rattle.std.specs.Prelude.{ℕ, ◌+◌, ◌-◌, ◌<◌, ◌≤◌, ◌≡◌, List, map, get_or, set, Option, MatchOption}
use Rattle.program_rules.specs.Stack.{Stack, stack}
use Rattle.program_parts.specs.declared.Part.{Part}
use Rattle.program_parts.specs.declared.Parts.{Parts}

abbrev pub no_part : Part
no_part = record { slot = 0; under = 0; behind = 0 }

abbrev pub unders : List Part → List ℕ
unders ps = map (λ (p : Part). p.under) ps

abbrev pub slots : List Part → List ℕ
slots ps = map (λ (p : Part). p.slot) ps

abbrev pub behinds : List Part → List ℕ
behinds ps = map (λ (p : Part). p.behind) ps

abbrev pub stack_of : Parts → Stack
stack_of w = stack (unders w.waiting) (slots w.waiting) (behinds w.waiting) w.depth

-- One more part waits, on top.
abbrev pub pushed : Part → Stack → Stack
pushed p t = stack (set t.under (t.depth + 1) p.under) (set t.slots (t.depth + 1) p.slot) (set t.behind (t.depth + 1) p.behind) (t.depth + 1)

-- An end on top, if there is one, is taken away: t is the stack before, t' after.
abbrev pub Ended : Stack → Option Part → Stack → Type 0
Ended t r t' =
    MatchOption r ((get_or t.behind t.depth 0 ≤ 3) × (t' ≡ t))
    (λ p. (3 < get_or t.behind t.depth 0) × (p.behind ≡ get_or t.behind t.depth 0) × (p.slot ≡ get_or t.slots t.depth 0)
    × (t' ≡ stack t.under t.slots t.behind (t.depth - 1)) × (p.under ≡ get_or t.under t.depth 0))
