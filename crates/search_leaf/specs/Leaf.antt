-- The choices of a leaf taken up: the lowest first, never the last. One that fails takes a step; one that has a row takes as many as its lines.
use Rattle.std.specs.Prelude.{ℕ, ◌+◌, ◌-◌, ◌<◌, ◌≤◌, ◌≡◌, ◌⊎◌, Bool, true, false, List, length, get_or, set, ℤ, pos}
use Rattle.std.specs.Int.Count.{count_trailing_zeros}
use Rattle.words.specs.Words.{entries, tag_at}
use Rattle.value_places.specs.Places.{element_at}
use Rattle.value_places.specs.Held.{Held, put}
use Rattle.value_rows.specs.Row.{Bound, nothing}
use Rattle.value_rows.specs.declared.Binding.{Binding}
use Rattle.tables.specs.Slot.{Tables, put_left}
use Rattle.search_step.specs.declared.State.{State}
use Rattle.search_seek.specs.Passed.{later, is_lowest}
use Rattle.search_leaf.specs.Told.{word_of, row_of, Tells, but_of}
use Rattle.search_leaf.specs.declared.Tally.{Tally}
use Rattle.search_leaf.specs.declared.Part.{Part}

-- The lowest choice of the collection at an index, and a variable bound to an integer.
unfoldable pub lowest_of : List ℤ → (at left : ℕ) → ℕ
lowest_of s at left = element_at s at (count_trailing_zeros 64 left)

unfoldable pub bound_to : ℕ → Binding
bound_to e = record { at = e; marks = 0 }

abbrev pub tally : (left steps rows words : ℕ) → Tally
tally c n r w = record { left = c; steps = n; rows = r; words = w }

-- A choice is passed over; a choice has a row of so many words, in k steps.
unfoldable pub passed_by : Tally → Tally
unfolding later
passed_by t = tally (later t.left) (t.steps + 1) t.rows t.words

unfoldable pub wrote_by : (k size : ℕ) → Tally → Tally
unfolding later
wrote_by k size t = tally (later t.left) (t.steps + k) (t.rows + 1) (t.words + size)

-- By the instruction of the first part: 5 tag 3 under integer, 2 a wildcard, 3 a variable, which is bound.
pub data Leaf (s : List ℤ) (o : Bool) (n : ℕ) (p : Part) (first : Tally) (told₀ room₀ : List ℤ) : Tally → (told : List ℤ) → Binding → (room : List ℤ) → Type 0 where
  stays : Leaf s o n p first told₀ room₀ first told₀ p.value room₀
  fails : (t : Tally) (told : List ℤ) (y : Binding) (room : List ℤ) → Leaf s o n p first told₀ room₀ t told y room → 0 < later t.left → p.op ≡ 5
      → is_lowest s p.at y.at p.plus t.left ≡ false → Leaf s o n p first told₀ room₀ (passed_by t) told y room
  sums : (t : Tally) (told : List ℤ) (y : Binding) (room : List ℤ) → Leaf s o n p first told₀ room₀ t told y room → 0 < later t.left → p.op ≡ 5
      → is_lowest s p.at y.at p.plus t.left ≡ true → length (row_of o n told) ≤ length room - t.words
      → Leaf s o n p first told₀ room₀ (wrote_by 4 (length (row_of o n told)) t) told y (put room t.words (row_of o n told))
  any : (t : Tally) (told : List ℤ) (y : Binding) (room : List ℤ) → Leaf s o n p first told₀ room₀ t told y room → 0 < later t.left → p.op ≡ 2
      → length (row_of o n told) ≤ length room - t.words
      → Leaf s o n p first told₀ room₀ (wrote_by 5 (length (row_of o n told)) t) told y (put room t.words (row_of o n told))
  binds : (t : Tally) (told : List ℤ) (y : Binding) (room : List ℤ) (told' : List ℤ) → Leaf s o n p first told₀ room₀ t told y room → 0 < later t.left → p.op ≡ 3
      → tag_at s (lowest_of s p.at t.left) ≡ 0 → told' ≡ set told p.var (word_of o s (lowest_of s p.at t.left))
      → length (row_of o n told') ≤ length room - t.words
      → Leaf s o n p first told₀ room₀ (wrote_by 5 (length (row_of o n told')) t) told' (bound_to (lowest_of s p.at t.left)) (put room t.words (row_of o n told'))

-- A state after choices: what they have counted, and what is written.
unfoldable pub tallied : State → Tally → State
tallied x t = record { pc = x.pc; at = x.at; marks = x.marks; top = x.top; live = x.live; rows = t.rows; steps = t.steps; words = t.words }

-- Before them, for the last open frame.
unfoldable pub first_of : State → Tables → Tally
first_of x t = tally (get_or t.lefts (x.top - 1) 0) x.steps x.rows x.words

unfoldable pub part_of : (op arg : List ℕ) → List ℤ → (i : ℕ) → List Binding → State → Tables → Part
part_of op arg con i b x t =
    record { at = get_or t.ats (x.top - 1) 0; op = get_or op i 0; var = get_or arg i 0; value = get_or b (get_or arg i 0) nothing; plus = get_or con i (pos 0) }

-- Choices have been taken up, within the budget; the words of the variables are then others.
pub record Told (s : List ℤ) (o : Bool) (n : ℕ) (p : Part) (budget : ℕ) (first : Tally) (told₀ room₀ : List ℤ) (t : Tally) (y : Binding) (room : List ℤ) : Type 0 where
  pub told : List ℤ
  pub leaf : Leaf s o n p first told₀ room₀ t told y room
  pub within : t.steps ≤ budget

-- Choices of the last open frame are taken up.
pub record Took (s : List ℤ) (o : Bool) (n : ℕ) (p : Part) (budget : ℕ) (b : List Binding) (x : State) (t : Tables) (room : List ℤ)
    (x' : State) (t' : Tables) (y : Binding) (room' : List ℤ) : Type 0 where
  pub tally : Tally
  pub words : List ℤ
  pub tells : Tells o s b n (but_of p.op p.var) words
  pub told : Told s o n p budget (first_of x t) words room tally y room'
  pub state : x' ≡ tallied x tally
  pub tables : t' ≡ put_left (x.top - 1) tally.left t

-- Or none, where not all variables are bound to integers.
pub record None (p : Part) (x : State) (t : Tables) (room : List ℤ) (x' : State) (t' : Tables) (y : Binding) (room' : List ℤ) : Type 0 where
  pub state : x' ≡ x
  pub tables : t' ≡ t
  pub value : y ≡ p.value
  pub same : room' ≡ room

-- ---- What they ask.

pub record Counts (budget : ℕ) (t : Tally) (room : List ℤ) : Type 0 where
  pub steps : t.steps ≤ budget
  pub rows : t.rows ≤ t.steps
  pub words : t.words ≤ length room

-- The first part is tested or bound; what it is compared with is there; the choices left are elements that there are.
pub record Parts (s : List ℤ) (p : Part) (left : ℕ) : Type 0 where
  pub kind : (p.op ≡ 5) ⊎ ((p.op ≡ 2) ⊎ (p.op ≡ 3))
  pub var : p.var < 16
  pub number : p.value.at + 1 < length s
  pub held : Held s p.at left
  pub choice : 0 < left

pub record Takes (s : List ℤ) (con : List ℤ) (n i : ℕ) (p : Part) (budget : ℕ) (b : List Binding) (x : State) (t : Tables) (room : List ℤ) : Type 0 where
  pub some : 0 < x.top
  pub place : i < entries
  pub constant : i < length con
  pub few : n ≤ 16
  pub bound : Bound s b 16
  pub part : Parts s p (first_of x t).left
  pub counts : Counts budget (first_of x t) room
