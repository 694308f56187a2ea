-- The laws that the choices of a leaf ask for. Assumes nothing.
use Prim.Native.Nat.{ℕ, ◌+◌, ◌-◌, ◌<◌, ◌≤◌}
use native.Mathlib.Omega.{arith}
use mathlib.Core.Path.{◌≡◌, refl, sym, ap, subst, ◌∙◌}
use mathlib.Core.Logic.{◌⊎◌, inl, inr}
use mathlib.Core.Bool.{Bool, true, false, not}
use mathlib.Core.List.{List}
use lib.ListN.{length, get_or, set, length-set}
use lib.Count.{count_trailing_zeros}
use lib.IntN.{ℤ, pos}
use Rattle.rules.specs.Numbers.{plus}
use Rattle.words.specs.Words.{tag_at, same_to}
use Rattle.words.specs.Marks.{clear}
use Rattle.value_places.specs.Places.{Target, Tag, element_at}
use Rattle.value_places.specs.Held.{Held, put}
use Rattle.value_places.proofs.Elements.{second}
use Rattle.value_places.proofs.Held.{held_clear, next_less, next_tag}
use Rattle.value_rows.specs.Row.{Bound, nothing}
use Rattle.value_rows.specs.declared.Binding.{Binding}
use Rattle.tables.specs.declared.slot.Frame.{Frame}
use Rattle.tables.specs.Slot.{Tables, frame_in, put_left}
use Rattle.search_step.specs.declared.State.{State}
use Rattle.value_rows.proofs.Room.{length_put}
use Rattle.value_equality.specs.Equality.{is_sum}
use Rattle.search_seek.specs.Passed.{later, is_lowest}
use Rattle.search_leaf.specs.Told.{word_of, row_of, size_of, Tells, but_of}
use Rattle.search_leaf.specs.Leaf.{lowest_of, tally, bound_to, passed_by, wrote_by, Leaf, stays, fails, sums, any, binds, Told, tallied, first_of, part_of, Took, None, Counts, Parts, Takes}
use Rattle.search_leaf.specs.declared.Tally.{Tally}
use Rattle.search_leaf.specs.declared.Part.{Part}
use Rattle.search_leaf.proofs.Words.{row_size}

-- At the loop's head: the choices so far are taken up; `next` are the choices but the lowest.
pub record Going (s : List ℤ) (o : Bool) (n : ℕ) (p : Part) (budget : ℕ) (first : Tally) (told₀ room₀ : List ℤ) (t : Tally) (told : List ℤ) (y : Binding)
    (room : List ℤ) (next : ℕ) : Type 0 where
  pub leaf : Leaf s o n p first told₀ room₀ t told y room
  pub held : Held s p.at t.left
  pub some : 0 < t.left
  pub rest : next ≡ clear (count_trailing_zeros 64 t.left) t.left
  pub counts : Counts budget t room
  pub long : length room ≡ length room₀
  pub words : length told ≡ 16

module _ (s : List ℤ) (o : Bool) (n : ℕ) (p : Part) (budget : ℕ) (first : Tally) (told₀ room₀ : List ℤ) where
  pub going_start : Parts s p first.left → Counts budget first room₀ → length told₀ ≡ 16 → (next : ℕ) → next ≡ clear (count_trailing_zeros 64 first.left) first.left
      → Going s o n p budget first told₀ room₀ first told₀ p.value room₀ next
  going_start h c l next e = record { leaf = stays; held = h.held; some = h.choice; rest = e; counts = c; long = refl; words = l }

  module _ (t : Tally) (told : List ℤ) (y : Binding) (room : List ℤ) (next : ℕ) (g : Going s o n p budget first told₀ room₀ t told y room next) where
    pub going_told : Told s o n p budget first told₀ room₀ t y room
    going_told = record { told = told; leaf = g.leaf; within = g.counts.steps }

    -- There is a choice besides the lowest; e: the lowest.
    module _ (h : 0 < next) (w : Target s) where
      next_some : 0 < later t.left
      unfolding later
      next_some = rw g.rest at h

      next_is : next ≡ later t.left
      unfolding later
      next_is = g.rest

      pub going_less : next < t.left
      going_less = next_less s p.at t.left (count_trailing_zeros 64 t.left) w g.held refl g.some next g.rest

      next_held : Held s p.at next
      next_held = held_clear s p.at t.left (count_trailing_zeros 64 t.left) next g.held g.rest

      -- A row of the words told', in k steps.
      going_wrote : (k : ℕ) → 0 < k → k ≤ budget - t.steps → (next' : ℕ) → next' ≡ clear (count_trailing_zeros 64 next) next → (told' : List ℤ) (y' : Binding) → length told' ≡ 16
          → (length (row_of o n told') ≤ length room - t.words → Leaf s o n p first told₀ room₀ (wrote_by k (length (row_of o n told')) t) told' y' (put room t.words (row_of o n told')))
          → (size : ℕ) → size ≡ size_of o n → n ≤ 16 → size ≤ length room - t.words → (words : ℕ) (room' : List ℤ) → words ≡ t.words + length (row_of o n told')
          → room' ≡ put room t.words (row_of o n told') → Going s o n p budget first told₀ room₀ (tally next (t.steps + k) (t.rows + 1) words) told' y' room' next'
      unfolding wrote_by
      going_wrote k a b next' r told' y' long f size q few fits words room' v m =
          let l : length (row_of o n told') ≤ length room - t.words = omega (arith, row_size o told' n (omega (arith, long))) in
          let j : length room' ≡ length room = ap length m ∙ length_put room t.words (row_of o n told') in
          record {
            leaf = rw (m, v, next_is) (f l);
            held = next_held;
            some = h;
            rest = r;
            counts = (let c = g.counts in record { steps = omega (arith, c.steps); rows = omega (arith, c.rows); words = omega (arith, v, j, l, c.words) });
            long = j ∙ g.long;
            words = long;
          }

      pub going_any : p.op ≡ 2 → (told' : List ℤ) (y' : Binding) → told' ≡ told → y' ≡ y → 5 ≤ budget - t.steps → (next' : ℕ) → next' ≡ clear (count_trailing_zeros 64 next) next
          → (size : ℕ) → size ≡ size_of o n → n ≤ 16 → size ≤ length room - t.words → (words : ℕ) (room' : List ℤ) → words ≡ t.words + length (row_of o n told')
          → room' ≡ put room t.words (row_of o n told') → Going s o n p budget first told₀ room₀ (tally next (t.steps + 5) (t.rows + 1) words) told' y' room' next'
      going_any two told' y' a c b next' r =
          going_wrote 5 (omega arith) b next' r told' y' (ap length a ∙ g.words) (λ l. rw (a, c) (any t told y room g.leaf next_some two (rw a at l)))

      module _ (e k : ℕ) (i : k ≡ count_trailing_zeros 64 t.left) (d : e ≡ element_at s p.at k) where
        lowest_is : e ≡ lowest_of s p.at t.left
        unfolding lowest_of
        lowest_is = d ∙ ap (element_at s p.at) i

        pub lowest_tag : Tag s e
        lowest_tag = next_tag s p.at t.left k w g.held i g.some e d

        pub going_binds : p.op ≡ 3 → tag_at s e ≡ 0 → (told' : List ℤ) (x : ℤ) (y' : Binding) → x ≡ word_of o s e → told' ≡ set told p.var x → y' ≡ bound_to e
            → 5 ≤ budget - t.steps → (next' : ℕ) → next' ≡ clear (count_trailing_zeros 64 next) next → (size : ℕ) → size ≡ size_of o n → n ≤ 16
            → size ≤ length room - t.words → (words : ℕ) (room' : List ℤ) → words ≡ t.words + length (row_of o n told') → room' ≡ put room t.words (row_of o n told')
            → Going s o n p budget first told₀ room₀ (tally next (t.steps + 5) (t.rows + 1) words) told' y' room' next'
        going_binds three zero_tag told' x y' u v c b next' r =
            going_wrote 5 (omega arith) b next' r told' y' (ap length v ∙ length-set told p.var x ∙ g.words)
            (λ l. rw (c, lowest_is) (binds t told y room told' g.leaf next_some three (rw lowest_is at zero_tag) (v ∙ rw (u, lowest_is)) l))

        pub lowest_word : e + 1 < length s
        lowest_word = second s e w lowest_tag

        module _ (x : ℤ) (a : x ≡ get_or s (y.at + 1) (pos 0)) (z : ℤ) (u : z ≡ p.plus) (q : ℤ) (v : q ≡ get_or s (e + 1) (pos 0)) (found : Bool) (f : found ≡ same_to (plus x z) q) where
          sum_is : is_lowest s p.at y.at p.plus t.left ≡ found
          unfolding is_lowest is_sum
          sum_is = sym (f ∙ rw (a, u, v, d, i))

          module _ (five : p.op ≡ 5) (b : 4 ≤ budget - t.steps) (next' : ℕ) (r : next' ≡ clear (count_trailing_zeros 64 next) next) where
            pub going_fails : found ≡ false
                → Going s o n p budget first told₀ room₀ (tally next (t.steps + 1) t.rows t.words) told y room next'
            unfolding passed_by
            going_fails not = record {
              leaf = subst (λ (l : ℕ). Leaf s o n p first told₀ room₀ (tally l (t.steps + 1) t.rows t.words) told y room) (sym next_is)
                  (fails t told y room g.leaf next_some five (sum_is ∙ not));
              held = next_held;
              some = h;
              rest = r;
              counts = (let c = g.counts in record { steps = omega (arith, c.steps); rows = omega (arith, c.rows); words = c.words });
              long = g.long;
              words = g.words;
            }

            pub going_sums : found ≡ true → (size : ℕ) → size ≡ size_of o n → n ≤ 16 → size ≤ length room - t.words → (words : ℕ) (room' : List ℤ) → words ≡ t.words + length (row_of o n told)
                → room' ≡ put room t.words (row_of o n told) → Going s o n p budget first told₀ room₀ (tally next (t.steps + 4) (t.rows + 1) words) told y room' next'
            going_sums is size q few fits =
                going_wrote 4 (omega arith) b next' r told y g.words (λ l. sums t told y room g.leaf next_some five (sum_is ∙ is) l) size q few fits

pub going_at : (s : List ℤ) (o : Bool) (n : ℕ) (p : Part) (budget : ℕ) (first : Tally) (told₀ room₀ : List ℤ) (told : List ℤ) (y : Binding)
    (left next steps steps' rows rows' words words' : ℕ) (room room' : List ℤ) → steps' ≡ steps → rows' ≡ rows → words' ≡ words → room' ≡ room
    → Going s o n p budget first told₀ room₀ (tally left steps rows words) told y room next → Going s o n p budget first told₀ room₀ (tally left steps' rows' words') told y room' next
going_at s o n p budget first told₀ room₀ told y left next steps steps' rows rows' words words' room room' a b c d g = rw (a, b, c, d) g

pub going_out : (s : List ℤ) (o : Bool) (n : ℕ) (p : Part) (budget : ℕ) (first : Tally) (told₀ room₀ : List ℤ) (t : Tally) (told : List ℤ) (y y' : Binding) (room : List ℤ) (next : ℕ) (r : Tally)
    → Going s o n p budget first told₀ room₀ t told y room next → r ≡ t → y' ≡ y → Told s o n p budget first told₀ room₀ r y' room
going_out s o n p budget first told₀ room₀ t told y y' room next r g e d = rw (e, d) (going_told s o n p budget first told₀ room₀ t told y room next g)

-- Where the first part is not tested, it is a wildcard or a variable.
pub no_test : (s : List ℤ) (p : Part) (left : ℕ) → Parts s p left → (p.op ≡ 5 → ⊥) → (p.op ≡ 3 → ⊥) → p.op ≡ 2
no_test s p left h n m = go h.kind
  where
    go : (p.op ≡ 5) ⊎ ((p.op ≡ 2) ⊎ (p.op ≡ 3)) → p.op ≡ 2
    go (inl e) = absurd (n e)
    go (inr (inl e)) = e
    go (inr (inr e)) = absurd (m e)

-- ---- The last open frame.

module _ (op arg : List ℕ) (con : List ℤ) (i : ℕ) (b : List Binding) (x : State) (t : Tables) (f : Frame) (d : f ≡ frame_in t (x.top - 1))
    (o v : ℕ) (z : ℤ) (y : Binding) (p : o ≡ get_or op i 0) (q : v ≡ get_or arg i 0) (r : z ≡ get_or con i (pos 0)) (a : y ≡ get_or b v nothing) where
  abbrev asked : Part
  asked = record { at = f.at; op = o; var = v; value = y; plus = z }

  abbrev begun : Tally
  begun = tally f.left x.steps x.rows x.words

  part_is : asked ≡ part_of op arg con i b x t
  unfolding part_of frame_in
  part_is = rw (a, d, p, q, r)

  begun_is : begun ≡ first_of x t
  unfolding first_of frame_in
  begun_is = rw d

  module _ (s : List ℤ) (n budget : ℕ) (room : List ℤ) where
    module _ (h : Takes s con n i (part_of op arg con i b x t) budget b x t room) where
      pub take_part : Parts s asked f.left
      unfolding first_of frame_in
      take_part = rw (part_is, d) h.part

      pub take_counts : Counts budget begun room
      take_counts = rw begun_is h.counts

    pub took_is : (form : Bool) (l : Tally) (last : Binding) (words room' : List ℤ) (t' : Tables) → Tells form s b n (but_of o v) words
        → Told s form n asked budget begun words room l last room' → t' ≡ put_left (x.top - 1) l.left t
        → Took s form n (part_of op arg con i b x t) budget b x t room (tallied x l) t' last room'
    took_is form l last words room' t' h c u = record {
      tally = l;
      words = words;
      tells = subst (λ (k : Part). Tells form s b n (but_of k.op k.var) words) part_is h;
      told = rw (← part_is, ← begun_is) c;
      state = refl;
      tables = u;
    }

-- The variable of a line is one; its value is there.
module _ (op arg : List ℕ) (s con : List ℤ) (n i budget : ℕ) (b : List Binding) (x : State) (t : Tables) (room : List ℤ) (h : Takes s con n i (part_of op arg con i b x t) budget b x t room) where
  pub take_var : (v : ℕ) → v ≡ get_or arg i 0 → v < 16
  unfolding part_of
  take_var v q = rw q h.part.var

  pub take_bound : Bound s b n
  take_bound = record { most = h.few; long = h.bound.long; are = λ v l. h.bound.are v (omega (arith, h.few)) }

pub none_is : (op arg : List ℕ) (con : List ℤ) (i : ℕ) (b : List Binding) (x : State) (t t' : Tables) (room room' : List ℤ) (v : ℕ) (y : Binding) → v ≡ get_or arg i 0 → y ≡ get_or b v nothing → t' ≡ t → room' ≡ room
    → None (part_of op arg con i b x t) x t room x t' y room'
unfolding part_of
none_is op arg con i b x t t' room room' v y q a e d = record { state = refl; tables = e; value = a ∙ ap (λ (k : ℕ). get_or b k nothing) q; same = d }

pub told_at_lem : (s : List ℤ) (o : Bool) (n : ℕ) (p : Part) (budget : ℕ) (first : Tally) (told₀ room₀ : List ℤ) (t t' : Tally) (y y' : Binding) (room room' : List ℤ)
    → t' ≡ t → y' ≡ y → room' ≡ room → Told s o n p budget first told₀ room₀ t y room → Told s o n p budget first told₀ room₀ t' y' room'
told_at_lem s o n p budget first told₀ room₀ t t' y y' room room' a b c h = rw (a, b, c) h

pub by_not : (b : Bool) → not b ≡ false → b ≡ true
by_not true e = refl
by_not false e = sym e
