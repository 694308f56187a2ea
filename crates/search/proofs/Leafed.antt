-- A state is taken up, and then choices of a leaf: what the code of the run asks for. Assumes nothing.
use Prim.Native.Nat.{ℕ, ◌+◌, ◌-◌, ◌*◌, ◌<◌}
use native.Mathlib.Omega.{arith}
use mathlib.Core.Path.{◌≡◌, refl, sym, ap, subst, ◌∙◌}
use mathlib.Core.Logic.{◌⊎◌, inl, inr}
use mathlib.Core.Bool.{Bool, true, false}
use mathlib.Core.List.{List}
use lib.ListN.{length, get_or, set}
use lib.Seq.{get_or-set_same, set-get_or}
use lib.Dec.{eqb}
use lib.IntN.{ℤ}
use mir.Syntax.{w64}
use mir.Val.{Fits}
use Rattle.words.specs.Words.{entries}
use Rattle.value_places.specs.Places.{Target}
use Rattle.value_places.specs.Held.{Held}
use Rattle.value_places.proofs.Elements.{second}
use Rattle.value_rows.specs.Row.{form_by, Bound, nothing}
use Rattle.value_rows.specs.declared.Binding.{Binding}
use Rattle.tables.specs.Slot.{Tables, put_left, view_of, Slotted, Alone}
use Rattle.search_atom.specs.Leaves.{when}
use Rattle.search_step.specs.declared.State.{State}
use Rattle.search_choice.specs.Choices.{Frame, pick_of}
use Rattle.search_leaf.specs.Leaf.{first_of, part_of, tallied, Took, None, Takes}
use Rattle.search_leaf.specs.Lines.{Leafs, Looks}
use Rattle.search_leaf.specs.declared.Bounds.{Bounds}
use Rattle.search_leaf.proofs.Rows.{leaf_some, leaf_held}
use Rattle.search.specs.Run.{Env, Run, run, after_turn, take_of, settled, run_of}
use Rattle.search.specs.Valid.{Fine}
use Rattle.search.proofs.Counts.{settled_is}
use Rattle.search.proofs.Sweeps.{run_add, Turns}
use Rattle.search.proofs.Laws.{Here}
use Rattle.search.proofs.Swept.{Kept, turn_kept, run_kept, Swept}
use Rattle.search.proofs.Leaves.{inside, leaf_turns}

-- A choice leaves the bindings.
settled_binds : (e : Env) (r : Run) → (settled e r).binds ≡ r.binds
unfolding settled when after_turn
settled_binds e r = go (eqb r.state.live 2)
  where
    go : (c : Bool) → (when c (after_turn (pick_of e.op e.from e.to e.words r.state r.tables) r.binds r.room) r).binds ≡ r.binds
    go true = refl
    go false = refl

-- The state y is that after the one which was taken up, and perhaps choices that were passed over.
module _ (e : Env) (w : Run) (budget : ℕ) (room₀ : List ℤ) (r : Run) (h : Here e w budget room₀ r) (fine : Fine e) (g : Target e.words) (l : r.state.live ≡ 1)
    (y : State) (u : Tables) (b : List Binding) (room : List ℤ) (m : Swept e r budget y u b room) where
  pub kept : Kept e room₀ (settled e (run y u b room))
  kept = subst (Kept e room₀) (sym m.next) (run_kept e fine g room₀ m.more (settled e (take_of e r)) (turn_kept e fine g room₀ r (record { valid = h.valid; long = h.long }) l))

  pub bound_all : Bound e.words b 16
  bound_all = subst (λ (c : List Binding). Bound e.words c 16) (settled_binds e (run y u b room)) kept.valid.binds

  -- What the look for a leaf asks.
  pub leaf_looks : (slots : List ℕ) → u ≡ view_of e.arg slots → Looks e.op e.to e.arg slots y
  leaf_looks slots p = record {
    ends = record { last = fine.last; places = fine.places };
    frame = λ k t. record { place = ((m.picks.picks k).frame t).place; slot = fine.slot (y.top - 1); long = rw p at m.long };
  }

  module _ (i : ℕ) (lines : Leafs e.op e.to y i) where
    frame : Frame (get_or e.op (y.top - 1) 0) e.words (y.top - 1) (get_or u.ats (y.top - 1) 0) (get_or u.wholes (y.top - 1) 0) (get_or u.lefts (y.top - 1) 0)
    frame = (m.picks.picks lines.live).frame lines.some

    pub leaf_place : i < entries
    leaf_place = lines.tested.place

    kinds : (get_or e.op i 0 ≡ 5) ⊎ ((get_or e.op i 0 ≡ 2) ⊎ (get_or e.op i 0 ≡ 3))
    kinds = go lines.tested.kind
      where
        go : ((i ≡ y.top) × (get_or e.op i 0 ≡ 5)) ⊎ ((get_or e.op y.top 0 ≡ 1) × (i ≡ y.top + 1) × ((get_or e.op i 0 ≡ 2) ⊎ (get_or e.op i 0 ≡ 3)))
            → (get_or e.op i 0 ≡ 5) ⊎ ((get_or e.op i 0 ≡ 2) ⊎ (get_or e.op i 0 ≡ 3))
        go (inl k) = inl k.1
        go (inr k) = inr k.2

    var_in : get_or e.arg i 0 < 16
    var_in = go kinds
      where
        go : (get_or e.op i 0 ≡ 5) ⊎ ((get_or e.op i 0 ≡ 2) ⊎ (get_or e.op i 0 ≡ 3)) → get_or e.arg i 0 < 16
        go (inl k) = fine.numbers i leaf_place (omega (arith, k)) (omega (arith, k))
        go (inr (inl k)) = fine.numbers i leaf_place (omega (arith, k)) (omega (arith, k))
        go (inr (inr k)) = fine.numbers i leaf_place (omega (arith, k)) (omega (arith, k))

    pub leaf_number : (v : ℕ) → v ≡ get_or e.arg i 0 → v < 16
    leaf_number v p = rw p var_in

    pub leaf_number_mul : (v : ℕ) → v ≡ get_or e.arg i 0 → Fits w64 (v * 16)
    leaf_number_mul v p = let k = leaf_number v p in record { fits = omega arith }

    -- What the choices ask.
    asks : Takes e.words e.con e.vars i (part_of e.op e.arg e.con i b y u) budget b y u room
    unfolding part_of first_of
    asks = record {
      some = (let t = lines.some in omega (arith, t));
      place = leaf_place;
      constant = fine.constants i leaf_place;
      few = fine.few;
      bound = bound_all;
      part = record {
        kind = kinds;
        var = var_in;
        number = second e.words (get_or b (get_or e.arg i 0) nothing).at g (bound_all.are (get_or e.arg i 0) var_in).tag;
        held = record { tag = (frame.held (omega (arith, lines.cons))).tag; marks = frame.there (omega (arith, lines.cons)) };
        choice = frame.some (omega (arith, lines.cons));
      };
      counts = (let s = settled_is e (run y u b room) in let v = kept.valid in record {
        steps = m.within;
        rows = omega (arith, s.rows, s.steps, v.counts);
        words = omega (arith, s.words, ap length s.room, v.room);
      });
    }

    pub leaf_takes : (most vars : ℕ) → most ≡ budget → vars ≡ e.vars → Takes e.words e.con vars i (part_of e.op e.arg e.con i b y u) most b y u room
    leaf_takes most vars p q = rw (p, q) asks

    pub leaf_slotted : (slots : List ℕ) → u ≡ view_of e.arg slots → Slotted e.arg slots (y.top - 1)
    leaf_slotted slots p = (leaf_looks slots p).frame lines.live lines.some

    pub leaf_alone : Alone e.arg (y.top - 1)
    leaf_alone = fine.alone (y.top - 1) frame.place (omega (arith, lines.cons)) (omega (arith, lines.cons))

    module _ (o : Bool) (form : e.form ≡ form_by o) (y' : State) (u' : Tables) (last : Binding) (room' : List ℤ) (v : ℕ) (p : v ≡ get_or e.arg i 0) where
      left_none : None (part_of e.op e.arg e.con i b y u) y u room y' u' last room' → Swept e r budget y' u' (set b v last) room'
      unfolding part_of
      left_none n = rw (n.state, n.tables, n.value, n.same, p, set-get_or b (get_or e.arg i 0) nothing) m

      module _ (k : Took e.words o e.vars (part_of e.op e.arg e.con i b y u) budget b y u room y' u' last room') where
        turns : Turns e (run y u b room) (run (tallied y k.tally) (put_left (y.top - 1) k.tally.left u) (set b (get_or e.arg i 0) last) room')
        turns = leaf_turns e g o form y u b room i budget lines asks k.words k.tells k.tally k.told.told last room' k.told.leaf

        some_left : 0 < k.tally.left
        some_left = leaf_some e.words o e.vars _ (first_of y u) k.words room g asks.part k.tally k.told.told last room' k.told.leaf

        held_left : Held e.words (get_or u.ats (y.top - 1) 0) k.tally.left
        unfolding part_of
        held_left = leaf_held e.words o e.vars (part_of e.op e.arg e.con i b y u) (first_of y u) k.words room g asks.part k.tally k.told.told last room' k.told.leaf

        next_frame : Frame (get_or e.op (y.top - 1) 0) e.words (y.top - 1) (get_or u.ats (y.top - 1) 0) (get_or u.wholes (y.top - 1) 0) k.tally.left
        next_frame = record {
          place = frame.place;
          splits = frame.splits;
          chooses = frame.chooses;
          whole = frame.whole;
          held = frame.held;
          within = λ n. absurd (omega (arith, lines.cons, n));
          some = λ n. some_left;
          there = λ n. held_left.marks;
        }

        there : y.top - 1 < length u.lefts
        there = inside u.lefts (y.top - 1) (frame.some (omega (arith, lines.cons)))

        left_some : Swept e r budget y' u' (set b v last) room'
        unfolding tallied put_left
        left_some = rw (k.state, k.tables, p) (record {
          more = m.more + turns.more;
          next = turns.are ∙ ap (run_of e turns.more) m.next ∙ sym (run_add e m.more turns.more (settled e (take_of e r)));
          steps = omega (arith, turns.steps, m.steps);
          within = k.told.within;
          picks = record { picks = λ z. record { frame = λ t. rw (get_or-set_same u.lefts (y.top - 1) k.tally.left 0 there) next_frame } };
          long = m.long;
        })

      swept_either : None (part_of e.op e.arg e.con i b y u) y u room y' u' last room'
          ⊎ Took e.words o e.vars (part_of e.op e.arg e.con i b y u) budget b y u room y' u' last room' → Swept e r budget y' u' (set b v last) room'
      swept_either (inl n) = left_none n
      swept_either (inr k) = left_some k

    pub swept_leaf : (k : Bounds) → k.budget ≡ budget → k.shape.vars ≡ e.vars → e.form ≡ form_by k.shape.origins
        → (y' : State) (u' : Tables) (last : Binding) (room' : List ℤ) (v : ℕ) → v ≡ get_or e.arg i 0 → None (part_of e.op e.arg e.con i b y u) y u room y' u' last room'
        ⊎ Took e.words k.shape.origins k.shape.vars (part_of e.op e.arg e.con i b y u) k.budget b y u room y' u' last room'
        → Swept e r budget y' u' (set b v last) room'
    swept_leaf k p q f y' u' last room' v d z = swept_either k.shape.origins f y' u' last room' v d (rw (p, q) at z)

pub swept_as : (e : Env) (r : Run) (budget : ℕ) (y y' : State) (u u' : Tables) (b b' : List Binding) (room room' : List ℤ) → y ≡ y' → u ≡ u' → b ≡ b' → room ≡ room'
    → Swept e r budget y' u' b' room' → Swept e r budget y u b room
swept_as e r budget y y' u u' b b' room room' p q d i m = rw (p, q, d, i) m
