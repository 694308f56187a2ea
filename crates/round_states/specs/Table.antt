-- Lists of states in the lent table: one after the other, and each stands there for what was kept.
use Prim.Native.Nat.{ℕ, zero, suc, ◌+◌, ◌-◌, ◌*◌, ◌^◌, ◌≤◌, ◌<◌}
use native.Mathlib.Omega.{arith}
use Rattle.std.specs.Prelude.{◌≡◌, refl, ℤ}
use Rattle.std.proofs.Common.{sym, ap₂, ◌∙◌}
use Rattle.std.proofs.Math.Path.{ap, subst}
use Rattle.std.proofs.Math.Option.{some}
use mathlib.Core.List.{List, [], ◌∷◌, ◌++◌}
use Rattle.std.proofs.Math.ListN.{length, get_or}
use Rattle.round_rules.specs.Rounds.{Branch}
use Rattle.words.specs.Words.{entries}
use Rattle.search_machine.specs.Rep.{Rep, live}
use Rattle.value_places.specs.Held.{Held}
use Rattle.value_places.proofs.Held.{held_64}
use Rattle.value_rows.specs.Row.{Bound, nothing}
use Rattle.value_rows.specs.declared.Binding.{Binding}
use Rattle.tables.specs.Slot.{slot_count, view_of, by_line, Slotted}
use Rattle.tables.specs.declared.slot.Held as kept
use Rattle.search_step.specs.declared.State.{State}
use Rattle.search.specs.Run.{Env}
use Rattle.search.specs.Meaning.{conf_of}
use Rattle.round_table.specs.Entries.{entry_at, cut, cut_small, Small, Copied}
use Rattle.round_table.specs.Waiting.{waiting_in}
use Rattle.round_lists.specs.Lists.{entry, waits_as, binds_as, Framed, Stored}
use Rattle.round_lists.specs.Taken.{TakenOut}
use Rattle.round_states.specs.Ruled.{Ruled}
use Rattle.round_states.specs.Taking.{D, code, points}
use Rattle.round_states.specs.Standing.{at_line, view_long, Clean, Standing, Used, Kept, Loaded}

module _ (e : Env) (R : Ruled e) where
  small : (at m : ℕ) → Held e.words at m → Small (entry at m)
  small at m h = record { at = let a = h.tag.inside in let b = R.target_is.short in omega arith; marks = held_64 e.words at m R.target_is h }

  at_small : (n m : ℕ) → n < 4294967296 → (cut (entry n m)).at ≡ n
  unfolding cut
  at_small n m h = omega arith

  pub top_place : {x : State} {slots : List ℕ} {b : List Binding} {br : Branch} → Standing e R x slots b br → x.top ≤ x.pc
  unfolding conf_of
  top_place {x} {slots} {b} {br} s = go s.rep
    where
      go : Rep (D e R) (code e R) (points e R) (some (conf_of e.dialect e.form e.words R.target_is x (view_of e.arg slots) b)) (br.first ∷ br.others) → x.top ≤ x.pc
      go (live l a ch) = l

  -- The r-th list of the table.
  abbrev pub nth : List ℤ → ℕ → ℕ → kept.Held
  nth ws r k = entry_at ws (275 * r + k)

  -- What stands is kept.
  pub kept_is : (used : ℕ) → Used e R used → (x : State) (slots : List ℕ) (b : List Binding) (br : Branch) → Standing e R x slots b br → (old new : List ℤ) (r : ℕ)
      → Stored old new r e.vars used x (view_of e.arg slots) slots b → Kept e R used (nth new r) br
  unfolding waits_as binds_as waiting_in view_of
  kept_is used u x slots b br s old new r t = record {
    x = x;
    slots = slots;
    b = b;
    stands = s;
    first = let z : 275 * r + 0 ≡ 275 * r = omega arith in ap (entry_at new) z ∙ t.first ∙ cut_small (entry x.at x.marks) (small x.at x.marks s.held);
    top = t.top ∙ at_small x.top 0 (let a = top_place s in let c = s.place in omega arith);
    pc = t.pc ∙ at_small x.pc 0 (let c = s.place in omega arith);
    whole = t.whole;
    left = t.left;
    binds = λ v h. t.binds v h ∙ cut_small (entry (get_or b v nothing).at (get_or b v nothing).marks) (small (get_or b v nothing).at (get_or b v nothing).marks (s.clean.binds.are v (let f = R.fine.few in omega arith)));
    waits = λ i l h. t.waits (get_or e.arg i 0) h (u.lines i l) ∙ cut_small (waiting_in slots (get_or e.arg i 0)) (slot_small i l);
  }
    where
      slot_small : (i : ℕ) → i < entries → Small (entry (get_or slots (get_or e.arg i 0) 0) (get_or slots (1088 + get_or e.arg i 0) 0))
      slot_small i l =
          let z : 0 * slot_count + get_or e.arg i 0 ≡ get_or e.arg i 0 = omega arith in
          let a = at_line e R.fine slots s.clean.long 0 i (omega arith) l ∙ ap (λ k. get_or slots k 0) z in
          let c = at_line e R.fine slots s.clean.long 4 i (omega arith) l in
          subst (λ k. Small (entry (get_or slots (get_or e.arg i 0) 0) k)) c (subst (λ k. Small (entry k (get_or (view_of e.arg slots).backs i 0))) a (small _ _ (s.clean.waits i l)))

  pub framed : {x : State} {slots : List ℕ} {b : List Binding} {br : Branch} → Standing e R x slots b br → Framed e.arg slots x.top
  framed {x} {slots} s = record {
    slotted = λ n. record {
      place = let a = top_place s in let c = s.place in omega arith;
      slot = R.fine.slot (x.top - 1);
      long = (view_long e R.fine slots s.clean.long).backs;
    };
  }

  -- What is taken out.
  pub loaded_is : (used : ℕ) (ws : List ℤ) (r : ℕ) (slots₀ slots : List ℕ) (b₀ b : List Binding) → Clean e R slots₀ b₀ → TakenOut ws r e.vars used slots₀ slots b₀ b
      → Loaded e R used (nth ws r) slots₀ slots b₀ b
  loaded_is used ws r slots₀ slots b₀ b c t = record {
    long = t.long;
    ats = t.ats;
    backs = t.backs;
    lows = t.lows;
    old_ats = t.old_ats;
    old_backs = t.old_backs;
    binds = t.binds;
    old_binds = t.old_binds;
    many = t.many ∙ c.binds.long;
  }

  -- ---- Lists one after the other.

  module _ (used : ℕ) (u : Used e R used) where
    -- The same entries hold the same list, where those agree that the rule uses.
    pub kept_same : (T S : ℕ → kept.Held) (br : Branch) → ((k : ℕ) → k < 3 + used → S k ≡ T k) → Kept e R used T br → Kept e R used S br
    kept_same T S br h k = record {
      x = k.x;
      slots = k.slots;
      b = k.b;
      stands = k.stands;
      first = h 0 (omega arith) ∙ k.first;
      top = ap (λ (q : kept.Held). q.at) (h 1 (omega arith)) ∙ k.top;
      pc = ap (λ (q : kept.Held). q.at) (h 2 (omega arith)) ∙ k.pc;
      whole = λ j z. ap (λ (q : kept.Held). q.marks) (h 1 (omega arith)) ∙ k.whole j z;
      left = λ j z. ap (λ (q : kept.Held). q.marks) (h 2 (omega arith)) ∙ k.left j z;
      binds = λ v z. h (3 + v) (let f = R.fine.few in let g = u.variables in omega arith) ∙ k.binds v z;
      waits = λ i l z. h (3 + get_or e.arg i 0) (let f = u.lines i l in omega arith) ∙ k.waits i l z;
    }

    unfoldable pub Lists : List ℤ → (at : ℕ) → List Branch → Type 0
    Lists ws at [] = Unit {0}
    Lists ws at (br ∷ bs) = Kept e R used (nth ws at) br × Lists ws (suc at) bs

    -- No list changes whose entries do not.
    pub lists_same : (old new : List ℤ) (at : ℕ) (bs : List Branch) → ((k : ℕ) → 275 * at ≤ k → k < 275 * (at + length bs) → entry_at new k ≡ entry_at old k)
        → Lists old at bs → Lists new at bs
    unfolding Lists
    lists_same old new at [] h l = tt
    lists_same old new at (br ∷ bs) h l = (
      kept_same (nth old at) (nth new at) br (λ k m. h (275 * at + k) (omega arith) (let g = u.most in omega arith)) l.0,
      lists_same old new (suc at) bs (λ k a b. h k (omega arith) (omega arith)) l.1,
    )

    -- Lists moved to another place.
    pub lists_moved : (old new : List ℤ) (from to : ℕ) (bs : List Branch)
        → ((q k : ℕ) → q < length bs → k < 3 + used → entry_at new (275 * (to + q) + k) ≡ entry_at old (275 * (from + q) + k))
        → Lists old from bs → Lists new to bs
    unfolding Lists
    lists_moved old new from to [] h l = tt
    lists_moved old new from to (br ∷ bs) h l = (
      kept_same (nth old from) (nth new to) br (λ k m.
          let a : 275 * to + k ≡ 275 * (to + 0) + k = omega arith in
          let b : 275 * (from + 0) + k ≡ 275 * from + k = omega arith in
          ap (entry_at new) a ∙ h 0 k (omega arith) m ∙ ap (entry_at old) b) l.0,
      lists_moved old new (suc from) (suc to) bs (λ q k n m.
          let a : 275 * (suc to + q) + k ≡ 275 * (to + suc q) + k = omega arith in
          let b : 275 * (from + suc q) + k ≡ 275 * (suc from + q) + k = omega arith in
          ap (entry_at new) a ∙ h (suc q) k (omega arith) m ∙ ap (entry_at old) b) l.1,
    )

    pub lists_join : (ws : List ℤ) (at : ℕ) (xs ys : List Branch) → Lists ws at xs → Lists ws (at + length xs) ys → Lists ws at (xs ++ ys)
    unfolding Lists
    lists_join ws at [] ys a b = let z : at + 0 ≡ at = omega arith in subst (λ n. Lists ws n ys) z b
    lists_join ws at (x ∷ xs) ys a b = let z : at + suc (length xs) ≡ suc at + length xs = omega arith in (a.0, lists_join ws (suc at) xs ys a.1 (subst (λ n. Lists ws n ys) z b))
