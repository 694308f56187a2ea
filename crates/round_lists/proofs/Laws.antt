-- The needs of the functions that keep lists of states and take them out, as the code asks for them.
use Prim.Native.Nat.{ℕ, zero, suc, ◌+◌, ◌-◌, ◌*◌, ◌^◌, ◌≤◌, ◌<◌}
use native.Mathlib.Omega.{arith}
use borrow.Author.Rules.{rules}
use borrow.Author.Tests.{eqb-true, eqb-false}
use mathlib.Core.Path.{◌≡◌, refl, sym, ap, ap₂, ◌∙◌}
use mathlib.Core.Bool.{Bool, true, false}
use mathlib.Core.List.{List}
use lib.ListN.{length, get_or}
use lib.Dec.{eqb}
use lib.IntN.{ℤ}
use Rattle.tables.specs.declared.slot.Held.{Held}
use Rattle.value_rows.specs.Row.{nothing}
use Rattle.value_rows.specs.declared.Binding.{Binding}
use Rattle.search_step.specs.declared.State.{State}
use Rattle.tables.specs.Slot.{Tables, Slotted, frame_in}
use Rattle.tables.specs.declared.slot.Frame.{Frame}
use Rattle.round_table.specs.Entries.{halves, entry_at, put_entry, cut, put_cut, put_other, put_long, Saved}
use Rattle.round_table.specs.Waiting.{waiting_in}
use Rattle.round_lists.specs.Lists.{entry, waits_as, binds_as, Headed, Topped, Framed, Stored}

pub by_place : (P : Type 0) (i j : ℕ) → (j ≡ i → P) → ((j ≡ i → ⊥) → P) → P
by_place P i j f g = go (eqb j i) (eqb-true j i) (eqb-false j i)
  where
    go : (b : Bool) → (b ≡ true → j ≡ i) → (b ≡ false → j ≡ i → ⊥) → P
    go true a b = f (a refl)
    go false a b = g (b refl)

-- Entries written one after the other, up to k.
pub record Saving (old new : List ℤ) (base low high : ℕ) (f : ℕ → Held) (k : ℕ) : Type 0 where
  pub begun : low ≤ k
  pub most : k ≤ high
  pub is : Saved old new base low k f

pub save_none : (t : List ℤ) (base low high : ℕ) (f : ℕ → Held) → low ≤ high → Saving t t base low high f low
save_none t base low high f h = record {
  begun = omega arith;
  most = h;
  is = record { long = refl; same = λ j a b. absurd (omega arith); below = λ k h. refl; above = λ k h. refl };
}

pub save_there : (old new : List ℤ) (base low high : ℕ) (f : ℕ → Held) (k : ℕ) → Saving old new base low high f k → k < high → high ≤ 272 → 3 * (base + 275) ≤ length old
    → 3 * (base + 3 + k) + 2 < length new
save_there old new base low high f k s h m l = let e = s.is.long in omega arith

pub save_done : (old new : List ℤ) (base low high : ℕ) (f : ℕ → Held) (k : ℕ) → Saving old new base low high f k → high ≤ k → Saved old new base low high f
save_done old new base low high f k s h = let m = s.most in let e : k ≡ high = omega arith in rw (sym e) s.is

save_next : (old new next : List ℤ) (base low high : ℕ) (f : ℕ → Held) (k : ℕ) (h : Held) → Saving old new base low high f k → k < high → 3 * (base + 3 + k) + 2 < length new
    → f k ≡ cut h → next ≡ put_entry new (base + 3 + k) h → Saving old next base low high f (k + 1)
save_next old new next base low high f k h s l t q p = record {
  begun = let b = s.begun in omega arith;
  most = omega arith;
  is = rw p (record {
    long = put_long new (base + 3 + k) h ∙ s.is.long;
    same = λ j a b. by_place _ k j
        (λ z. rw z (put_cut new (base + 3 + k) h t ∙ sym q))
        (λ z. put_other new (base + 3 + k) (base + 3 + j) h t (λ y. z (omega arith)) ∙ s.is.same j a (omega arith));
    below = λ i m. put_other new (base + 3 + k) i h t (λ y. let b = s.begun in omega arith) ∙ s.is.below i m;
    above = λ i m. put_other new (base + 3 + k) i h t (λ y. omega arith) ∙ s.is.above i (omega arith);
  });
}

pub waits_next : (old new next : List ℤ) (base low high : ℕ) (slots : List ℕ) (k : ℕ) (h : Held) → Saving old new base low high (waits_as slots) k → k < high → high ≤ 272 → 3 * (base + 275) ≤ length old
    → h ≡ waiting_in slots k → next ≡ put_entry new (base + 3 + k) h → Saving old next base low high (waits_as slots) (k + 1)
unfolding waits_as
waits_next old new next base low high slots k h s l m t q p =
    save_next old new next base low high (waits_as slots) k h s l (save_there old new base low high (waits_as slots) k s l m t) (ap cut (sym q)) p

pub binds_next : (old new next : List ℤ) (base low high : ℕ) (b : List Binding) (k : ℕ) → Saving old new base low high (binds_as b) k → k < high → high ≤ 272 → 3 * (base + 275) ≤ length old
    → next ≡ put_entry new (base + 3 + k) (record { at = (get_or b k nothing).at; marks = (get_or b k nothing).marks }) → Saving old next base low high (binds_as b) (k + 1)
unfolding binds_as
binds_next old new next base low high b k s l m t p =
    save_next old new next base low high (binds_as b) k (record { at = (get_or b k nothing).at; marks = (get_or b k nothing).marks }) s l (save_there old new base low high (binds_as b) k s l m t) refl p

pub few_272 : (n : ℕ) → n ≤ 16 → n ≤ 272
few_272 n h = omega arith

-- The head.
pub head_is : (old one two three : List ℤ) (base : ℕ) (x : State) (whole left : ℕ) → 3 * (base + 275) ≤ length old
    → one ≡ put_entry old base (record { at = x.at; marks = x.marks }) → two ≡ put_entry one (base + 1) (record { at = x.top; marks = whole })
    → three ≡ put_entry two (base + 2) (record { at = x.pc; marks = left }) → Headed old three base x whole left
head_is old one two three base x whole left l p q r = record {
  long = n3 ∙ n2 ∙ n1;
  first = three_at base (λ z. omega arith) ∙ two_at base (λ z. omega arith) ∙ ap (λ t. entry_at t base) p ∙ put_cut old base (entry x.at x.marks) (omega arith);
  top = three_at (base + 1) (λ z. omega arith) ∙ ap (λ t. entry_at t (base + 1)) q ∙ put_cut one (base + 1) (entry x.top whole) (omega (arith, n1));
  pc = ap (λ t. entry_at t (base + 2)) r ∙ put_cut two (base + 2) (entry x.pc left) (omega (arith, n1, n2));
  below = λ k h. three_at k (λ z. omega arith) ∙ two_at k (λ z. omega arith) ∙ one_at k (λ z. omega arith);
  above = λ k h. three_at k (λ z. omega arith) ∙ two_at k (λ z. omega arith) ∙ one_at k (λ z. omega arith);
}
  where
    n1 : length one ≡ length old
    n1 = rw p (put_long old base (entry x.at x.marks))

    n2 : length two ≡ length one
    n2 = rw q (put_long one (base + 1) (entry x.top whole))

    n3 : length three ≡ length two
    n3 = rw r (put_long two (base + 2) (entry x.pc left))

    one_at : (k : ℕ) → (k ≡ base → ⊥) → entry_at one k ≡ entry_at old k
    one_at k h = ap (λ t. entry_at t k) p ∙ put_other old base k (entry x.at x.marks) (omega arith) h

    two_at : (k : ℕ) → (k ≡ base + 1 → ⊥) → entry_at two k ≡ entry_at one k
    two_at k h = ap (λ t. entry_at t k) q ∙ put_other one (base + 1) k (entry x.top whole) (omega (arith, n1)) h

    three_at : (k : ℕ) → (k ≡ base + 2 → ⊥) → entry_at three k ≡ entry_at two k
    three_at k h = ap (λ t. entry_at t k) r ∙ put_other two (base + 2) k (entry x.pc left) (omega (arith, n1, n2)) h

pub long_put : (ws t : List ℤ) (i n : ℕ) (h : Held) → t ≡ put_entry ws i h → n < length ws → n < length t
long_put ws t i n h p l = rw (p, put_long ws i h) l

pub head_1 : (base n : ℕ) → 3 * (base + 275) ≤ n → 3 * base + 2 < n
head_1 base n h = omega arith

pub head_2 : (base n : ℕ) → 3 * (base + 275) ≤ n → 3 * (base + 1) + 2 < n
head_2 base n h = omega arith

pub head_3 : (base n : ℕ) → 3 * (base + 275) ≤ n → 3 * (base + 2) + 2 < n
head_3 base n h = omega arith

-- The head with its frame.
pub top_none : (old new : List ℤ) (base : ℕ) (x : State) (t : Tables) → x.top ≡ 0 → Headed old new base x 0 0 → Topped old new base x t
unfolding cut
top_none old new base x t z h = record {
  long = h.long;
  first = h.first;
  top = ap (λ (q : Held). q.at) h.top;
  pc = ap (λ (q : Held). q.at) h.pc;
  whole = λ j e. absurd (omega arith);
  left = λ j e. absurd (omega arith);
  below = h.below;
  above = h.above;
}

cut_marks : (at m : ℕ) → m < 2 ^ 64 → (cut (entry at m)).marks ≡ m
unfolding cut halves
cut_marks at m h = omega arith

pub top_some : (old new : List ℤ) (base : ℕ) (x : State) (t : Tables) (f : Frame) → (x.top ≡ 0 → ⊥) → f ≡ frame_in t (x.top - 1) → f.whole < 2 ^ 64 → f.left < 2 ^ 64
    → Headed old new base x f.whole f.left → Topped old new base x t
unfolding cut frame_in
top_some old new base x t f n q a b h = record {
  long = h.long;
  first = h.first;
  top = ap (λ (q : Held). q.at) h.top;
  pc = ap (λ (q : Held). q.at) h.pc;
  whole = λ j e. let z : x.top - 1 ≡ j = omega arith in ap (λ (q : Held). q.marks) h.top ∙ cut_marks x.top f.whole a ∙ ap (λ (y : Frame). y.whole) q ∙ ap (λ i. get_or t.wholes i 0) z;
  left = λ j e. let z : x.top - 1 ≡ j = omega arith in ap (λ (q : Held). q.marks) h.pc ∙ cut_marks x.pc f.left b ∙ ap (λ (y : Frame). y.left) q ∙ ap (λ i. get_or t.lefts i 0) z;
  below = h.below;
  above = h.above;
}

-- The whole list.
pub stored : (old one two three : List ℤ) (r n used : ℕ) (x : State) (t : Tables) (slots : List ℕ) (b : List Binding) → n ≤ 16 → 16 ≤ used → used ≤ 272
    → Topped old one (r * 275) x t → Saved one two (r * 275) 0 n (binds_as b) → Saved two three (r * 275) 16 used (waits_as slots) → Stored old three r n used x t slots b
stored old one two three r n used x t slots b h k l p q s = record {
  long = s.long ∙ q.long ∙ p.long;
  first = at_0 ∙ ap (entry_at one) e ∙ p.first;
  top = ap (λ (y : Held). y.at) (at_1 ∙ ap (λ i. entry_at one (i + 1)) e) ∙ p.top;
  pc = ap (λ (y : Held). y.at) (at_2 ∙ ap (λ i. entry_at one (i + 2)) e) ∙ p.pc;
  whole = λ j z. ap (λ (y : Held). y.marks) (at_1 ∙ ap (λ i. entry_at one (i + 1)) e) ∙ p.whole j z;
  left = λ j z. ap (λ (y : Held). y.marks) (at_2 ∙ ap (λ i. entry_at one (i + 2)) e) ∙ p.left j z;
  binds = λ v a. let z : 275 * r + (3 + v) ≡ r * 275 + 3 + v = omega arith in s.below (275 * r + (3 + v)) (omega arith) ∙ ap (entry_at two) z ∙ q.same v (omega arith) a;
  waits = λ j a c. let z : 275 * r + (3 + j) ≡ r * 275 + 3 + j = omega arith in ap (entry_at three) z ∙ s.same j a c;
  below = λ i a. s.below i (omega arith) ∙ q.below i (omega arith) ∙ p.below i (omega arith);
  above = λ i a. s.above i (omega arith) ∙ q.above i (omega arith) ∙ p.above i (omega arith);
}
  where
    e : 275 * r ≡ r * 275
    e = omega arith

    at_0 : entry_at three (275 * r) ≡ entry_at one (275 * r)
    at_0 = s.below (275 * r) (omega arith) ∙ q.below (275 * r) (omega arith)

    at_1 : entry_at three (275 * r + 1) ≡ entry_at one (275 * r + 1)
    at_1 = s.below (275 * r + 1) (omega arith) ∙ q.below (275 * r + 1) (omega arith)

    at_2 : entry_at three (275 * r + 2) ≡ entry_at one (275 * r + 2)
    at_2 = s.below (275 * r + 2) (omega arith) ∙ q.below (275 * r + 2) (omega arith)

pub top_slotted : (arg slots : List ℕ) (top : ℕ) → Framed arg slots top → (top ≡ 0 → ⊥) → Slotted arg slots (top - 1)
top_slotted arg slots top f n = f.slotted n

pub long_topped : (old new : List ℤ) (base n : ℕ) (x : State) (t : Tables) → Topped old new base x t → n ≤ length old → n ≤ length new
long_topped old new base n x t h l = let e = h.long in omega arith

pub long_saved : (old new : List ℤ) (base low high n : ℕ) (f : ℕ → Held) → Saved old new base low high f → n ≤ length old → n ≤ length new
long_saved old new base low high n f h l = let e = h.long in omega arith

pub base_long : (r n : ℕ) → 825 * r + 825 ≤ n → 3 * (r * 275 + 275) ≤ n
base_long r n h = omega arith

pub same_long : (old new : List ℤ) (r n used : ℕ) (x : State) (t : Tables) (slots : List ℕ) (b : List Binding) → Stored old new r n used x t slots b → length new ≡ length old
same_long old new r n used x t slots b s = s.long

pub ruleset own_rules = (rules, save_none, save_there, save_done, waits_next, binds_next, few_272, head_is, long_put, head_1, head_2, head_3, top_none, top_some, stored, top_slotted, long_topped, long_saved, base_long, arith)
