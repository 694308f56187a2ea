-- The needs of the functions that take lists of states out of the table, as the code asks for them.
use Prim.Native.Nat.{ℕ, zero, suc, ◌+◌, ◌-◌, ◌*◌, ◌≤◌, ◌<◌}
use native.Mathlib.Omega.{arith}
use borrow.Author.Rules.{rules}
use mathlib.Core.Path.{◌≡◌, refl, sym, ap, ap₂, ◌∙◌}
use mathlib.Core.List.{List}
use lib.ListN.{length, get_or, set, length-set}
use lib.Seq.{get_or-set_same, get_or-set_other}
use lib.IntN.{ℤ}
use Rattle.tables.specs.declared.slot.Held.{Held}
use Rattle.tables.specs.declared.slot.Frame.{Frame}
use Rattle.tables.specs.Slot.{Tables, held_in, put_frame}
use Rattle.value_rows.specs.Row.{nothing}
use Rattle.value_rows.specs.declared.Binding.{Binding}
use Rattle.round_table.specs.Entries.{entry_at}
use Rattle.round_table.specs.Waiting.{put_waiting}
use Rattle.round_lists.specs.Taken.{Waited, Shut, Rebound, TakenOut, reopened}
use Rattle.round_lists.proofs.Laws.{by_place, few_272, base_long}

-- Slots taken one after the other, up to k.
pub record Waiting (ws : List ℤ) (base used : ℕ) (old new : List ℕ) (k : ℕ) : Type 0 where
  pub begun : 16 ≤ k
  pub most : k ≤ used
  pub is : Waited ws base k old new

pub wait_none : (ws : List ℤ) (base used : ℕ) (t : List ℕ) → 16 ≤ used → Waiting ws base used t t 16
wait_none ws base used t h = record {
  begun = omega arith;
  most = h;
  is = record { long = refl; ats = λ j a b. absurd (omega arith); backs = λ j a b. absurd (omega arith); old_ats = λ j a. refl; old_backs = λ j a. refl; lows = λ j a. refl };
}

pub wait_there : (ws : List ℤ) (base used : ℕ) (old new : List ℕ) (k : ℕ) → Waiting ws base used old new k → k < used → used ≤ 272 → 3 * (base + 275) ≤ length ws
    → 3 * (base + 3 + k) + 2 < length ws
wait_there ws base used old new k s h m l = omega arith

pub wait_done : (ws : List ℤ) (base used : ℕ) (old new : List ℕ) (k : ℕ) → Waiting ws base used old new k → used ≤ k → Waited ws base used old new
wait_done ws base used old new k s h = let m = s.most in let e : k ≡ used = omega arith in rw (sym e) s.is

pub wait_next : (ws : List ℤ) (base used : ℕ) (old new next : List ℕ) (k : ℕ) (h : Held) → Waiting ws base used old new k → k < used → used ≤ 272 → 1360 ≤ length old
    → h ≡ entry_at ws (base + 3 + k) → next ≡ put_waiting new k h → Waiting ws base used old next (k + 1)
unfolding put_waiting
wait_next ws base used old new next k h s l m n q p = record {
  begun = let b = s.begun in omega arith;
  most = omega arith;
  is = rw p (record {
    long = length-set (set new k h.at) (1088 + k) h.marks ∙ length-set new k h.at ∙ s.is.long;
    ats = λ j a b. by_place _ k j
        (λ z. rw z (off (1088 + k) k (λ y. omega arith) ∙ get_or-set_same new k h.at 0 (omega (arith, s.is.long)) ∙ ap (λ (y : Held). y.at) q))
        (λ z. off (1088 + k) j (λ y. omega arith) ∙ get_or-set_other new k j h.at 0 z ∙ s.is.ats j a (omega arith));
    backs = λ j a b. by_place _ k j
        (λ z. rw z (get_or-set_same (set new k h.at) (1088 + k) h.marks 0 (omega (arith, s.is.long, length-set new k h.at)) ∙ ap (λ (y : Held). y.marks) q))
        (λ z. off (1088 + k) (1088 + j) (λ y. z (omega arith)) ∙ get_or-set_other new k (1088 + j) h.at 0 (λ y. omega arith) ∙ s.is.backs j a (omega arith));
    old_ats = λ j a. let b = s.begun in off (1088 + k) j (λ y. omega arith) ∙ get_or-set_other new k j h.at 0 (λ y. omega arith) ∙ s.is.old_ats j a;
    old_backs = λ j a. let b = s.begun in off (1088 + k) (1088 + j) (λ y. omega arith) ∙ get_or-set_other new k (1088 + j) h.at 0 (λ y. omega arith) ∙ s.is.old_backs j a;
    lows = λ j a. off (1088 + k) (816 + j) (λ y. omega arith) ∙ get_or-set_other new k (816 + j) h.at 0 (λ y. omega arith) ∙ s.is.lows j a;
  });
}
  where
    off : (i j : ℕ) → (j ≡ i → ⊥) → get_or (set (set new k h.at) i h.marks) j 0 ≡ get_or (set new k h.at) j 0
    off i j z = get_or-set_other (set new k h.at) i j h.marks 0 z

-- Frames shut one after the other.
pub record Shutting (used : ℕ) (old new : List ℕ) (k : ℕ) : Type 0 where
  pub most : k ≤ used
  pub is : Shut k old new

pub shut_none : (used : ℕ) (t : List ℕ) → Shutting used t t 0
shut_none used t = record { most = omega arith; is = record { long = refl; lows = λ j a. absurd (omega arith); ats = λ j a. refl; backs = λ j. refl } }

pub shut_done : (used : ℕ) (old new : List ℕ) (k : ℕ) → Shutting used old new k → used ≤ k → Shut used old new
shut_done used old new k s h = let m = s.most in let e : k ≡ used = omega arith in rw (sym e) s.is

pub shut_next : (used : ℕ) (old new next : List ℕ) (k : ℕ) → Shutting used old new k → k < used → used ≤ 272 → 1360 ≤ length old → next ≡ set new (816 + k) 0
    → Shutting used old next (k + 1)
shut_next used old new next k s l m n p = record {
  most = omega arith;
  is = rw p (record {
    long = length-set new (816 + k) 0 ∙ s.is.long;
    lows = λ j a. by_place _ k j (λ z. rw z (get_or-set_same new (816 + k) 0 0 (omega (arith, s.is.long)))) (λ z. get_or-set_other new (816 + k) (816 + j) 0 0 (λ y. z (omega arith)) ∙ s.is.lows j (omega arith));
    ats = λ j a. get_or-set_other new (816 + k) j 0 0 (λ y. omega arith) ∙ s.is.ats j a;
    backs = λ j. get_or-set_other new (816 + k) (1088 + j) 0 0 (λ y. omega arith) ∙ s.is.backs j;
  });
}

-- Bindings taken one after the other.
pub record Rebinding (ws : List ℤ) (base n : ℕ) (old new : List Binding) (k : ℕ) : Type 0 where
  pub most : k ≤ n
  pub is : Rebound ws base k old new

pub bind_none : (ws : List ℤ) (base n : ℕ) (b : List Binding) → Rebinding ws base n b b 0
bind_none ws base n b = record { most = omega arith; is = record { long = refl; binds = λ v a. absurd (omega arith); old_binds = λ v a. refl } }

pub bind_done : (ws : List ℤ) (base n : ℕ) (old new : List Binding) (k : ℕ) → Rebinding ws base n old new k → n ≤ k → Rebound ws base n old new
bind_done ws base n old new k s h = let m = s.most in let e : k ≡ n = omega arith in rw (sym e) s.is

pub bind_there : (ws : List ℤ) (base n : ℕ) (old new : List Binding) (k : ℕ) → Rebinding ws base n old new k → k < n → n ≤ 16 → 3 * (base + 275) ≤ length ws
    → 3 * (base + 3 + k) + 2 < length ws
bind_there ws base n old new k s h m l = omega arith

pub bind_next : (ws : List ℤ) (base n : ℕ) (old new : List Binding) (k : ℕ) (h : Held) → Rebinding ws base n old new k → k < n → n ≤ 16 → length old ≡ 16
    → h ≡ entry_at ws (base + 3 + k) → Rebinding ws base n old (set new k (record { at = h.at; marks = h.marks })) (k + 1)
bind_next ws base n old new k h s l m c q = record {
  most = omega arith;
  is = record {
    long = length-set new k _ ∙ s.is.long;
    binds = λ v a. by_place _ k v
        (λ z. rw z (get_or-set_same new k _ nothing (omega (arith, s.is.long)) ∙ ap (λ (y : Held). record { at = y.at; marks = y.marks }) q))
        (λ z. get_or-set_other new k v _ nothing z ∙ s.is.binds v (omega arith));
    old_binds = λ v a. get_or-set_other new k v _ nothing (λ y. omega arith) ∙ s.is.old_binds v (omega arith);
  };
}

pub long_shut : (used : ℕ) (old new : List ℕ) → Shut used old new → 1360 ≤ length old → 1360 ≤ length new
long_shut used old new s h = let e = s.long in omega arith

pub taken_out : (ws : List ℤ) (r n used : ℕ) (t₀ t₁ t₂ : List ℕ) (b₀ b : List Binding) → used ≤ 272 → Shut used t₀ t₁ → Waited ws (r * 275) used t₁ t₂ → Rebound ws (r * 275) n b₀ b
    → TakenOut ws r n used t₀ t₂ b₀ b
taken_out ws r n used t₀ t₁ t₂ b₀ b h p q s = record {
  long = q.long ∙ p.long;
  ats = λ j a c. q.ats j a c ∙ ap (λ i. (entry_at ws i).at) (at j);
  backs = λ j a c. q.backs j a c ∙ ap (λ i. (entry_at ws i).marks) (at j);
  lows = λ j a. q.lows j (omega arith) ∙ p.lows j a;
  old_ats = λ j a. q.old_ats j a ∙ p.ats j (omega arith);
  old_backs = λ j a. q.old_backs j a ∙ p.backs j;
  binds = λ v a. s.binds v a ∙ ap (λ i. record { at = (entry_at ws i).at; marks = (entry_at ws i).marks }) (at v);
  old_binds = s.old_binds;
  many = s.long;
}
  where
    at : (j : ℕ) → r * 275 + 3 + j ≡ 275 * r + (3 + j)
    at j = omega arith

-- The frame.
pub frame_again : (ws : List ℤ) (r pc : ℕ) (t u : Tables) (one two h : Held) → one ≡ entry_at ws (r * 275 + 1) → two ≡ entry_at ws (r * 275 + 2) → h ≡ held_in t pc
    → u ≡ put_frame pc (record { at = h.at; whole = one.marks; left = two.marks }) 0 t → u ≡ reopened pc (entry_at ws (275 * r + 1)) (entry_at ws (275 * r + 2)) t
unfolding reopened held_in
frame_again ws r pc t u one two h p q s e =
    let z : r * 275 ≡ 275 * r = omega arith in
    e ∙ (λ i. put_frame pc (record { at = (ap (λ (y : Held). y.at) s) i; whole = (ap (λ (y : Held). y.marks) (p ∙ ap (λ k. entry_at ws (k + 1)) z)) i; left = (ap (λ (y : Held). y.marks) (q ∙ ap (λ k. entry_at ws (k + 2)) z)) i }) 0 t)

pub entry_1 : (r n : ℕ) → 825 * r + 825 ≤ n → 3 * (r * 275 + 1) + 2 < n
entry_1 r n h = omega arith

pub entry_2 : (r n : ℕ) → 825 * r + 825 ≤ n → 3 * (r * 275 + 2) + 2 < n
entry_2 r n h = omega arith

pub ruleset own_rules = (rules, wait_none, wait_there, wait_done, wait_next, shut_none, shut_done, shut_next, bind_none, bind_done, bind_there, bind_next, long_shut, taken_out, frame_again, entry_1, entry_2, few_272, base_long, arith)
