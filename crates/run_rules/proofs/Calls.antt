-- Laws of what specs/Calls.antt defines.
use Rattle.std.specs.Prelude.{ℕ, ◌+◌, ◌-◌, ◌≡◌, refl, ◌≢◌, Bool, true, false, List, [], ◌∷◌, T, eqb, ℤ}
use Rattle.std.proofs.Common.{add-zero, add_assoc, arith, ◌∙◌, subst, length-append, eqb→eq}
use Rattle.std.proofs.Math.Path.{sym, ap, ap₂}
use Rattle.std.proofs.Math.ListN.{length}
use Rattle.std.proofs.Math.Dec.{eqb_refl}
use Rattle.rules.specs.Search.{State, Run, stopped, run_in}
use Rattle.forms.specs.Tests.{is_true, is_false}
use Rattle.run_rules.specs.Lent.{Terms, run, Numbers, Held, ended, going, Lent, remaining, holding, allowed, since, written_at, told, held_after, room_after, Advanced, go_on, unlike, advanced}
use Rattle.run_rules.proofs.Splits.{behind, Split, over, further, split}
use Rattle.run_rules.specs.Calls.{Call, called, given, none_written}

-- ---- Which room.

eqb_true : (m n : ℕ) → m ≡ n → eqb m n ≡ true
eqb_true m n e = is_true (eqb m n) (subst (λ (i : ℕ). T (eqb m i)) e (eqb_refl m))

pub like : (n : ℕ) (room : List ℤ) (l : Lent) → length room ≡ l.size → advanced n room l ≡ go_on n room l
unfolding advanced
like n room l e = ap (λ b. elim b as (λ _. Advanced) [ true ↦ go_on n room l | false ↦ unlike room l ]) (eqb_true (length room) l.size e)

pub other : (n : ℕ) (room : List ℤ) (l : Lent) → length room ≢ l.size → advanced n room l ≡ unlike room l
unfolding advanced
other n room l h = ap (λ b. elim b as (λ _. Advanced) [ true ↦ go_on n room l | false ↦ unlike room l ])
    (is_false (eqb (length room) l.size) (λ t. h (eqb→eq (length room) l.size t)))

-- ---- Two portions are one.

pub allowed_add : (a b k : ℕ) → allowed (a + b) k ≡ allowed a k + allowed b (k + allowed a k)
unfolding allowed
allowed_add a b k = omega arith

pub same_numbers : (a : ℕ) {x x' y y' z z' : ℕ} → x ≡ x' → y ≡ y' → z ≡ z'
    → ◌≡◌ {A = Numbers} (record { answer = a; place = 0; rows = x; steps = y; words = z; cause = 0 })
    (record { answer = a; place = 0; rows = x'; steps = y'; words = z'; cause = 0 })
same_numbers a p q r i = record { answer = a; place = 0; rows = p i; steps = q i; words = r i; cause = 0 }

since_behind : (rows steps words : ℕ) (a b : Run)
    → since (rows + a.rows) (steps + a.steps) (words + length a.written) b ≡ since rows steps words (behind a b)
unfolding since behind
since_behind rows steps words a b = same_numbers b.answer (add_assoc rows a.rows b.rows) (add_assoc steps a.steps b.steps)
    (add_assoc words (length a.written) (length b.written) ∙ ap (λ (i : ℕ). words + i) (sym (length-append a.written b.written)))

module _ (terms : Terms) (a b size : ℕ) (s : State) (ss : List State) (rows steps words : ℕ) where
  abbrev p : ℕ
  p = allowed a steps

  abbrev q : ℕ
  q = allowed b (steps + allowed a steps)

  abbrev free : ℕ
  free = size - words

  abbrev first : Run
  first = run terms p (s ∷ ss) free

  abbrev k : Numbers
  k = since rows steps words first

  -- What the run by both portions tells and leaves.
  both_told : told (a + b) size (going terms s ss rows steps words) ≡ since rows steps words (run terms (p + q) (s ∷ ss) free)
  unfolding told
  both_told = ap (λ i. since rows steps words (run terms i (s ∷ ss) free)) (allowed_add a b steps)

  both_held : held_after (a + b) size (going terms s ss rows steps words) ≡ holding terms (since rows steps words (run terms (p + q) (s ∷ ss) free)) (remaining terms (p + q) (s ∷ ss) free)
  unfolding held_after told
  both_held = ap (λ i. holding terms (since rows steps words (run terms i (s ∷ ss) free)) (remaining terms i (s ∷ ss) free)) (allowed_add a b steps)

  -- After the first portion it has ended, or goes on.
  pub over_held : remaining terms p (s ∷ ss) free ≡ [] → held_after a size (going terms s ss rows steps words) ≡ ended k
  unfolding held_after told holding
  over_held e = ap (holding terms k) e

  pub further_held : (t : State) (ts : List State) → remaining terms p (s ∷ ss) free ≡ t ∷ ts
      → held_after a size (going terms s ss rows steps words) ≡ going terms t ts (rows + first.rows) (steps + first.steps) (words + length first.written)
  unfolding held_after told holding since
  further_held t ts e = ap (holding terms k) e

  -- The second run.
  pub second_steps : first.steps ≡ p → allowed b (steps + first.steps) ≡ q
  second_steps e = ap (λ i. allowed b (steps + i)) e

  pub second_free : size - (words + length first.written) ≡ free - length first.written
  second_free = omega arith

  two_held : Split terms p q (s ∷ ss) free → held_after b size (held_after a size (going terms s ss rows steps words)) ≡ held_after (a + b) size (going terms s ss rows steps words)
  unfolding held_after told holding
  two_held (over e n f r) = ap (held_after b size) (over_held e) ∙ sym (both_held ∙ ap₂ (holding terms) (ap (since rows steps words) r) f)
  two_held (further t ts e n i f r) = ap (held_after b size) (further_held t ts e)
      ∙ ap₂ (λ x y. holding terms (since (rows + first.rows) (steps + first.steps) (words + length first.written) (run terms x (t ∷ ts) y)) (remaining terms x (t ∷ ts) y))
      (second_steps i) second_free
      ∙ ap (λ x. holding terms x (remaining terms q (t ∷ ts) (free - length first.written))) (since_behind rows steps words first (run terms q (t ∷ ts) (free - length first.written)))
      ∙ sym (both_held ∙ ap₂ (holding terms) (ap (since rows steps words) r) f)

  two_told : Split terms p q (s ∷ ss) free → told b size (held_after a size (going terms s ss rows steps words)) ≡ told (a + b) size (going terms s ss rows steps words)
  unfolding told
  two_told (over e n f r) = ap (told b size) (over_held e) ∙ sym (both_told ∙ ap (since rows steps words) r)
  two_told (further t ts e n i f r) = ap (told b size) (further_held t ts e)
      ∙ ap₂ (λ x y. since (rows + first.rows) (steps + first.steps) (words + length first.written) (run terms x (t ∷ ts) y)) (second_steps i) second_free
      ∙ since_behind rows steps words first (run terms q (t ∷ ts) (free - length first.written))
      ∙ sym (both_told ∙ ap (since rows steps words) r)

pub held_add : (a b size : ℕ) (h : Held) → held_after b size (held_after a size h) ≡ held_after (a + b) size h
unfolding held_after
held_add a b size (ended k) = refl
held_add a b size (going f s ss rows steps words) =
    two_held f a b size s ss rows steps words (split f (allowed a steps) (allowed b (steps + allowed a steps)) (s ∷ ss) (size - words))

pub told_add : (a b size : ℕ) (h : Held) → told b size (held_after a size h) ≡ told (a + b) size h
unfolding held_after told
told_add a b size (ended k) = refl
told_add a b size (going f s ss rows steps words) =
    two_told f a b size s ss rows steps words (split f (allowed a steps) (allowed b (steps + allowed a steps)) (s ∷ ss) (size - words))

-- ---- A portion of 0.

no_steps : (k : ℕ) → allowed 0 k ≡ 0
unfolding allowed
no_steps k = omega arith

pub held_zero : (size : ℕ) (h : Held) → held_after 0 size h ≡ h
unfolding held_after told holding since run_in remaining stopped
held_zero size (ended k) = refl
held_zero size (going f s ss rows steps words) =
    ap (λ i. holding f (since rows steps words (run f i (s ∷ ss) (size - words))) (remaining f i (s ∷ ss) (size - words))) (no_steps steps)
    ∙ go (add-zero rows) (add-zero steps) (add-zero words)
  where
    go : {x y z : ℕ} → x ≡ rows → y ≡ steps → z ≡ words → going f s ss x y z ≡ going f s ss rows steps words
    go a b c i = going f s ss (a i) (b i) (c i)

pub room_zero : (size : ℕ) (h : Held) (room : List ℤ) → room_after 0 size h room ≡ room
unfolding room_after run_in stopped
room_zero size (ended k) room = refl
room_zero size (going f s ss rows steps words) room =
    ap (λ i. written_at words (run f i (s ∷ ss) (size - words)).written room) (no_steps steps) ∙ none_written words room

-- ---- An ended run.

-- Where the answer is not 7, none is held.
pub held_ended : (n size : ℕ) (h : Held) → (told n size h).answer ≢ 7 → held_after n size h ≡ ended (told n size h)
unfolding held_after told holding since
held_ended n size (ended k) a = refl
held_ended n size (going f s ss rows steps words) a = go (split f (allowed n steps) 0 (s ∷ ss) (size - words))
  where
    go : Split f (allowed n steps) 0 (s ∷ ss) (size - words) → held_after n size (going f s ss rows steps words) ≡ ended (told n size (going f s ss rows steps words))
    go (over e b g r) = ap (holding f (told n size (going f s ss rows steps words))) e
    go (further t ts e b i g r) = absurd (a b)

pub called_held : (cs : List Call) (size : ℕ) (h : Held)
    → called cs (record { size = size; held = h }) ≡ record { size = size; held = held_after (given size cs) size h }
unfolding called given advanced go_on unlike
called_held [] size h = ap {B = Lent} (λ x. record { size = size; held = x }) (sym (held_zero size h))
called_held (c ∷ cs) size h = go (eqb (length c.room) size) (called_held cs size h) (called_held cs size (held_after c.portion size h))
  where
    go : (b : Bool) → called cs (record { size = size; held = h }) ≡ record { size = size; held = held_after (given size cs) size h }
        → called cs (record { size = size; held = held_after c.portion size h })
        ≡ record { size = size; held = held_after (given size cs) size (held_after c.portion size h) }
        → called cs (elim b as (λ _. Advanced) [
          | true ↦ go_on c.portion c.room (record { size = size; held = h })
          | false ↦ unlike c.room (record { size = size; held = h })
        ]).run
        ≡ record { size = size; held = held_after (elim b as (λ _. ℕ) [ true ↦ c.portion + given size cs | false ↦ given size cs ]) size h }
    go true u w = w ∙ ap {B = Lent} (λ x. record { size = size; held = x }) (held_add c.portion (given size cs) size h)
    go false u w = u
