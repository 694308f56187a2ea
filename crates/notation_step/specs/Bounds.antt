-- How far a step goes: at most three words and one that waits more.
use Rattle.std.specs.Prelude.{ℕ, zero, suc, ◌+◌, ◌-◌, ◌/◌, ◌%◌, ◌≤◌, ◌≡◌, refl, Bool, true, false, cond, List, eqb, leb, ℤ}
use Rattle.std.proofs.Common.{arith, to_z}
use Rattle.std.specs.Int.{w32}
use Rattle.notation_step.specs.Stepped.{inserted, Puts, puts, putting_some, heading, bits_of, waiting_at, put_at, piled, pushed, reach_of, placed, settling, settled, refused, bare_by, View, view, tag_bits, mode_bits, tag_word, next_place, appended, appending, too_large, signing, closing, crowded, comma_stand, comma_stack, sectioned, taking, action_at, stepped}
use Rattle.notation_step.specs.declared.Stand.{Stand}
use Rattle.notation_step.specs.declared.Waiting.{Waiting}

pub settling_len : (stack : List Waiting) (s : Stand) (reach top start : ℕ) → (settling stack s reach top start).len ≡ s.len
unfolding settling placed
settling_len stack s reach zero start = refl
settling_len stack s reach (suc top) start = go (leb ((waiting_at stack top).tight % 8) reach) (settling_len stack s reach top (waiting_at stack top).start)
  where
    go : (t : Bool) → (settling stack s reach top (waiting_at stack top).start).len ≡ s.len → (cond t (placed s (suc top) start) (settling stack s reach top (waiting_at stack top).start)).len ≡ s.len
    go true e = refl
    go false e = e

pub settling_top : (stack : List Waiting) (s : Stand) (reach top start : ℕ) → (settling stack s reach top start).top ≤ top
unfolding settling placed
settling_top stack s reach zero start = omega arith
settling_top stack s reach (suc top) start = go (leb ((waiting_at stack top).tight % 8) reach) (settling_top stack s reach top (waiting_at stack top).start)
  where
    go : (t : Bool) → (settling stack s reach top (waiting_at stack top).start).top ≤ top → (cond t (placed s (suc top) start) (settling stack s reach top (waiting_at stack top).start)).top ≤ suc top
    go true e = omega arith
    go false e = omega arith

some_len : (ws : List ℤ) (len some u : ℕ) → (putting_some ws len some u).len ≤ len + 1
unfolding putting_some puts
some_len ws len some u = go (eqb some 0)
  where
    go : (t : Bool) → (cond t (puts ws len) (puts (inserted ws len len (to_z w32 u)) (len + 1))).len ≤ len + 1
    go true = omega arith
    go false = omega arith

head_len : (ws : List ℤ) (len start : ℕ) (bare : Bool) (tag parts : ℕ) → (heading ws len start bare tag parts).len ≤ len + 2
unfolding heading puts
head_len ws len start bare tag parts = go bare
  where
    go : (t : Bool) → (cond t (puts ws len) (puts (inserted (inserted ws len start (to_z w32 parts)) (len + 1) start (to_z w32 tag)) (len + 2))).len ≤ len + 2
    go true = omega arith
    go false = omega arith

push_top : (stack : List Waiting) (top some start : ℕ) → (pushed stack top some start).top ≤ top + 1
unfolding pushed piled
push_top stack top some start = go (eqb some 0)
  where
    go : (t : Bool) → (cond t (piled stack top) (piled (put_at stack top (record { tight = (some % 16 + 15) % 16; start = start; parts = 0 })) (top + 1))).top ≤ top + 1
    go true = omega arith
    go false = omega arith

-- What a view may be after a step from s.
pub record Near (s : Stand) (v : View) : Type 0 where
  pub len : v.stand.len ≤ s.len + 3
  pub top : v.stand.top ≤ s.top + 1

either : (s : Stand) (t : Bool) (x y : View) → Near s x → Near s y → Near s (cond t x y)
either s true x y a b = a
either s false x y a b = b

refused_near : (stack : List Waiting) (ws : List ℤ) (s : Stand) (c : ℕ) → Near s (view (refused s c) stack ws)
unfolding view refused
refused_near stack ws s c = record { len = omega arith; top = omega arith }

appended_near : (stack : List Waiting) (ws : List ℤ) (s : Stand) (a value : ℕ) → Near s (appended stack ws s a value)
unfolding appended view
appended_near stack ws s a value =
    let n : Puts = putting_some ws s.len (tag_bits a) (tag_word a) in
    let m : Puts = putting_some n.words n.len (mode_bits a) (bits_of (mode_bits a) value) in
    let x = some_len ws s.len (tag_bits a) (tag_word a) in
    let y = some_len n.words n.len (mode_bits a) (bits_of (mode_bits a) value) in
    let z = some_len m.words m.len (a / 16384 % 2) 0 in
    record { len = omega arith; top = push_top stack s.top (a / 32768 % 16) s.len }

appending_near : (stack : List Waiting) (ws : List ℤ) (s : Stand) (a value : ℕ) → Near s (appending stack ws s a value)
unfolding appending
appending_near stack ws s a value = either s (too_large (mode_bits a) value) (view (refused s 8) stack ws) (appended stack ws s a value) (refused_near stack ws s 8) (appended_near stack ws s a value)

signing_near : (stack : List Waiting) (ws : List ℤ) (s : Stand) (a : ℕ) → Near s (signing stack ws s a)
unfolding signing view
signing_near stack ws s a = record { len = omega arith; top = push_top stack s.top (a / 32768 % 16) s.start }

closing_near : (stack : List Waiting) (ws : List ℤ) (s : Stand) (a more : ℕ) → Near s (closing stack ws s a more)
unfolding closing view
closing_near stack ws s a more =
    let j : ℕ = s.top - 1 in
    let h = head_len ws s.len (waiting_at stack j).start (bare_by (waiting_at stack j).tight (waiting_at stack j).parts) (tag_word a) (bits_of 0 ((waiting_at stack j).parts % 1048576 + more)) in
    record { len = omega arith; top = omega arith }

comma_near : (stack : List Waiting) (ws : List ℤ) (s : Stand) (a : ℕ) → Near s (view (comma_stand stack s a) (comma_stack stack s) ws)
unfolding view comma_stand refused
comma_near stack ws s a = go (crowded stack s)
  where
    go : (t : Bool) → Near s (record { stand = cond t (refused s 9) (record { place = next_place a; top = s.top; len = s.len; start = s.start; matcher = s.matcher; pattern = s.pattern; cause = 0 }); stack = comma_stack stack s; words = ws })
    go true = record { len = omega arith; top = omega arith }
    go false = record { len = omega arith; top = omega arith }

section_near : (stack : List Waiting) (ws : List ℤ) (s : Stand) (a : ℕ) → Near s (view (sectioned s a) stack ws)
unfolding view sectioned
section_near stack ws s a = record { len = omega arith; top = omega arith }

taking_near : (stack : List Waiting) (ws : List ℤ) (s : Stand) (a value : ℕ) → Near s (taking stack ws s a value)
unfolding taking
taking_near stack ws s a value =
    either s (eqb (a % 8) 1) (appending stack ws s a value) _ (appending_near stack ws s a value)
    (either s (eqb (a % 8) 2) (signing stack ws s a) _ (signing_near stack ws s a)
    (either s (eqb (a % 8) 3) (closing stack ws s a 1) _ (closing_near stack ws s a 1)
    (either s (eqb (a % 8) 4) (view (comma_stand stack s a) (comma_stack stack s) ws) _ (comma_near stack ws s a)
    (either s (eqb (a % 8) 5) (closing stack ws s a 0) _ (closing_near stack ws s a 0)
    (either s (eqb (a % 8) 6) (view (sectioned s a) stack ws) (view (refused s 2) stack ws) (section_near stack ws s a) (refused_near stack ws s 2))))))

pub stepped_near : (stack : List Waiting) (ws : List ℤ) (s : Stand) (kind value : ℕ) → Near s (stepped stack ws s kind value)
unfolding stepped settled
stepped_near stack ws s kind value =
    let t : Stand = settled stack s (reach_of s.place kind) in
    either s (leb 24 kind) (view (refused s (kind - 24)) stack ws) _ (refused_near stack ws s (kind - 24))
    (far t (taking stack ws t (action_at stack t kind) value) (settling_len stack s (reach_of s.place kind) s.top s.start) (settling_top stack s (reach_of s.place kind) s.top s.start)
    (taking_near stack ws t (action_at stack t kind) value))
  where
    far : (t : Stand) (v : View) → t.len ≡ s.len → t.top ≤ s.top → Near t v → Near s v
    far t v e h n = let a = n.len in let b = n.top in record { len = omega arith; top = omega arith }
