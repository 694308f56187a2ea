-- The automaton, as the code asks. Assumes nothing.
use mathlib.Core.Path.{◌≡◌, refl, sym, ◌∙◌, ap}
use mathlib.Core.Bool.{Bool, true, false, cond}
use mathlib.Core.List.{List, [], ◌∷◌, ◌++◌, append_assoc}
use Prim.Native.Nat.{ℕ, zero, suc, ◌+◌, ◌-◌, ◌/◌, ◌%◌, ◌<◌, ◌≤◌}
use native.Mathlib.Omega.{arith}
use native.Mathlib.Numerals.{add-one}
use borrow.Author.Tests.{lt-ltb, le-ltb}
use lib.Dec.{eqb, ltb, leb}
use lib.ListN.{length, get_or, drop, take, set, drop_of_length-le}
use lib.Seq.{drop-cons, take_all, drop-set-lt, take-suc-set}
use lib.IntN.{ℤ, pos}
use mir.Syntax.{w32}
use mir.Val.{to_z, of_z, SFits}
use mir.Facts.{to_z-of_z}
use Rattle.std.specs.Prelude.{Option, Some, None, option_map}
use Rattle.std.proofs.Common.{ne_eqb}
use Rattle.notation_step.specs.declared.Numeral.{Numeral}
use Rattle.notation_step.specs.declared.Numeral.TheVariants.{Plain, Negative, Variable}
use Rattle.notation_step.specs.Stepped.{shifted, inserted, Puts, puts, one_lower, one_higher, mode_of, zero_of, putting, pushing, putting_some, pushed, Pile, piled, put_at, next_place, start_of, heading, bits_of, waiting_at, reach_of, settled, refused, bare_by, View, view, tag_bits, mode_bits, tag_word, appended, appending, too_large, signing, closing, comma_stand, comma_stack, sectioned, taking, action_at, stepped}
use Rattle.notation_step.specs.declared.Stand.{Stand}
use Rattle.notation_step.specs.declared.Waiting.{Waiting}

-- ---- Words put before words.
module _ (ws : List ℤ) (len at u : ℕ) (b : List ℤ) (j : ℕ) (c : ℤ) (h : take j b ++ shifted len j c (drop j b) ≡ inserted ws len at (to_z w32 u)) where
  pub insert_end : length b ≤ j → b ≡ inserted ws len at (to_z w32 u)
  unfolding shifted
  insert_end l = sym (appended_nil b) ∙ ap (λ x. x ++ []) (sym (take_all j b l)) ∙ ap (λ x. take j b ++ shifted len j c x) (sym (drop_of_length-le b {i = j} l)) ∙ h
    where
      appended_nil : (xs : List ℤ) → xs ++ [] ≡ xs
      appended_nil [] = refl
      appended_nil (x ∷ xs) = ap (λ ys. x ∷ ys) (appended_nil xs)

  one_more : j < length b → shifted len j c (drop j b) ≡ cond (ltb len j) (drop j b) (c ∷ shifted len (j + 1) (get_or b j (pos 0)) (drop (suc j) b))
  unfolding shifted
  one_more l = rw (drop-cons b j (pos 0) l)

  pub insert_stop : j < length b → len < j → b ≡ inserted ws len at (to_z w32 u)
  insert_stop l k = sym (halves b j) ∙ ap (λ x. take j b ++ x) (sym (one_more l ∙ ap (λ x. cond x (drop j b) (c ∷ shifted len (j + 1) (get_or b j (pos 0)) (drop (suc j) b))) (lt-ltb len j k))) ∙ h
    where
      halves : (xs : List ℤ) (i : ℕ) → take i xs ++ drop i xs ≡ xs
      halves xs zero = refl
      halves [] (suc i) = refl
      halves (x ∷ xs) (suc i) = ap (λ ys. x ∷ ys) (halves xs i)

  next : j < length b → j ≤ len → take (j + 1) (set b j c) ++ shifted len (j + 1) (get_or b j (pos 0)) (drop (j + 1) (set b j c)) ≡ inserted ws len at (to_z w32 u)
  next l k =
      let q : j + 1 ≡ suc j = add-one j in
      ap (λ x. take x (set b j c) ++ shifted len (j + 1) (get_or b j (pos 0)) (drop x (set b j c))) q
      ∙ ap (λ x. take (suc j) (set b j c) ++ shifted len (j + 1) (get_or b j (pos 0)) x) (drop-set-lt (suc j) b j c (omega arith))
      ∙ ap (λ x. x ++ shifted len (j + 1) (get_or b j (pos 0)) (drop (suc j) b)) (take-suc-set b j c l)
      ∙ append_assoc (take j b) (c ∷ []) (shifted len (j + 1) (get_or b j (pos 0)) (drop (suc j) b))
      ∙ ap (λ x. take j b ++ x) (sym (one_more l ∙ ap (λ x. cond x (drop j b) (c ∷ shifted len (j + 1) (get_or b j (pos 0)) (drop (suc j) b))) (le-ltb len j k)))
      ∙ h

  pub insert_next : (d r : ℤ) → j < length b → j ≤ len → d ≡ c → r ≡ get_or b j (pos 0) → SFits w32 r
      → take (j + 1) (set b j d) ++ shifted len (j + 1) (to_z w32 (of_z w32 r)) (drop (j + 1) (set b j d)) ≡ inserted ws len at (to_z w32 u)
  insert_next d r l k e f g =
      ap (λ z. take (j + 1) (set b j z) ++ shifted len (j + 1) (to_z w32 (of_z w32 r)) (drop (j + 1) (set b j z))) e
      ∙ ap (λ z. take (j + 1) (set b j c) ++ shifted len (j + 1) z (drop (j + 1) (set b j c))) (to_z-of_z {w = w32} {z = r} g ∙ f) ∙ next l k

pub insert_start : (ws : List ℤ) (len at u : ℕ) (c : ℤ) → c ≡ to_z w32 u → SFits w32 c → take at ws ++ shifted len at (to_z w32 (of_z w32 c)) (drop at ws) ≡ inserted ws len at (to_z w32 u)
unfolding inserted
insert_start ws len at u c e g = ap (λ z. take at ws ++ shifted len at z (drop at ws)) (to_z-of_z {w = w32} {z = c} g ∙ e)

pub ruleset insert_rules = (insert_start, insert_stop, insert_next, insert_end)

shifted_kept : (len j : ℕ) (c : ℤ) (xs : List ℤ) → length (shifted len j c xs) ≡ length xs
unfolding shifted
shifted_kept len j c [] = refl
shifted_kept len j c (x ∷ xs) = go (ltb len j) (shifted_kept len (j + 1) x xs)
  where
    go : (t : Bool) → length (shifted len (j + 1) x xs) ≡ length xs → length (cond t (x ∷ xs) (c ∷ shifted len (j + 1) x xs)) ≡ suc (length xs)
    go true e = refl
    go false e = ap suc e

halved : (i : ℕ) (xs ys : List ℤ) → length ys ≡ length (drop i xs) → length (take i xs ++ ys) ≡ length xs
halved zero xs ys e = e
halved (suc i) [] ys e = e
halved (suc i) (x ∷ xs) ys e = ap suc (halved i xs ys e)

pub inserted_kept : (ws : List ℤ) (len at : ℕ) (w : ℤ) → length (inserted ws len at w) ≡ length ws
unfolding inserted
inserted_kept ws len at w = halved at ws (shifted len at w (drop at ws)) (shifted_kept len at w (drop at ws))

some_kept' : (ws : List ℤ) (len some w : ℕ) → length (putting_some ws len some w).words ≡ length ws
unfolding putting_some puts
some_kept' ws len some w = go (eqb some 0)
  where
    go : (t : Bool) → length (cond t (puts ws len) (puts (inserted ws len len (to_z w32 w)) (len + 1))).words ≡ length ws
    go true = refl
    go false = inserted_kept ws len len (to_z w32 w)

head_kept' : (ws : List ℤ) (len start : ℕ) (bare : Bool) (tag parts : ℕ) → length (heading ws len start bare tag parts).words ≡ length ws
unfolding heading puts
head_kept' ws len start bare tag parts = go bare
  where
    go : (t : Bool) → length (cond t (puts ws len) (puts (inserted (inserted ws len start (to_z w32 parts)) (len + 1) start (to_z w32 tag)) (len + 2))).words ≡ length ws
    go true = refl
    go false = inserted_kept (inserted ws len start (to_z w32 parts)) (len + 1) start (to_z w32 tag) ∙ inserted_kept ws len start (to_z w32 parts)

kept : (t : Bool) (x y : View) (n : ℕ) → length x.words ≡ n → length y.words ≡ n → length (cond t x y).words ≡ n
kept true x y n a b = a
kept false x y n a b = b

appended_kept : (stack : List Waiting) (ws : List ℤ) (s : Stand) (a value : ℕ) → length (appended stack ws s a value).words ≡ length ws
unfolding appended view
appended_kept stack ws s a value =
    let n : Puts = putting_some ws s.len (tag_bits a) (tag_word a) in
    let m : Puts = putting_some n.words n.len (mode_bits a) (bits_of (mode_bits a) value) in
    some_kept' m.words m.len (a / 16384 % 2) 0 ∙ some_kept' n.words n.len (mode_bits a) (bits_of (mode_bits a) value) ∙ some_kept' ws s.len (tag_bits a) (tag_word a)

appending_kept : (stack : List Waiting) (ws : List ℤ) (s : Stand) (a value : ℕ) → length (appending stack ws s a value).words ≡ length ws
unfolding appending view
appending_kept stack ws s a value = kept (too_large (mode_bits a) value) (view (refused s 8) stack ws) (appended stack ws s a value) (length ws) refl (appended_kept stack ws s a value)

signing_kept : (stack : List Waiting) (ws : List ℤ) (s : Stand) (a : ℕ) → length (signing stack ws s a).words ≡ length ws
unfolding signing view
signing_kept stack ws s a = inserted_kept ws s.len s.start (to_z w32 (tag_word a))

closing_kept : (stack : List Waiting) (ws : List ℤ) (s : Stand) (a more : ℕ) → length (closing stack ws s a more).words ≡ length ws
unfolding closing view
closing_kept stack ws s a more =
    let j : ℕ = s.top - 1 in
    head_kept' ws s.len (waiting_at stack j).start (bare_by (waiting_at stack j).tight (waiting_at stack j).parts) (tag_word a) (bits_of 0 ((waiting_at stack j).parts % 1048576 + more))

pub taking_kept : (stack : List Waiting) (ws : List ℤ) (s : Stand) (a value : ℕ) → length (taking stack ws s a value).words ≡ length ws
unfolding taking view
taking_kept stack ws s a value =
    kept (eqb (a % 8) 1) (appending stack ws s a value) _ (length ws) (appending_kept stack ws s a value)
    (kept (eqb (a % 8) 2) (signing stack ws s a) _ (length ws) (signing_kept stack ws s a)
    (kept (eqb (a % 8) 3) (closing stack ws s a 1) _ (length ws) (closing_kept stack ws s a 1)
    (kept (eqb (a % 8) 4) (view (comma_stand stack s a) (comma_stack stack s) ws) _ (length ws) refl
    (kept (eqb (a % 8) 5) (closing stack ws s a 0) _ (length ws) (closing_kept stack ws s a 0)
    (kept (eqb (a % 8) 6) (view (sectioned s a) stack ws) (view (refused s 2) stack ws) (length ws) refl refl)))))

-- ---- An entry of the table: what is there is put and waits as its bits say.
pub more_less : (n : ℕ) → one_higher (one_lower n) ≡ n
unfolding one_higher one_lower
more_less zero = refl
more_less (suc n) = refl

pub put_tag : (ws : List ℤ) (len a : ℕ) → putting ws len (one_lower (tag_bits a)) ≡ putting_some ws len (tag_bits a) (tag_word a)
unfolding putting one_lower putting_some
put_tag ws len a = go (tag_bits a) (omega arith)
  where
    go : (t : ℕ) → t < 16 → putting ws len (one_lower t) ≡ putting_some ws len t ((t + 15) % 16)
    go zero h = refl
    go (suc t) h = let e : t ≡ (suc t + 15) % 16 = omega arith in ap (λ u. puts (inserted ws len len (to_z w32 u)) (len + 1)) e
        ∙ ap (λ b. cond b (puts ws len) (puts (inserted ws len len (to_z w32 ((suc t + 15) % 16))) (len + 1))) (sym (ne_eqb (suc t) 0 (λ q. absurd (omega arith))))

pub put_numeral : (ws : List ℤ) (len value : ℕ) (k : Option Numeral) → putting ws len (option_map (λ n. bits_of (mode_of (Some n)) value) k) ≡ putting_some ws len (mode_of k) (bits_of (mode_of k) value)
unfolding putting putting_some mode_of
put_numeral ws len value None = refl
put_numeral ws len value (Some Plain) = refl
put_numeral ws len value (Some Negative) = refl
put_numeral ws len value (Some Variable) = refl

pub put_zero : (ws : List ℤ) (len a : ℕ) → putting ws len (zero_of a) ≡ putting_some ws len (a / 16384 % 2) 0
unfolding zero_of putting putting_some
put_zero ws len a = go (a / 16384 % 2) (omega arith)
  where
    go : (z : ℕ) → z < 2 → putting ws len (cond (eqb z 1) (Some 0) None) ≡ putting_some ws len z 0
    go zero h = refl
    go (suc zero) h = refl
    go (suc (suc z)) h = absurd (omega arith)

pub push_tight : (stack : List Waiting) (top a start : ℕ) → pushing stack top (one_lower (a / 32768 % 16)) start ≡ pushed stack top (a / 32768 % 16) start
unfolding pushing one_lower pushed
push_tight stack top a start = go (a / 32768 % 16) (omega arith)
  where
    go : (w : ℕ) → w < 16 → pushing stack top (one_lower w) start ≡ pushed stack top w start
    go zero h = refl
    go (suc w) h = let e : w ≡ (suc w % 16 + 15) % 16 = omega arith in ap (λ t. piled (put_at stack top (record { tight = t; start = start; parts = 0 })) (top + 1)) e
        ∙ ap (λ b. cond b (piled stack top) (piled (put_at stack top (record { tight = (suc w % 16 + 15) % 16; start = start; parts = 0 })) (top + 1))) (sym (ne_eqb (suc w) 0 (λ q. absurd (omega arith))))

-- What is put and waits, one behind the other.
pub append_is : (stack : List Waiting) (words : List ℤ) (s : Stand) (a value : ℕ) (t v z h : Option ℕ) (k : Option Numeral) (large : Bool) (xs ys zs : List ℤ) (n m l place top start : ℕ) (rest : List Waiting)
    → t ≡ one_lower (tag_bits a) → mode_of k ≡ mode_bits a → large ≡ too_large (mode_of k) value → large ≡ false
    → v ≡ option_map (λ n. bits_of (mode_of (Some n)) value) k → z ≡ zero_of a → h ≡ one_lower (a / 32768 % 16)
    → puts xs n ≡ putting words s.len t → puts ys m ≡ putting xs n v → puts zs l ≡ putting ys m z → piled rest top ≡ pushing stack s.top h s.len → place ≡ next_place a → start ≡ start_of s (one_higher t)
    → view (record { place = place; top = top; len = l; start = start; matcher = s.matcher; pattern = s.pattern; cause = 0 }) rest zs ≡ appending stack words s a value
unfolding appending appended view puts piled
append_is stack words s a value t v z h k large xs ys zs n m l place top start rest et ek el small ev ez eh e1 e2 e3 e4 ep es =
    let tagged : puts xs n ≡ putting_some words s.len (tag_bits a) (tag_word a) = e1 ∙ ap (putting words s.len) et ∙ put_tag words s.len a in
    let numbered : puts ys m ≡ with_number (puts xs n) = e2 ∙ ap (putting xs n) ev ∙ put_numeral xs n value k ∙ ap (λ x. putting_some xs n x (bits_of x value)) ek in
    let all : puts zs l ≡ with_zero (with_number (putting_some words s.len (tag_bits a) (tag_word a))) = e3 ∙ ap (putting ys m) ez ∙ put_zero ys m a ∙ ap with_zero (numbered ∙ ap with_number tagged) in
    ap (λ x. stands (puts zs l) (piled rest top) x start) ep
    ∙ ap (λ x. stands (puts zs l) (piled rest top) (next_place a) x) (es ∙ ap (λ x. start_of s (one_higher x)) et ∙ ap (start_of s) (more_less (tag_bits a)))
    ∙ ap (λ x. stands x (piled rest top) (next_place a) (start_of s (tag_bits a))) all
    ∙ ap (λ x. stands (with_zero (with_number (putting_some words s.len (tag_bits a) (tag_word a)))) x (next_place a) (start_of s (tag_bits a))) (e4 ∙ ap (λ x. pushing stack s.top x s.len) eh ∙ push_tight stack s.top a s.len)
    ∙ ap (λ b. cond b (view (refused s 8) stack words) (appended stack words s a value)) (sym (ap (λ x. too_large x value) (sym ek) ∙ sym el ∙ small))
  where
    with_number : Puts → Puts
    with_number p = putting_some p.words p.len (mode_bits a) (bits_of (mode_bits a) value)

    with_zero : Puts → Puts
    with_zero p = putting_some p.words p.len (a / 16384 % 2) 0

    stands : Puts → Pile → (place start : ℕ) → View
    stands p q x y = view (record { place = x; top = q.top; len = p.len; start = y; matcher = s.matcher; pattern = s.pattern; cause = 0 }) q.stack p.words

-- ---- The step.
pub stepped_kept : (stack : List Waiting) (ws : List ℤ) (s : Stand) (kind value : ℕ) → length (stepped stack ws s kind value).words ≡ length ws
unfolding stepped view
stepped_kept stack ws s kind value =
    let t : Stand = settled stack s (reach_of s.place kind) in
    kept (leb 24 kind) (view (refused s (kind - 24)) stack ws) (taking stack ws t (action_at stack t kind) value) (length ws) refl (taking_kept stack ws t (action_at stack t kind) value)
