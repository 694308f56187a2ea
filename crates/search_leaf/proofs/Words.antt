-- The words of a row: what the code that writes them asks for, and that they are the row's. Assumes nothing.
use Prim.Native.Nat.{ℕ, zero, suc, ◌+◌, ◌*◌, ◌<◌, ◌≤◌}
use native.Mathlib.Numerals.{add-one, add-two}
use native.Mathlib.Omega.{arith}
use mathlib.Core.Path.{◌≡◌, refl, sym, ap, subst, ◌∙◌}
use mathlib.Core.Bool.{Bool, true, false}
use mathlib.Core.List.{List, [], ◌∷◌, ◌++◌}
use lib.ListN.{length, get_or, take, drop, set, length-append, length-take, length-set}
use lib.Seq.{drop-cons, get_or-take, get_or-set_same, get_or-set_other}
use lib.Dec.{eqb}
use lib.IntN.{ℤ, pos}
use borrow.Author.Rules.{rules}
use borrow.Author.Tests.{eq-eqb, ne_eqb, eqb-true, eqb-false}
use mir.Syntax.{w32}
use mir.Val.{SFits, to_z, of_z}
use mir.Facts.{to_z-of_z}
use Rattle.words.specs.Words.{tag_at}
use Rattle.value_places.specs.Held.{put}
use Rattle.value_rows.specs.Row.{nothing}
use Rattle.value_rows.specs.declared.Binding.{Binding}
use Rattle.value_rows.proofs.Room.{put_append, put_none}
use Rattle.search_atom.specs.Leaves.{when}
use Rattle.search_leaf.specs.Told.{word_of, entry_of, entries_of, row_of, size_of, Tells, but_of}

-- ---- A variable that is bound; a word.

module _ (o v : ℕ) where
  pub but_binds : o ≡ 3 → v ≡ but_of o v
  unfolding but_of when
  but_binds e = rw (eq-eqb o 3 e)

  pub but_none : (o ≡ 3 → ⊥) → 16 ≡ but_of o v
  unfolding but_of when
  but_none n = rw (ne_eqb o 3 n)

pub ruleset but_rules = (but_binds, but_none, rules)

module _ (o : Bool) (s : List ℤ) (at : ℕ) where
  pub word_place : (r : ℤ) → r ≡ pos at → o ≡ true → r ≡ word_of o s at
  unfolding word_of
  word_place r e t = e ∙ rw t

  pub word_number : o ≡ false → get_or s (at + 1) (pos 0) ≡ word_of o s at
  unfolding word_of
  word_number f = rw f

pub ruleset word_rules = (word_place, word_number, rules)

module _ (o : Bool) (w : ℤ) (from l : ℕ) where
  pub entry_three : o ≡ true → from + length (entry_of o w) ≤ l → from + 3 ≤ l
  unfolding entry_of
  entry_three t h = rw t at h

  pub entry_two : o ≡ false → from + length (entry_of o w) ≤ l → from + 2 ≤ l
  unfolding entry_of
  entry_two t h = rw t at h

module _ (o : Bool) (w : ℤ) (from : ℕ) where
  pub entry_three_end : o ≡ true → from + 3 ≡ from + length (entry_of o w)
  unfolding entry_of
  entry_three_end t = rw t

  pub entry_two_end : o ≡ false → from + 2 ≡ from + length (entry_of o w)
  unfolding entry_of
  entry_two_end t = rw t

  pub entry_three_put : (room room' : List ℤ) → o ≡ true → room' ≡ put room from (w ∷ pos 0 ∷ pos 0 ∷ []) → room' ≡ put room from (entry_of o w)
  unfolding entry_of
  entry_three_put room room' t e = e ∙ rw t

  pub entry_two_put : (room room' : List ℤ) → o ≡ false → room' ≡ put room from (pos 0 ∷ w ∷ []) → room' ≡ put room from (entry_of o w)
  unfolding entry_of
  entry_two_put room room' t e = e ∙ rw t

module _ (room : List ℤ) (from : ℕ) (w : ℤ) (f : SFits w32 w) where
  pub three_words : set (set (set room from (to_z w32 (of_z w32 w))) (from + 1) (pos 0)) (from + 2) (pos 0) ≡ put room from (w ∷ pos 0 ∷ pos 0 ∷ [])
  unfolding put
  three_words = rw (to_z-of_z f, add-one from, add-two from)

  pub two_words : set (set room from (pos 0)) (from + 1) (to_z w32 (of_z w32 w)) ≡ put room from (pos 0 ∷ w ∷ [])
  unfolding put
  two_words = rw (to_z-of_z f, add-one from)

module _ (o : Bool) (n : ℕ) where
  pub size_three : o ≡ true → 3 * n ≡ size_of o n
  unfolding size_of
  size_three t = rw t

  pub size_two : o ≡ false → 2 * n ≡ size_of o n
  unfolding size_of
  size_two t = rw t

pub ruleset size_rules = (size_three, size_two, rules)

-- ---- A row: the entries from variable v on.

pub entry_size : (o : Bool) (w : ℤ) → length (entry_of o w) ≡ size_of o 1
unfolding entry_of size_of
entry_size true w = refl
entry_size false w = refl

module _ (o : Bool) (told : List ℤ) (n : ℕ) where
  -- The entries from variable v on.
  pub row_from : ℕ → List ℤ
  row_from v = entries_of o (drop v (take n told))

  pub row_begins : row_of o n told ≡ row_from 0
  unfolding row_from row_of
  row_begins = refl

  module _ (l : n ≤ length told) where
    pub row_step_lem : (v : ℕ) → v < n → row_from v ≡ entry_of o (get_or told v (pos 0)) ++ row_from (v + 1)
    unfolding row_from entries_of
    row_step_lem v h =
        let k : v < length (take n told) = rw length-take (omega arith) in
        rw (drop-cons (take n told) v (pos 0) k, get_or-take n told v (pos 0) h, add-one v)

    step_length : (v : ℕ) → v < n → length (row_from v) ≡ length (entry_of o (get_or told v (pos 0))) + length (row_from (v + 1))
    step_length v h = ap length (row_step_lem v h) ∙ length-append (entry_of o (get_or told v (pos 0))) (row_from (v + 1))

    pub row_ends : (v : ℕ) → n ≤ v → row_from v ≡ []
    unfolding row_from entries_of
    row_ends v h = ap (entries_of o) (all_dropped (take n told) v (rw length-take (omega arith)))
      where
        all_dropped : (l : List ℤ) (k : ℕ) → length l ≤ k → drop k l ≡ []
        all_dropped [] zero h = refl
        all_dropped [] (suc k) h = refl
        all_dropped (x ∷ l) zero h = absurd (omega arith)
        all_dropped (x ∷ l) (suc k) h = all_dropped l k (omega arith)

    -- The next entry, of the word w.
    module _ (v : ℕ) (h : v < n) (w : ℤ) (d : w ≡ get_or told v (pos 0)) where
      pub row_room : (e y k : ℕ) → y ≡ e + length (row_from v) → y ≤ k → e + length (entry_of o w) ≤ k
      row_room e y k i j = rw d (omega (arith, step_length v h))

      pub row_turn_size : (e e' y : ℕ) → y ≡ e + length (row_from v) → e' ≡ e + length (entry_of o w) → y ≡ e' + length (row_from (v + 1))
      row_turn_size e e' y i j = omega (arith, step_length v h, rw d at j)

      pub row_turn : (room room' x : List ℤ) (e e' : ℕ) → x ≡ put room e (row_from v) → e' ≡ e + length (entry_of o w) → room' ≡ put room e (entry_of o w)
          → x ≡ put room' e' (row_from (v + 1))
      row_turn room room' x e e' i k j = i ∙ rw (k, j, d, row_step_lem v h) (put_append (entry_of o (get_or told v (pos 0))) (row_from (v + 1)) room e)

    pub row_out : (v : ℕ) → n ≤ v → (room x : List ℤ) (e : ℕ) → x ≡ put room e (row_from v) → room ≡ x
    row_out v h room x e i = sym (i ∙ rw (row_ends v h) (put_none room e))

    pub row_out_size : (v : ℕ) → n ≤ v → (e y : ℕ) → y ≡ e + length (row_from v) → e ≡ y
    row_out_size v h e y i = omega (arith, ap length (row_ends v h))

    -- How many words a row has.
    row_long : (k v : ℕ) → v + k ≡ n → length (row_from v) ≡ k * size_of o 1
    row_long zero v e = rw (row_ends v (omega arith)) (omega arith)
    row_long (suc k) v e = omega (arith, step_length v (omega arith), entry_size o (get_or told v (pos 0)), row_long k (v + 1) (omega arith))

    sizes : (b : Bool) → size_of b n ≡ n * size_of b 1
    unfolding size_of
    sizes true = omega arith
    sizes false = omega arith

    pub row_size : size_of o n ≡ length (row_of o n told)
    row_size = sizes o ∙ sym (row_long n 0 (omega arith)) ∙ ap length (sym row_begins)

-- ---- What is told of the variables so far.

module _ (o : Bool) (s : List ℤ) (b : List Binding) (but : ℕ) where
  pub tells_none : (told : List ℤ) → length told ≡ 16 → Tells o s b 0 but told
  tells_none told l = record { long = l; tags = λ v h. absurd (omega arith); words = λ v h. absurd (omega arith) }

  module _ (told : List ℤ) (v : ℕ) (t : Tells o s b v but told) where
    pub tells_all : (n : ℕ) → v ≤ n → n ≤ v → Tells o s b n but told
    tells_all n h k = let e : v ≡ n = omega arith in subst (λ (m : ℕ). Tells o s b m but told) e t

    pub tells_but : v ≡ but → (told' : List ℤ) → told' ≡ told → Tells o s b (v + 1) but told'
    tells_but e told' d = rw d (record {
      long = t.long;
      tags = λ i h n. t.tags i (let k : i ≡ v → ⊥ = λ d. n (d ∙ e) in omega (arith, k)) n;
      words = λ i h n. t.words i (let k : i ≡ v → ⊥ = λ d. n (d ∙ e) in omega (arith, k)) n;
    })

    module _ (w : ℤ) (l : v < 16) (g : tag_at s (get_or b v nothing).at ≡ 0) (d : w ≡ word_of o s (get_or b v nothing).at) where
      pub tells_next : (told' : List ℤ) → told' ≡ set told v w → Tells o s b (v + 1) but told'
      tells_next told' m = rw m (record {
        long = length-set told v w ∙ t.long;
        tags = λ i h n. by_last i h (λ e. ap (λ (k : ℕ). tag_at s (get_or b k nothing).at) e ∙ g) (λ k. t.tags i k n);
        words = λ i h n. by_last i h
            (λ e. ap (λ (k : ℕ). get_or (set told v w) k (pos 0)) e ∙ get_or-set_same told v w (pos 0) (omega (arith, t.long)) ∙ d ∙ ap (λ (k : ℕ). word_of o s (get_or b k nothing).at) (sym e))
            (λ k. get_or-set_other told v i w (pos 0) (λ e. absurd (omega arith)) ∙ t.words i k n);
      })
        where
          by_last : {X : Type 0} (i : ℕ) → i < v + 1 → (i ≡ v → X) → (i < v → X) → X
          by_last {X} i h f k = go (eqb i v) refl
            where
              go : (c : Bool) → eqb i v ≡ c → X
              go true e = f (eqb-true i v e)
              go false e = k (let n = eqb-false i v e in omega (arith, n))

-- ---- Words of which one is changed are as many.

pub set_long : (l l' : List ℤ) (v : ℕ) (x : ℤ) → l' ≡ set l v x → length l ≡ 16 → length l' ≡ 16
set_long l l' v x e h = ap length e ∙ length-set l v x ∙ h

pub same_long : (l l' : List ℤ) → l' ≡ l → length l ≡ 16 → length l' ≡ 16
same_long l l' e h = ap length e ∙ h

pub tells_by : (o : Bool) (s : List ℤ) (b : List Binding) (n but but' : ℕ) (told : List ℤ) → but ≡ but' → Tells o s b n but told → Tells o s b n but' told
tells_by o s b n but but' told e t = rw (← e) t
