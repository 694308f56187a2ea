-- What waits last is closed, has a part more, or is ended by what reaches over it.
use Prim.Native.Nat.{ℕ, zero, suc, ◌+◌, ◌-◌, ◌%◌, ◌≤◌, ◌<◌}
use Rattle.std.proofs.Common.{arith, ap, ◌∙◌, le-leb, ne_eqb, length-append, to_z}
use Rattle.std.proofs.Math.Numerals.{add-one}
use Rattle.std.proofs.Math.Nat.{mod-eq_of_lt, mod-lt}
use Rattle.std.specs.Prelude.{◌≡◌, Bool, cond, length, eqb, leb}
use Rattle.std.proofs.Math.Path.{refl, sym, subst}
use Rattle.std.proofs.Math.Bool.{true, false}
use mathlib.Core.List.{List, [], ◌∷◌, ◌++◌, append_assoc}
use Rattle.std.proofs.Math.IntN.{ℤ}
use Rattle.std.specs.Int.{w32}
use Rattle.notation_step.specs.Stepped.{inserted, puts, heading, bits_of, waiting_at, put_at, bare_by, view, next_place, tag_word, closing, comma_stand, comma_stack, crowded, crowded_by, placed, settling, settled, shade_of, refused}
use Rattle.notation_step.specs.declared.Stand.{Stand}
use Rattle.notation_step.specs.declared.Waiting.{Waiting}
use Rattle.notation_grammar.specs.Over.{over, put_between, nothing_behind}
use Rattle.notation_grammar.specs.Waits.{Wait, wait, under, Held, held_more, held_counted, put_size, waiting}
use Rattle.notation_grammar.specs.Acts.{standing, At, at}

-- A tag and a number before words, where there are any.
abbrev pub head_by : Bool → (tag parts : ℕ) → List ℤ → List ℤ
head_by none tag parts ws = cond none ws (to_z w32 tag ∷ (to_z w32 parts ∷ ws))

head_is : (a b is : List ℤ) (bare : Bool) (tag parts : ℕ) → heading (over (a ++ b) is) (length (a ++ b)) (length a) bare tag parts
    ≡ puts (over (a ++ head_by bare tag parts b) is) (length (a ++ head_by bare tag parts b))
unfolding heading
head_is a b is bare tag parts = go bare
  where
    one : length (a ++ b) + 1 ≡ length (a ++ (to_z w32 parts ∷ b))
    one = omega (arith, length-append a b, length-append a (to_z w32 parts ∷ b))

    two : length (a ++ b) + 2 ≡ length (a ++ (to_z w32 tag ∷ (to_z w32 parts ∷ b)))
    two = omega (arith, length-append a b, length-append a (to_z w32 tag ∷ (to_z w32 parts ∷ b)))

    go : (t : Bool) → cond t (puts (over (a ++ b) is) (length (a ++ b))) (puts (inserted (inserted (over (a ++ b) is) (length (a ++ b)) (length a) (to_z w32 parts)) (length (a ++ b) + 1) (length a) (to_z w32 tag)) (length (a ++ b) + 2))
        ≡ puts (over (a ++ head_by t tag parts b) is) (length (a ++ head_by t tag parts b))
    go true = refl
    go false =
        ap (λ l. puts (inserted l (length (a ++ b) + 1) (length a) (to_z w32 tag)) (length (a ++ b) + 2)) (put_between a b is (to_z w32 parts))
        ∙ ap (λ k. puts (inserted (over (a ++ (to_z w32 parts ∷ b)) is) k (length a) (to_z w32 tag)) (length (a ++ b) + 2)) one
        ∙ ap (λ l. puts l (length (a ++ b) + 2)) (put_between a (to_z w32 parts ∷ b) is (to_z w32 tag))
        ∙ ap (puts (over (a ++ (to_z w32 tag ∷ (to_z w32 parts ∷ b))) is)) two

pub one_less : (k : ℕ) → suc k - 1 ≡ k
one_less k = omega arith

module _ (is : List ℤ) (n : ℕ) (more : n < 16384) (stack : List Waiting) (size : length stack ≡ 16384) (base : List ℤ) (m p place : ℕ) (k c : ℕ) (ws : List ℤ) (gs : List Wait) (deep : suc (length gs) ≤ n)
    (held : Held n stack base (wait k c ws ∷ gs)) (start : ℕ) (item : List ℤ) where
  few : c % 1048576 ≡ c
  unfolding Held
  few = let b = held.3 in mod-eq_of_lt (omega arith)

  -- The last is closed, with so many parts more.
  pub closes : (a extra : ℕ)
      → At is (suc n) (next_place a) m p base gs (head_by (bare_by k c) (tag_word a) (bits_of 0 (c + extra)) (ws ++ item)) true
      (closing stack (over (under base (wait k c ws ∷ gs) ++ item) is) (standing place m p base (wait k c ws ∷ gs) item start) a extra)
  unfolding closing view under Held puts
  closes a extra =
      let u : List ℤ = under base gs in
      let h : Bool = bare_by k c in
      let b : ℕ = bits_of 0 (c + extra) in
      let w : List ℤ = u ++ head_by h (tag_word a) b (ws ++ item) in
      subst (At is (suc n) (next_place a) m p base gs (head_by h (tag_word a) b (ws ++ item)) true)
      (sym (rw (one_less (length gs), held.0, held.1, held.2, few, append_assoc u ws item, head_is u (ws ++ item) is h (tag_word a) b) refl))
      (at is m p (next_place a) (length u) stack w base gs (head_by h (tag_word a) b (ws ++ item)) true refl size (omega arith) (held_more n (suc n) stack base gs (omega arith) held.4) (λ x. refl))

  -- A part more of the last is read.
  is_crowded : crowded stack (standing place m p base (wait k c ws ∷ gs) item start) ≡ crowded_by k c
  unfolding crowded Held
  is_crowded = rw (one_less (length gs), held.0, held.2)

  pub commas : (a : ℕ) → crowded_by k c ≡ false
      → At is (suc n) (next_place a) m p base (wait k (suc c) (ws ++ item) ∷ gs) [] false
      (view (comma_stand stack (standing place m p base (wait k c ws ∷ gs) item start) a) (comma_stack stack (standing place m p base (wait k c ws ∷ gs) item start)) (over (under base (wait k c ws ∷ gs) ++ item) is))
  unfolding comma_stand comma_stack under Held
  commas a e =
      subst (At is (suc n) (next_place a) m p base (wait k (suc c) (ws ++ item) ∷ gs) [] false)
      (sym (rw (is_crowded, e, one_less (length gs), held.0, held.1, held.2, few, add-one c) refl))
      (at is m p (next_place a) start (put_at stack (length gs) (waiting k (length (under base gs)) (suc c))) (under base gs ++ ws ++ item) base (wait k (suc c) (ws ++ item) ∷ gs) [] false
      (append_assoc (under base gs) ws item ∙ sym (nothing_behind (under base gs ++ (ws ++ item)))) (put_size stack (length gs) (waiting k (length (under base gs)) (suc c)) ∙ size) (omega arith)
      (subst (λ x. Held (suc n) (put_at stack (length gs) (waiting k (length (under base gs)) x)) base (wait k x (ws ++ item) ∷ gs)) (add-one c) (held_counted n stack base gs k c ws (ws ++ item) size (omega arith) held)) (λ x. absurd x))

  pub crowds : (a : ℕ) → crowded_by k c ≡ true → (comma_stand stack (standing place m p base (wait k c ws ∷ gs) item start) a).cause ≡ 9
  unfolding comma_stand refused
  crowds a e = rw (is_crowded, e)

-- ---- What waits last, as the rows tell it apart.
unfoldable pub shade_by : List Wait → ℕ
shade_by [] = 0
shade_by (wait k c ws ∷ gs) = cond (eqb k 0) 1 (cond (eqb k 8) (cond (eqb c 0) 3 2) 0)

pub shade_is : (n : ℕ) (stack : List Waiting) (base : List ℤ) (gs : List Wait) → Held n stack base gs → shade_of stack (length gs) ≡ shade_by gs
unfolding shade_of shade_by Held
shade_is n stack base [] h = refl
shade_is n stack base (wait k c ws ∷ gs) h = rw (ne_eqb (suc (length gs)) 0 (λ e. absurd (omega arith)), one_less (length gs), h.0, h.2)

-- ---- What is tighter ends.
settling_from : (stack : List Waiting) (place m p x y u v r top start len : ℕ)
    → settling stack (record { place = place; top = x; len = len; start = y; matcher = m; pattern = p; cause = 0 }) r top start
    ≡ settling stack (record { place = place; top = u; len = len; start = v; matcher = m; pattern = p; cause = 0 }) r top start
unfolding settling placed
settling_from stack place m p x y u v r zero start len = refl
settling_from stack place m p x y u v r (suc top) start len = go (leb ((waiting_at stack top).tight % 8) r) (settling_from stack place m p x y u v r top (waiting_at stack top).start len)
  where
    s : (top start : ℕ) → Stand
    s top start = record { place = place; top = top; len = len; start = start; matcher = m; pattern = p; cause = 0 }

    go : (b : Bool) → settling stack (s x y) r top (waiting_at stack top).start ≡ settling stack (s u v) r top (waiting_at stack top).start
        → cond b (placed (s x y) (suc top) start) (settling stack (s x y) r top (waiting_at stack top).start) ≡ cond b (placed (s u v) (suc top) start) (settling stack (s u v) r top (waiting_at stack top).start)
    go true e = refl
    go false e = e

module _ (n : ℕ) (stack : List Waiting) (place m p : ℕ) (base : List ℤ) (start : ℕ) (item : List ℤ) where
  pub settles_all : (r : ℕ) → settled stack (standing place m p base [] item start) r ≡ standing place m p base [] item start
  unfolding settled settling placed
  settles_all r = refl

  -- One that is not tighter stays.
  pub stays : (k c r : ℕ) (ws : List ℤ) (gs : List Wait) → Held n stack base (wait k c ws ∷ gs) → leb (k % 8) r ≡ true
      → settled stack (standing place m p base (wait k c ws ∷ gs) item start) r ≡ standing place m p base (wait k c ws ∷ gs) item start
  unfolding settled settling placed Held
  stays k c r ws gs h e = rw (h.0, e)

  -- One that is tighter ends with what was read last.
  pub ends : (k c r : ℕ) (ws : List ℤ) (gs : List Wait) → Held n stack base (wait k c ws ∷ gs) → leb (k % 8) r ≡ false
      → settled stack (standing place m p base (wait k c ws ∷ gs) item start) r ≡ settled stack (standing place m p base gs (ws ++ item) (length (under base gs))) r
  unfolding settled settling Held under
  ends k c r ws gs h e =
      rw (h.0, e, h.1)
      (ap (λ (l : List ℤ). settling stack (record { place = place; top = suc (length gs); len = length l; start = start; matcher = m; pattern = p; cause = 0 }) r (length gs) (length (under base gs)))
      (append_assoc (under base gs) ws item)
      ∙ settling_from stack place m p (suc (length gs)) start (length gs) (length (under base gs)) r (length gs) (length (under base gs)) (length (under base gs ++ (ws ++ item))))

  -- From a place that is not after a matcher or a pattern nothing ends.
  pub none_ends : (gs : List Wait) → Held n stack base gs → settled stack (standing place m p base gs item start) 9 ≡ standing place m p base gs item start
  unfolding Held
  none_ends [] h = settles_all 9
  none_ends (wait k c ws ∷ gs) h = stays k c 9 ws gs h (le-leb (k % 8) 9 (let b = mod-lt k {m = 8} (omega arith) in omega arith))
