-- Tests that passed or failed, as equations; and, or of tests. Nothing here is about matching.
use Rattle.std.specs.Prelude.{ℕ, ◌≤◌, ◌<◌, ◌≡◌, refl, Bool, true, false, ◌&&◌, ◌||◌, T, leb, ltb}
use Rattle.std.proofs.Common.{arith, leb→le, le→leb, ltb→lt, lt→ltb}

pub is_true : (b : Bool) → T b → b ≡ true
is_true true t = refl
is_true false t = absurd t

pub is_false : (b : Bool) → (T b → ⊥) → b ≡ false
is_false true f = absurd (f tt)
is_false false f = refl

pub leb_true : (m n : ℕ) → m ≤ n → leb m n ≡ true
leb_true m n h = is_true (leb m n) (le→leb m n h)

pub leb_false : (m n : ℕ) → n < m → leb m n ≡ false
leb_false m n h = is_false (leb m n) (λ t. clash (leb→le m n t))
  where
    clash : m ≤ n → ⊥
    clash k = omega arith

pub ltb_true : (m n : ℕ) → m < n → ltb m n ≡ true
ltb_true m n h = is_true (ltb m n) (lt→ltb m n h)

pub ltb_false : (m n : ℕ) → n ≤ m → ltb m n ≡ false
ltb_false m n h = is_false (ltb m n) (λ t. clash (ltb→lt m n t))
  where
    clash : m < n → ⊥
    clash k = omega arith

pub and_split : (a b : Bool) → T (a && b) → T a × T b
and_split true b t = (tt, t)
and_split false b t = absurd t

pub and_join : (a b : Bool) → T a → T b → T (a && b)
and_join true b s t = t
and_join false b s t = absurd s

pub or_left : (a b : Bool) → T a → T (a || b)
or_left true b t = tt
or_left false b t = absurd t

pub or_right : (a b : Bool) → T b → T (a || b)
or_right true b t = tt
or_right false b t = t

pub bool_ext : (a b : Bool) → (T a → T b) → (T b → T a) → a ≡ b
bool_ext true true f g = refl
bool_ext true false f g = absurd (f tt)
bool_ext false true f g = absurd (g tt)
bool_ext false false f g = refl
