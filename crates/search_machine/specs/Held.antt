-- What the search machine asks of held values: each operation with one law that ties it to document 01's definitions.
use Rattle.std.specs.Prelude.{ℕ, suc, ◌≡◌, Bool, true, List, [], ◌∷◌, ℤ}
use Rattle.std.proofs.Math.Option.{Option, none, some}
use Rattle.rules.specs.Forms.{Matcher, integer, tuple_of, Matchers, no_matchers, ◌▸ᵐ◌, countᵐ}
use Rattle.rules.specs.Origins.{Valueᵒ, tupledᵒ, Valuesᵒ, emptyᵒ, ◌▸ᵒ◌, Origin, plain}
use Rattle.rules.specs.Rows.{Form, told}
use Rattle.rules.specs.Fit.{takes, without_something, same_shape}
use Rattle.rules.specs.Equality.{raised, equal_to, is_constant, is_empty}
use Rattle.rules.specs.Dialects.{Dialect}
use Rattle.rules.specs.Search.{Halves}
use Rattle.program_rules.specs.Points.{Kind, over, first_by, halves}

-- A choice taken: its two parts, and what is left to choose from, if anything is.
pub record Picked (Held Rem : Type 0) : Type 0 where
  pub one : Held
  pub two : Held
  pub more : Option Rem

-- The choices that are left, or none.
unfoldable pub Opened : {Rem : Type 0} → (Rem → List Halves → Type 0) → Option Rem → List Halves → Type 0
Opened L none hs = hs ≡ []
Opened L (some r) hs = L r hs

-- Each part of a tuple under its matcher: f holds the parts, the first of them as number n.
unfoldable pub Parts : {Held : Type 0} → (Matcher → Held → Valueᵒ → Type 0) → (f : ℕ → Held) → (n : ℕ) → Matchers → Valuesᵒ → Type 0
Parts I f n no_matchers emptyᵒ = Unit {0}
Parts I f n no_matchers (v ▸ᵒ vs) = ⊥
Parts I f n (m ▸ᵐ ms) emptyᵒ = ⊥
Parts I f n (m ▸ᵐ ms) (v ▸ᵒ vs) = I m (f n) v × Parts I f (suc n) ms vs

-- `Is m h v`: what is held in h is v, and v fits m. `Left k h r hs`: when the value held in h is divided by k, hs are the choices still to come at r.
-- `is_same m c g h` compares under m; what is held in g may stand under another matcher k of the same shape. `is_wide k h`: the value held in h has k parts; `part h i` is part i, counted from 0. `stale` is what a slot keeps of one of its two values when the
-- other is written; nothing is asked of it, since it is written before it is read.
pub record Data : Type 1 where
  pub Held : Type 0
  pub Rem : Type 0
  pub Is : Matcher → Held → Valueᵒ → Type 0
  pub Left : Kind → Held → Rem → List Halves → Type 0
  pub is_empty_held : Held → Bool
  pub is_empty_held_ok : (m : Matcher) (h : Held) (v : Valueᵒ) → takes m 4 ≡ true → Is m h v → is_empty_held h ≡ is_empty (plain v)
  pub is_number : ℤ → Held → Bool
  pub is_number_ok : (c : ℤ) (h : Held) (v : Valueᵒ) → Is integer h v → is_number c h ≡ is_constant c (plain v)
  pub is_same : Matcher → ℤ → Held → Held → Bool
  pub is_same_ok : (m k : Matcher) (c : ℤ) (g h : Held) (w v : Valueᵒ) → without_something m ≡ true → same_shape m k ≡ true → Is k g w → Is m h v
      → is_same m c g h ≡ equal_to m (raised c (plain w)) (plain v)
  pub dialect : Dialect
  pub opens : Kind → Held → Option Rem
  pub opens_ok : (k : Kind) (h : Held) (v : Valueᵒ) → Is (over k) h v → Opened (Left k h) (opens k h) (halves dialect k v)
  pub pick : Kind → Held → Rem → Picked Held Rem
  pub pick_ok : (k : Kind) (h : Held) (r : Rem) (hs : List Halves) → Left k h r hs
      → (f : Halves) × (rest : List Halves) × (hs ≡ f ∷ rest) × Is (first_by k) (pick k h r).one f.first
      × Is (over k) (pick k h r).two f.second × Opened (Left k h) (pick k h r).more rest
  pub is_wide : ℕ → Held → Bool
  pub part : Held → ℕ → Held
  pub parts_ok : (ms : Matchers) (h : Held) (v : Valueᵒ) → Is (tuple_of ms) h v
      → (is_wide (countᵐ ms) h ≡ true) × (o : Origin) × (vs : Valuesᵒ) × (v ≡ tupledᵒ o vs) × Parts Is (part h) 0 ms vs
  pub stale : (now before : Held) → Held
  pub form : Form
  pub words_of : Held → List ℤ
  pub words_of_ok : (m : Matcher) (h : Held) (v : Valueᵒ) → Is m h v → words_of h ≡ told form v
