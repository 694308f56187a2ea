-- A machine whose modes are sound, each with its names, keeps both to the end of what it reads.
use Rattle.std.specs.Prelude.{ℕ, suc, ◌≤◌, Bool, true, false, ◌&&◌, length, eqb, leb, T, ℤ}
use Rattle.std.proofs.Common.{arith, ◌∙◌, le→leb}
use Rattle.std.proofs.Math.Path.{◌≡◌}
use mathlib.Core.List.{List, [], ◌∷◌}
use Rattle.rules.specs.Numbers.{in_range}
use Rattle.notation_rules.specs.Tokens.{out_of_range, Outcome, done, refused, Mark}
use Rattle.notation_rules.specs.Tokens.{Token, code, Step, next, no, bad, Entry, ◌⇒◌, ◌refuses◌, look, ranged, Ended, is, lacks, Machine, stopped, run}
use Rattle.notation_rules.specs.NamesBack.{Event, event, events_of}
use Rattle.notation_rules.specs.PatternsBack.{width}

-- ---- A fact about what a step or an end gives, if it gives something.
unfoldable pub OnStep : {A : Type 0} → (A → Type 0) → Step A → Type 0
OnStep P (next a) = P a
OnStep P no = T true
OnStep P (bad c) = T true

unfoldable pub OnEnd : {A : Type 0} → (A → Type 0) → Ended A → Type 0
OnEnd P (is a) = P a
OnEnd P (lacks c) = T true

unfoldable pub All : {A : Type 0} → (A → Type 0) → List (Entry A) → Type 0
All P [] = T true
All P ((k ⇒ a) ∷ es) = P a × All P es
All P ((k refuses c) ∷ es) = All P es

pub look_all : {A : Type 0} (P : A → Type 0) (es : List (Entry A)) (m : Mark) → All P es → OnStep P (look es m)
unfolding look All OnStep
look_all P [] m h = tt
look_all {A} P ((k ⇒ a) ∷ es) m h = go (eqb (code k) (code m)) h.0 (look_all P es m h.1)
  where
    go : (b : Bool) → P a → OnStep P (look es m) → OnStep P (elim b as (λ _. Step A) [ true ↦ next a | false ↦ look es m ])
    go true f g = f
    go false f g = g
look_all {A} P ((k refuses c) ∷ es) m h = go (eqb (code k) (code m)) (look_all P es m h)
  where
    go : (b : Bool) → OnStep P (look es m) → OnStep P (elim b as (λ _. Step A) [ true ↦ bad c | false ↦ look es m ])
    go true g = tt
    go false g = g

pub ranged_all : {A : Type 0} (P : A → Type 0) (c : ℤ) (a : A) → (T (in_range c) → P a) → OnStep P (ranged c a)
unfolding ranged OnStep
ranged_all {A} P c a f = go (in_range c) f
  where
    go : (b : Bool) → (T b → P a) → OnStep P (elim b as (λ _. Step A) [ true ↦ next a | false ↦ bad out_of_range ])
    go true f = f tt
    go false f = tt

pub in_width : (k : ℕ) → 2 ≤ k → k ≤ 4 → T (width k)
unfolding width
in_width k h i = go (leb 2 k) (leb k 4) (le→leb 2 k h) (le→leb k 4 i)
  where
    go : (a b : Bool) → T a → T b → T (a && b)
    go true b h i = i
    go false b h i = absurd h

-- ---- A machine whose modes are sound, each with its names, keeps both to the end.
module _ {Mode A : Type 0} (M : Machine Mode A) (Sound : Mode → Type 0) (Out : A → Type 0) (has : Mode → List Event → List Event) (gives : A → List Event → List Event)
    (stepping : (m : Mode) (t : Token) → Sound m → OnStep (λ n. Sound n × ((es : List Event) → has n es ≡ has m (event t es))) (M.step m t))
    (ends : (m : Mode) → Sound m → OnEnd (λ a. Out a × ((es : List Event) → gives a es ≡ has m es)) (M.end m)) where
  module _ {B : Type 0} (k : A → List Token → Outcome B) (b : B) where
    abbrev pub Kept : Mode → List Token → Type 0
    Kept m ts = (a : A) × (rest : List Token) × k a rest ≡ done b × Out a × gives a (events_of rest) ≡ has m (events_of ts)

    stopped_kept : (m : Mode) (ts : List Token) (o : Ended A) → OnEnd (λ a. Out a × ((es : List Event) → gives a es ≡ has m es)) o → stopped k o ts ≡ done b → Kept m ts
    unfolding stopped OnEnd
    stopped_kept m ts (is a) f h = (a, ts, h, f.0, f.1 (events_of ts))
    stopped_kept m [] (lacks c) f h = let z : ◌≡◌ {A = ℕ} 0 1 = cc in absurd (omega arith)
    stopped_kept m (t ∷ ts) (lacks c) f h = let z : ◌≡◌ {A = ℕ} 0 1 = cc in absurd (omega arith)

    pub run_kept : (m : Mode) (ts : List Token) → Sound m → run M k m ts ≡ done b → Kept m ts
    unfolding run OnStep events_of
    run_kept m [] s h = stopped_kept m [] (M.end m) (ends m s) h
    run_kept m (t ∷ ts) s h = go (M.step m t) (stepping m t s) (λ n f g. run_kept n ts f g) h
      where
        go : (o : Step Mode) → OnStep (λ n. Sound n × ((es : List Event) → has n es ≡ has m (event t es))) o → ((n : Mode) → Sound n → run M k n ts ≡ done b → Kept n ts)
            → ◌≡◌ {A = Outcome B} (elim o as (λ _. Outcome B) [ next n ↦ run M k n ts | no ↦ stopped k (M.end m) (t ∷ ts) | bad c ↦ refused c (suc (length ts)) ]) (done b)
            → Kept m (t ∷ ts)
        go (next n) f i e = let r = i n f.0 e in (r.0, r.1, r.2, r.3, r.4 ∙ f.1 (events_of ts))
        go no f i e = stopped_kept m (t ∷ ts) (M.end m) (ends m s) e
        go (bad c) f i e = let z : ◌≡◌ {A = ℕ} 0 1 = cc in absurd (omega arith)
