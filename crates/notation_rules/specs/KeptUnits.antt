-- The targets and matchers that are read have numbers and widths in the limits, and no names.
use Rattle.std.specs.Prelude.{ℕ, suc, ◌+◌, ◌≤◌, ◌≡◌, refl, true, false, List, [], ◌∷◌, length, T, pos}
use Rattle.std.proofs.Common.{arith}
use Rattle.rules.specs.Forms.{Matcher, something, integer, list, multiset, Matchers, no_matchers, ◌▸ᵐ◌, countᵐ}
use Rattle.rules.specs.Forms.{Value, int, Values, empty, ◌▸◌, count}
use Rattle.notation_rules.specs.Tokens.{Token, mark, sign, binds, uses, number, wrong, numeral}
use Rattle.notation_rules.specs.NamesBack.{Event, event}
use Rattle.notation_rules.specs.PatternsBack.{test}
use Rattle.notation_rules.specs.Targets as U
use Rattle.notation_rules.specs.Matchers as M
use Rattle.notation_rules.specs.KeptMachine.{OnStep, OnEnd, All, look_all, ranged_all, in_width}

-- ---- Targets: no names.
unfoldable pub nothing : {A : Type 0} → A → List Event → List Event
nothing a es = es

unfoldable pub Values' : List Value → Type 0
Values' [] = T true
Values' (v ∷ vs) = U.Fine v × Values' vs

unfoldable pub Brackets : List U.Frame → Type 0
unfolding Values'
Brackets [] = T true
Brackets (U.square us ∷ fs) = Values' us × Brackets fs
Brackets (U.round us ∷ fs) = (Values' us × length us ≤ 3) × Brackets fs

unfoldable pub Target : U.Mode → Type 0
unfolding Brackets
Target (U.want fs) = Brackets fs
Target (U.negative fs) = Brackets fs
Target (U.have v fs) = U.Fine v × Brackets fs

values_fine : (us : List Value) (vs : Values) → Values' us → U.FineAll vs → U.FineAll (U.onto us vs)
unfolding U.onto Values' U.FineAll
values_fine [] vs h g = g
values_fine (u ∷ us) vs h g = values_fine us (u ▸ vs) h.1 (h.0, g)

values_count : (us : List Value) (vs : Values) → count (U.onto us vs) ≡ length us + count vs
unfolding U.onto count
values_count [] vs = omega arith
values_count (u ∷ us) vs = let e : count (U.onto us (u ▸ vs)) ≡ length us + suc (count vs) = values_count us (u ▸ vs) in omega arith

tupled_fine : (us : List Value) (v : Value) → Values' us → length us ≤ 3 → U.Fine v → U.Fine (U.grouped us v)
unfolding U.grouped Values' U.Fine U.FineAll count
tupled_fine [] v h l g = g
tupled_fine (u ∷ us) v h l g = let e : count (U.onto (u ∷ us) (v ▸ empty)) ≡ length (u ∷ us) + 1 = values_count (u ∷ us) (v ▸ empty) in
    (in_width (count (U.onto (u ∷ us) (v ▸ empty))) (omega arith) (omega arith), values_fine (u ∷ us) (v ▸ empty) h (g, tt))

abbrev Targeted : U.Mode → Type 0
Targeted n = Target n × ((es : List Event) → nothing n es ≡ es)

value_parted : (v : Value) (fs : List U.Frame) → Target (U.have v fs) → All Targeted (U.parted v fs)
unfolding U.parted U.parts All Target Brackets Values' U.Fine U.FineAll nothing
value_parted v [] s = tt
value_parted v (U.square us ∷ fs) s = (((values_fine us (v ▸ empty) s.1.0 (s.0, tt), s.1.1), λ es. refl), ((((s.0, s.1.0), s.1.1), λ es. refl), tt))
value_parted v (U.round us ∷ fs) s = (
  ((tupled_fine us v s.1.0.0 s.1.0.1 s.0, s.1.1), λ es. refl),
  test (λ x. All Targeted (x ∷ [])) (suc (length us)) 4 (λ h. (((((s.0, s.1.0.0), omega arith), s.1.1), λ es. refl), tt)) (λ h. tt),
)

value_emptied : (fs : List U.Frame) → Brackets fs → All Targeted (U.emptied fs)
unfolding U.emptied All Target Brackets Values' U.Fine U.FineAll nothing
value_emptied [] s = tt
value_emptied (U.square [] ∷ fs) s = (((tt, s.1), λ es. refl), tt)
value_emptied (U.square (u ∷ us) ∷ fs) s = tt
value_emptied (U.round us ∷ fs) s = tt

value_marks : (m : U.Mode) → Target m → All Targeted (U.at_mark m)
unfolding U.at_mark All Target Brackets Values' nothing
value_marks (U.want fs) s = ((s, λ es. refl), (((tt, s), λ es. refl), ((((tt, omega arith), s), λ es. refl), value_emptied fs s)))
value_marks (U.negative fs) s = tt
value_marks (U.have v fs) s = value_parted v fs s

value_number : (m : U.Mode) (n : ℕ) → Target m → OnStep Targeted (U.at_number m n)
unfolding U.at_number OnStep Target U.Fine nothing
value_number (U.want fs) n s = ranged_all Targeted (pos n) (U.have (int (pos n)) fs) (λ h. ((h, s), λ es. refl))
value_number (U.negative fs) n s = ranged_all Targeted (numeral true n) (U.have (int (numeral true n)) fs) (λ h. ((h, s), λ es. refl))
value_number (U.have v fs) n s = tt

pub value_step : (m : U.Mode) (t : Token) → Target m → OnStep (λ n. Target n × ((es : List Event) → nothing n es ≡ nothing m (event t es))) (U.take m t)
unfolding U.take OnStep event nothing
value_step m (mark k) s = look_all Targeted (U.at_mark m) k (value_marks m s)
value_step m (sign r) s = tt
value_step m (binds v) s = tt
value_step m (uses v) s = tt
value_step m (number n) s = value_number m n s
value_step m (wrong c) s = tt

pub value_ends : (m : U.Mode) → Target m → OnEnd (λ v. U.Fine v × ((es : List Event) → nothing v es ≡ nothing m es)) (U.ending m)
unfolding U.ending OnEnd Target nothing
value_ends (U.want fs) s = tt
value_ends (U.negative fs) s = tt
value_ends (U.have v []) s = (s.0, λ es. refl)
value_ends (U.have v (f ∷ fs)) s = tt

-- ---- Matchers: no names.
unfoldable pub Matchers' : List Matcher → Type 0
Matchers' [] = T true
Matchers' (m ∷ ms) = M.Fine m × Matchers' ms

unfoldable pub Words : List M.Frame → Type 0
unfolding Matchers'
Words [] = T true
Words (M.lists ∷ fs) = Words fs
Words (M.multisets ∷ fs) = Words fs
Words (M.opened ks ∷ fs) = (Matchers' ks × length ks ≤ 3) × Words fs

unfoldable pub Matched : M.Mode → Type 0
unfolding Words
Matched (M.want b fs) = Words fs
Matched (M.have m fs) = M.Fine m × Words fs

matchers_fine : (ks : List Matcher) (ms : Matchers) → Matchers' ks → M.FineAll ms → M.FineAll (M.onto ks ms)
unfolding M.onto Matchers' M.FineAll
matchers_fine [] ms h g = g
matchers_fine (k ∷ ks) ms h g = matchers_fine ks (k ▸ᵐ ms) h.1 (h.0, g)

matchers_count : (ks : List Matcher) (ms : Matchers) → countᵐ (M.onto ks ms) ≡ length ks + countᵐ ms
unfolding M.onto countᵐ
matchers_count [] ms = omega arith
matchers_count (k ∷ ks) ms = let e : countᵐ (M.onto ks (k ▸ᵐ ms)) ≡ length ks + suc (countᵐ ms) = matchers_count ks (k ▸ᵐ ms) in omega arith

tuple_fine : (ks : List Matcher) (m : Matcher) → Matchers' ks → length ks ≤ 3 → M.Fine m → M.Fine (M.grouped ks m)
unfolding M.grouped Matchers' M.Fine M.FineAll countᵐ
tuple_fine [] m h l g = g
tuple_fine (k ∷ ks) m h l g = let e : countᵐ (M.onto (k ∷ ks) (m ▸ᵐ no_matchers)) ≡ length (k ∷ ks) + 1 = matchers_count (k ∷ ks) (m ▸ᵐ no_matchers) in
    (in_width (countᵐ (M.onto (k ∷ ks) (m ▸ᵐ no_matchers))) (omega arith) (omega arith), matchers_fine (k ∷ ks) (m ▸ᵐ no_matchers) h (g, tt))

abbrev MatchedOn : M.Mode → Type 0
MatchedOn n = Matched n × ((es : List Event) → nothing n es ≡ es)

ended_matched : (m : Matcher) (fs : List M.Frame) → M.Fine m → Words fs → MatchedOn (M.ended m fs)
unfolding M.ended Matched Words M.Fine nothing
ended_matched m [] h s = ((h, s), λ es. refl)
ended_matched m (M.lists ∷ fs) h s = ended_matched (list m) fs h s
ended_matched m (M.multisets ∷ fs) h s = ended_matched (multiset m) fs h s
ended_matched m (M.opened ks ∷ fs) h s = ((h, s), λ es. refl)

matcher_parted : (m : Matcher) (fs : List M.Frame) → Matched (M.have m fs) → All MatchedOn (M.parted m fs)
unfolding M.parted M.parts All Matched Words Matchers' nothing
matcher_parted m [] s = tt
matcher_parted m (M.lists ∷ fs) s = tt
matcher_parted m (M.multisets ∷ fs) s = tt
matcher_parted m (M.opened ks ∷ fs) s = (
  ended_matched (M.grouped ks m) fs (tuple_fine ks m s.1.0.0 s.1.0.1 s.0) s.1.1,
  test (λ x. All MatchedOn (x ∷ [])) (suc (length ks)) 4 (λ h. (((((s.0, s.1.0.0), omega arith), s.1.1), λ es. refl), tt)) (λ h. tt),
)

matcher_marks : (n : M.Mode) → Matched n → All MatchedOn (M.at_mark n)
unfolding M.at_mark All Matched Words Matchers' M.Fine nothing
matcher_marks (M.want true fs) s = (ended_matched something fs tt s, (ended_matched integer fs tt s, ((((tt, omega arith), s), λ es. refl), tt)))
matcher_marks (M.want false fs) s =
    (ended_matched something fs tt s, (ended_matched integer fs tt s, ((((tt, omega arith), s), λ es. refl), ((s, λ es. refl), ((s, λ es. refl), tt)))))
matcher_marks (M.have m fs) s = matcher_parted m fs s

pub matcher_step : (m : M.Mode) (t : Token) → Matched m → OnStep (λ n. Matched n × ((es : List Event) → nothing n es ≡ nothing m (event t es))) (M.take m t)
unfolding M.take OnStep event nothing
matcher_step m (mark k) s = look_all MatchedOn (M.at_mark m) k (matcher_marks m s)
matcher_step m (sign r) s = tt
matcher_step m (binds v) s = tt
matcher_step m (uses v) s = tt
matcher_step m (number n) s = tt
matcher_step m (wrong c) s = tt

pub matcher_ends : (m : M.Mode) → Matched m → OnEnd (λ k. M.Fine k × ((es : List Event) → nothing k es ≡ nothing m es)) (M.ending m)
unfolding M.ending OnEnd Matched nothing
matcher_ends (M.want b fs) s = tt
matcher_ends (M.have m []) s = (s.0, λ es. refl)
matcher_ends (M.have m (f ∷ fs)) s = tt
