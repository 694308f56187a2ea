-- A step of the code from what it stands for is a step of the notation's reader.
use Rattle.std.specs.Prelude.{ℕ, suc, ◌<◌, ◌≡◌, refl, Bool, List, ◌++◌, ltb, ℤ}
use Rattle.std.proofs.Common.{arith, sym, ap, ltb-true, ltb-false}
use Rattle.std.proofs.Math.Path.{subst}
use Rattle.std.proofs.Math.Bool.{true, false}
use Rattle.std.proofs.Math.Option.{Option}
use Rattle.rules.specs.Forms.{Value, Matcher}
use Rattle.notation_rules.specs.Targets as U
use Rattle.notation_rules.specs.Matchers as M
use Rattle.notation_rules.specs.Patterns as P
use Rattle.notation_rules.specs.Patterns.{want, bracket, hashed, negative, inner, named, signed, shutting, ◌on◌, have}
use Rattle.notation_step.specs.Stepped.{View, view, stepped}
use Rattle.notation_grammar.specs.Acts.{standing, At}
use Rattle.notation_grammar.specs.Over.{over}
use Rattle.notation_grammar.specs.Waits.{Wait, under}
use Rattle.notation_grammar.specs.One.{Mode, begins, in_units, in_matcher, in_pattern, Next, step_of}
use Rattle.notation_grammar.specs.Shapes.{InMatcher, wants, has, InUnits, InPattern, Stands, Follows}
use Rattle.notation_grammar.specs.Steps.{tok, Small}
use Rattle.notation_grammar.proofs.Steps.{from_wrong}
use Rattle.notation_grammar.specs.UnitSteps as Units
use Rattle.notation_grammar.specs.MatcherSteps as Matchers
use Rattle.notation_grammar.specs.PatternSteps as Patterns
use Rattle.notation_grammar.proofs.PatternHas as Has

module _ (lent : List ℤ) (n : ℕ) (more : n < 16384) (k value : ℕ) where
  abbrev after : View → View
  after v = stepped v.stack v.words v.stand k value

  -- From the view that a stand has.
  seen : {place m p : ℕ} {base : List ℤ} {gs : List Wait} {item : List ℤ} {b : Bool} {v : View} (o : Next) (a : At lent n place m p base gs item b v)
      → Follows lent (suc n) o (stepped a.stack (over (under base gs ++ item) lent) (standing place m p base gs item a.start) k value) → Follows lent (suc n) o (after v)
  unfolding view
  seen o a = subst (λ w. Follows lent (suc n) o (after w)) (sym a.same)

  module _ (l : k < 24) where
    units : (x : U.Mode) (v : View) → InUnits lent n x v → Follows lent (suc n) (step_of (in_units x) (tok k value)) (after v)
    unfolding InUnits view
    units (U.want fs) v a = seen (step_of (in_units (U.want fs)) (tok k value)) a (Units.want_step lent n more a.stack a.size a.start value fs k a.deep a.held l)
    units (U.negative fs) v a = seen (step_of (in_units (U.negative fs)) (tok k value)) a (Units.negative_step lent n more a.stack a.size a.start value fs a.deep a.held k l)
    units (U.have x fs) v a = seen (step_of (in_units (U.have x fs)) (tok k value)) a (Units.have_step lent n more a.stack a.size a.start value x fs k a.deep a.held l)

    matcher : (u : Option Value) (x : M.Mode) (v : View) → InMatcher lent n u x v → Follows lent (suc n) (step_of (in_matcher u x) (tok k value)) (after v)
    unfolding view
    matcher u x v (wants b fs e a) = subst (λ y. Follows lent (suc n) (step_of (in_matcher u y) (tok k value)) (after v)) (sym e)
        (seen (step_of (in_matcher u (M.want b fs)) (tok k value)) a (Matchers.want_step lent n more a.stack a.size value u b a.start fs k a.deep a.held l))
    matcher u x v (has m fs e a) = subst (λ y. Follows lent (suc n) (step_of (in_matcher u y) (tok k value)) (after v)) (sym e)
        (seen (step_of (in_matcher u (M.ended m fs)) (tok k value)) a (Matchers.have_step lent n more a.stack a.size value u a.start fs m k a.deep a.held (a.starts tt) l))

    pattern : (z : Small k value) (u : Option Value) (m : Matcher) (x : P.Mode) (v : View) → InPattern lent n u m x v → Follows lent (suc n) (step_of (in_pattern u m x) (tok k value)) (after v)
    unfolding InPattern view
    pattern z u m (want on fs) v a = seen _ a (Patterns.want_step lent n more a.stack a.size value u m fs a.deep a.held a.start k l z)
    pattern z u m (bracket on fs) v a = seen _ a (Patterns.bracket_step lent n more a.stack a.size value u m fs a.deep a.held a.start k l z)
    pattern z u m (hashed on fs) v a = seen _ a (Patterns.hashed_step lent n more a.stack a.size value u m fs a.deep a.held a.start k l z)
    pattern z u m (negative on fs) v a = seen _ a (Patterns.negative_step lent n more a.stack a.size value u m fs a.deep a.held a.start k l z)
    pattern z u m (inner on fs) v a = seen _ a (Patterns.inner_step lent n more a.stack a.size value u m fs a.deep a.held a.start k l z)
    pattern z u m (named y on fs) v a = seen _ a (Patterns.named_step lent n more a.stack a.size value u m fs a.deep a.held a.start (a.starts tt) y k l z)
    pattern z u m (signed y false on fs) v a = seen _ a (Patterns.plus_step lent n more a.stack a.size value u m fs a.deep a.held a.start (a.starts tt) y k l z)
    pattern z u m (signed y true on fs) v a = seen _ a (Patterns.less_step lent n more a.stack a.size value u m fs a.deep a.held a.start (a.starts tt) y k l z)
    pattern z u m (shutting p on fs) v a = seen _ a (Patterns.shutting_step lent n more a.stack a.size value u m fs a.deep a.held a.start (a.starts tt) p k l z)
    pattern z u m (have p fs) v a = seen _ a (Has.have_step lent n more a.stack a.size value u m a.start fs p a.deep a.held (a.starts tt) k l)

    readable : Small k value → (x : Mode) (v : View) → Stands lent n x v → Follows lent (suc n) (step_of x (tok k value)) (after v)
    unfolding Stands view
    readable z begins v a = seen (step_of begins (tok k value)) a (Units.begin_step lent n more a.stack a.size a.start value k l)
    readable z (in_units x) v a = units x v a
    readable z (in_matcher u x) v a = matcher u x v a
    readable z (in_pattern u m x) v a = pattern z u m x v a

  -- Every token but the end.
  pub simulates : k < 34 → (k ≡ 24 → ⊥) → Small k value → (x : Mode) (v : View) → Stands lent n x v → Follows lent (suc n) (step_of x (tok k value)) (stepped v.stack v.words v.stand k value)
  simulates h e z x v a = go (ltb k 24) refl
    where
      go : (b : Bool) → ltb k 24 ≡ b → Follows lent (suc n) (step_of x (tok k value)) (after v)
      go true q = readable (ltb-true k 24 q) z x v a
      go false q = let m = ltb-false k 24 q in from_wrong lent (suc n) x v.stack v.words v.stand k value (omega (arith, e)) h

-- No cause so far.
none : {lent : List ℤ} {n place m p : ℕ} {base : List ℤ} {gs : List Wait} {item : List ℤ} {b : Bool} {v : View} → At lent n place m p base gs item b v → v.stand.cause ≡ 0
unfolding view
none a = ap (λ w. w.stand.cause) a.same

pub no_cause : (lent : List ℤ) (n : ℕ) (x : Mode) (v : View) → Stands lent n x v → v.stand.cause ≡ 0
unfolding Stands InUnits InPattern
no_cause lent n begins v a = none a
no_cause lent n (in_units (U.want fs)) v a = none a
no_cause lent n (in_units (U.negative fs)) v a = none a
no_cause lent n (in_units (U.have x fs)) v a = none a
no_cause lent n (in_matcher u x) v (wants b fs e a) = none a
no_cause lent n (in_matcher u x) v (has m fs e a) = none a
no_cause lent n (in_pattern u m (want on fs)) v a = none a
no_cause lent n (in_pattern u m (bracket on fs)) v a = none a
no_cause lent n (in_pattern u m (hashed on fs)) v a = none a
no_cause lent n (in_pattern u m (negative on fs)) v a = none a
no_cause lent n (in_pattern u m (inner on fs)) v a = none a
no_cause lent n (in_pattern u m (named y on fs)) v a = none a
no_cause lent n (in_pattern u m (signed y c on fs)) v a = none a
no_cause lent n (in_pattern u m (shutting p on fs)) v a = none a
no_cause lent n (in_pattern u m (have p fs)) v a = none a
