-- A pattern whose variables are numbered from left to right, written with names, gets its own numbers back; and what is resolved is so numbered.
use Rattle.std.specs.Prelude.{ℕ, zero, suc, ◌+◌, ◌^◌, ◌≤◌, ◌<◌, ◌≡◌, refl, Bool, true, false, ◌&&◌, List, [], ◌∷◌, eqb, ltb, T, ℤ, pos, negsuc}
use Rattle.std.proofs.Common.{arith, sym, ap, subst, ltb→lt, eqb→eq}
use Rattle.rules.specs.Limits.{variables_limit}
use Rattle.rules.specs.Forms.{Matcher, something, integer, list, multiset, tuple_of, Matchers, no_matchers, ◌▸ᵐ◌}
use Rattle.rules.specs.Forms.{Pattern, wildcard, variable, constant, value, nil, cons, join, tuple, both, either, never, Patterns, no_patterns, ◌▸ᵖ◌, span}
use Rattle.rules.specs.Forms.{Value, int, collection, tupled, Values, empty, ◌▸◌}
use Rattle.rules.specs.Numbers.{same, in_range}
use Rattle.rules.specs.Reading.{Verdict, ok, fault, ◌then◌}
use Rattle.rules.specs.Variables.{demand, is_next, is_left, variables, variables_all}
use Rattle.notation_rules.specs.Tokens.{Mark, minus, comma, opening, closing, left, right}
use Rattle.notation_rules.specs.Tokens.{anything, integers, list_of, multiset_of, Token, mark, sign, binds, uses, number, wrong}
use Rattle.notation_rules.specs.Letters.{number_limit}
use Rattle.notation_rules.specs.LettersBack.{Spelled, SpelledAll}
use Rattle.notation_rules.specs.Names.{resolve, called, call, calls}
use Rattle.notation_rules.specs.Targets as U
use Rattle.notation_rules.specs.Matchers as M

-- ---- What a pattern does with names, from left to right, in front of what follows.
pub data Event : Type 0 where
  binding citing : ℤ → Event

unfoldable mutual
  pub events : Pattern → List Event → List Event
  events wildcard es = es
  events nil es = es
  events (variable v) es = binding v ∷ es
  events (constant c) es = es
  events (value v c) es = citing v ∷ es
  events (cons p q) es = events p (events q es)
  events (join p q) es = events p (events q es)
  events (both p q) es = events p (events q es)
  events (either p q) es = events p (events q es)
  events (never p) es = events p es
  events (tuple ps) es = events_all ps es

  pub events_all : Patterns → List Event → List Event
  events_all no_patterns es = es
  events_all (p ▸ᵖ ps) es = events p (events_all ps es)

-- After n variables the next has number n, below 16, and one that is used has a number below n.
unfoldable pub Numbered : ℕ → List Event → Type 0
Numbered n [] = T true
Numbered n (binding v ∷ es) = v ≡ pos n × n < variables_limit × Numbered (suc n) es
Numbered n (citing v ∷ es) = ((u : ℕ) × v ≡ pos u × u < n) × Numbered n es

-- ---- The first n names.
unfoldable pub names : ℕ → List (List ℕ)
unfolding called
names zero = []
names (suc n) = called (pos n) ∷ names n

-- ---- Tokens that can be spelled and come back as themselves after n variables.
unfoldable pub Good : ℕ → List Token → Type 0
unfolding names
Good n ts = n ≤ 16 × SpelledAll (calls ts) × resolve (names n) (calls ts) ≡ ts

pub good_mark : (m : Mark) (n : ℕ) (ts : List Token) → Good n ts → Good n (mark m ∷ ts)
unfolding Good resolve calls call SpelledAll Spelled
good_mark m n ts g = (g.0, (tt, g.1), ap (λ us. mark m ∷ us) g.2)

pub good_number : (c n : ℕ) (ts : List Token) → c ≤ number_limit → Good n ts → Good n (number c ∷ ts)
unfolding Good resolve calls call SpelledAll Spelled
good_number c n ts h g = (g.0, (h, g.1), ap (λ us. number c ∷ us) g.2)

-- ---- The writers' tokens.
pub range_pos : (n : ℕ) → T (in_range (pos n)) → n ≤ number_limit
unfolding in_range
range_pos n h = let l = ltb→lt n (2 ^ 31) h in omega arith

pub range_neg : (n : ℕ) → T (in_range (negsuc n)) → suc n ≤ number_limit
unfolding in_range
range_neg n h = ltb→lt n (2 ^ 31) h

-- What follows is good after as many variables as it is numbered for.
abbrev pub Goes : List Event → List Token → Type 0
Goes es ts = (m : ℕ) → m ≤ 16 → Numbered m es → Good m ts

mutual
  unfolding U.Fine U.FineAll U.write U.write_int U.write_items U.write_rest

  pub good_target : (v : Value) (n : ℕ) (ts : List Token) → U.Fine v → Good n ts → Good n (U.write v ts)
  good_target (int (pos c)) n ts h g = good_number c n ts (range_pos c h) g
  good_target (int (negsuc c)) n ts h g = good_mark minus n _ (good_number (suc c) n ts (range_neg c h) g)
  good_target (collection vs) n ts h g = good_mark left n _ (good_items right vs n ts h g)
  good_target (tupled vs) n ts h g = good_mark opening n _ (good_items closing vs n ts h.1 g)

  good_items : (m : Mark) (vs : Values) (n : ℕ) (ts : List Token) → U.FineAll vs → Good n ts → Good n (U.write_items m vs ts)
  good_items m empty n ts h g = good_mark m n ts g
  good_items m (v ▸ vs) n ts h g = good_target v n _ h.0 (good_values m vs n ts h.1 g)

  good_values : (m : Mark) (vs : Values) (n : ℕ) (ts : List Token) → U.FineAll vs → Good n ts → Good n (U.write_rest m vs ts)
  good_values m empty n ts h g = good_mark m n ts g
  good_values m (v ▸ vs) n ts h g = good_mark comma n _ (good_target v n _ h.0 (good_values m vs n ts h.1 g))

mutual
  unfolding M.write M.wrap M.write_parts M.write_rest

  pub good_matcher : (m : Matcher) (b : Bool) (n : ℕ) (ts : List Token) → Good n ts → Good n (M.write b m ts)
  good_matcher something b n ts g = good_mark anything n ts g
  good_matcher integer b n ts g = good_mark integers n ts g
  good_matcher (list m) true n ts g = good_mark opening n _ (good_mark list_of n _ (good_matcher m true n _ (good_mark closing n ts g)))
  good_matcher (list m) false n ts g = good_mark list_of n _ (good_matcher m true n ts g)
  good_matcher (multiset m) true n ts g = good_mark opening n _ (good_mark multiset_of n _ (good_matcher m true n _ (good_mark closing n ts g)))
  good_matcher (multiset m) false n ts g = good_mark multiset_of n _ (good_matcher m true n ts g)
  good_matcher (tuple_of ms) b n ts g = good_mark opening n _ (good_ofs ms n ts g)

  good_ofs : (ms : Matchers) (n : ℕ) (ts : List Token) → Good n ts → Good n (M.write_parts ms ts)
  good_ofs no_matchers n ts g = good_mark closing n ts g
  good_ofs (m ▸ᵐ ms) n ts g = good_matcher m false n _ (good_rest_ofs ms n ts g)

  good_rest_ofs : (ms : Matchers) (n : ℕ) (ts : List Token) → Good n ts → Good n (M.write_rest ms ts)
  good_rest_ofs no_matchers n ts g = good_mark closing n ts g
  good_rest_ofs (m ▸ᵐ ms) n ts g = good_mark comma n _ (good_matcher m false n _ (good_rest_ofs ms n ts g))

pub good_nothing : (n : ℕ) → n ≤ 16 → Good n []
unfolding Good resolve calls SpelledAll
good_nothing n h = (h, tt, refl)

-- ---- What is resolved is so numbered, up to the first wrong token.
unfoldable pub event : Token → List Event → List Event
event (mark m) es = es
event (sign s) es = es
event (binds v) es = binding v ∷ es
event (uses v) es = citing v ∷ es
event (number n) es = es
event (wrong c) es = []

unfoldable pub events_of : List Token → List Event
unfolding event
events_of [] = []
events_of (t ∷ ts) = event t (events_of ts)

-- ---- What the library's test 3 accepts is so numbered.
demanded : (b : Bool) (at a k : ℕ) → demand b at a ≡ ok k → T b × a ≡ k
unfolding demand
demanded true at a k h = (tt, cc)
demanded false at a k h = let e : ◌≡◌ {A = ℕ} 0 1 = cc in absurd (omega arith)

both_parts : (r : Verdict ℕ) (f : ℕ → Verdict ℕ) (k : ℕ) → (r then f) ≡ ok k → (j : ℕ) × r ≡ ok j × f j ≡ ok k
unfolding ◌then◌
both_parts (ok j) f k h = (j, refl, h)
both_parts (fault i) f k h = let e : ◌≡◌ {A = ℕ} 0 1 = cc in absurd (omega arith)

next_is : (v : ℤ) (n : ℕ) (may : Bool) → T (may && is_next v n) → v ≡ pos n × n < 16
unfolding is_next same
next_is (pos v) n true h = (ap pos (eqb→eq v n (first (eqb v n) (ltb n 16) h)), ltb→lt n 16 (second (eqb v n) (ltb n 16) h))
  where
    first : (a b : Bool) → T (a && b) → T a
    first true b h = tt
    first false b h = h

    second : (a b : Bool) → T (a && b) → T b
    second true b h = h
    second false b h = absurd h
next_is (negsuc v) n true h = absurd h
next_is v n false h = absurd h

same_count : (n k : ℕ) (es : List Event) → ◌≡◌ {A = Verdict ℕ} (ok n) (ok k) → Numbered k es → Numbered n es
same_count n k es h g = let e : k ≡ n = cc in subst (λ m. Numbered m es) e g

left_is : (v : ℤ) (n : ℕ) → T (is_left v n) → (u : ℕ) × v ≡ pos u × u < n
unfolding is_left
left_is (pos v) n h = (v, refl, ltb→lt v n h)
left_is (negsuc v) n h = absurd h

mutual
  unfolding variables variables_all events events_all Numbered

  pub numbered : (p : Pattern) (may : Bool) (at n k : ℕ) (es : List Event) → variables p may at n ≡ ok k → Numbered k es → Numbered n (events p es)
  numbered wildcard may at n k es h g = same_count n k es h g
  numbered nil may at n k es h g = same_count n k es h g
  numbered (variable v) may at n k es h g =
      let d = demanded (may && is_next v n) at (suc n) k h in
      let i = next_is v n may d.0 in (i.0, i.1, subst (λ m. Numbered m es) (sym d.1) g)
  numbered (constant c) may at n k es h g = same_count n k es h g
  numbered (value v c) may at n k es h g = let d = demanded (is_left v n) at n k h in (left_is v n d.0, subst (λ m. Numbered m es) (sym d.1) g)
  numbered (cons p q) may at n k es h g = let d = both_parts (variables p may (at + 1) n) (λ j. variables q may (at + 1 + span p) j) k h in
      numbered p may (at + 1) n d.0 (events q es) d.1 (numbered q may (at + 1 + span p) d.0 k es d.2 g)
  numbered (join p q) may at n k es h g = let d = both_parts (variables p may (at + 1) n) (λ j. variables q may (at + 1 + span p) j) k h in
      numbered p may (at + 1) n d.0 (events q es) d.1 (numbered q may (at + 1 + span p) d.0 k es d.2 g)
  numbered (both p q) may at n k es h g = let d = both_parts (variables p may (at + 1) n) (λ j. variables q may (at + 1 + span p) j) k h in
      numbered p may (at + 1) n d.0 (events q es) d.1 (numbered q may (at + 1 + span p) d.0 k es d.2 g)
  numbered (either p q) may at n k es h g = let d = both_parts (variables p false (at + 1) n) (λ j. variables q false (at + 1 + span p) j) k h in
      numbered p false (at + 1) n d.0 (events q es) d.1 (numbered q false (at + 1 + span p) d.0 k es d.2 g)
  numbered (never p) may at n k es h g = numbered p false (at + 1) n k es h g
  numbered (tuple ps) may at n k es h g = numbered_all ps may (at + 2) n k es h g

  numbered_all : (ps : Patterns) (may : Bool) (at n k : ℕ) (es : List Event) → variables_all ps may at n ≡ ok k → Numbered k es → Numbered n (events_all ps es)
  numbered_all no_patterns may at n k es h g = same_count n k es h g
  numbered_all (p ▸ᵖ ps) may at n k es h g = let d = both_parts (variables p may at n) (λ j. variables_all ps may (at + span p) j) k h in
      numbered p may at n d.0 (events_all ps es) d.1 (numbered_all ps may (at + span p) d.0 k es d.2 g)
