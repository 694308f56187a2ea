-- Walking a pattern's words under a matcher's finds what the rule of fit finds of the pattern and the matcher. Assumes nothing.
use mathlib.Core.Path.{◌≡◌, refl, sym, ◌∙◌}
use mathlib.Core.Bool.{Bool, true, false, not, cond, ◌&&◌, ◌||◌}
use mathlib.Core.List.{List, [], ◌∷◌, ◌++◌, append_assoc, append-nil}
use Prim.Native.Nat.{ℕ, zero, suc, ◌+◌}
use native.Mathlib.Numerals.{add-one, add-two}
use native.Mathlib.Omega.{arith}
use borrow.Author.Tests.{le-leb, eq-eqb, ne_eqb, eqb-true, eqb-false}
use lib.Dec.{eqb}
use lib.ListN.{length, get_elem?}
use lib.IntN.{ℤ, pos, negsuc}
use Rattle.std.proofs.Math.Bool.{and-false, and-true}
use Rattle.std.specs.Prelude.{Result, Ok, Err, Some, None}
use Rattle.std.specs.Prelude as code
use Rattle.rules.specs.Numbers.{same}
use Rattle.rules.specs.Forms.{Matcher, something, integer, list, multiset, tuple_of, Matchers, no_matchers, ◌▸ᵐ◌, countᵐ}
use Rattle.rules.specs.Forms.{Pattern, wildcard, variable, constant, value, nil, cons, join, tuple, both, either, never, Patterns, no_patterns, ◌▸ᵖ◌, countᵖ, span, span_all}
use Rattle.rules.specs.Reading.{Verdict, ok, fault, ◌then◌, entry, matcher_tags, pattern_tags, read_matcher, read_pattern}
use Rattle.rules.specs.Variables.{demand}
use Rattle.rules.specs.Fit.{takes, tags_of, element, members, without_something, is_integer, same_shape, same_shapes, of_collection, of_tuple, is_something, alike, comparable, fits_in, fits_parts_in, told_apart}
use Rattle.rules.specs.Dialects.{first_places}
use Rattle.forms.specs.Written.{matcher_words, pattern_words, pattern_words_all, Widthsᵐ}
use Rattle.forms.specs.ReadPattern.{pattern_read}
use Rattle.words.specs.Words.{tag_at}
use Rattle.words.specs.Dialects.{dialect_by}
use Rattle.test_forms.specs.Tests.{tested}
use Rattle.test_fit.specs.Shapes.{width_fits, shapes}
use Rattle.test_forms.specs.Table.{taken_of, taken_in, row_in, row_of}
use Rattle.test_fit.specs.Fitting.{members_at, shapes_with, value_fits, first_of, by_parts, tuple_at, asked, here_of, apart_at, unlike, here_in, by_here, fit_p, fit_of}
use Rattle.test_fit.specs.declared.Here.{Here}
use Rattle.test_fit.specs.declared.Here.TheVariants.{Leaf, Bind, One, Parts, Wide}
use Rattle.test_fit.proofs.shapes.Standing.{At, AtAll, tag_of, at_whole, at_tag, at_end, at_multiset, at_element, at_width, at_members, at_first, at_others}
use Rattle.test_forms.proofs.Turns.{is_width}
use Rattle.test_fit.proofs.shapes.Shaped.{shaped}

-- ---- What a tag of the table says of the matcher.

taken_by : (k : Matcher) (t : ℕ) → taken_of (tag_of k) t ≡ takes k t
unfolding taken_of taken_in matcher_tags takes tags_of tag_of
taken_by something t = refl
taken_by integer t = refl
taken_by (list k) t = refl
taken_by (multiset k) t = refl
taken_by (tuple_of ks) t = refl

integer_by : (k : Matcher) → eqb (tag_of k) 1 ≡ is_integer k
unfolding is_integer tag_of
integer_by something = refl
integer_by integer = refl
integer_by (list k) = refl
integer_by (multiset k) = refl
integer_by (tuple_of ks) = refl

-- A matcher has its own shape.
mutual
  unfolding same_shape of_collection of_tuple is_something is_integer

  same_itself : (k : Matcher) → same_shape k k ≡ true
  same_itself something = refl
  same_itself integer = refl
  same_itself (list k) = same_itself k
  same_itself (multiset k) = same_itself k
  same_itself (tuple_of ks) = same_themselves ks

  same_themselves : (ks : Matchers) → same_shapes ks ks ≡ true
  same_themselves no_matchers = refl
  same_themselves (k ▸ᵐ ks) = rw (same_itself k) (same_themselves ks)

and_both : (a b c : Bool) → ((a && b) && c) ≡ (a && b && c)
and_both true b c = refl
and_both false b c = refl

and_parts : (a b : Bool) → (a && b) ≡ true → (a ≡ true) × (b ≡ true)
and_parts true b e = (refl, e)
and_parts false b e = let z : ◌≡◌ {A = ℕ} 0 1 = cc in absurd (omega arith)

cond_both : {A : Type 0} (a b : Bool) (x y : A) → cond a (cond b x y) y ≡ cond (a && b) x y
cond_both true b x y = refl
cond_both false b x y = refl

eqb_turn : (a b : ℕ) → eqb a b ≡ eqb b a
eqb_turn a b = go (eqb a b) refl
  where
    go : (c : Bool) → eqb a b ≡ c → c ≡ eqb b a
    go true e = sym (eq-eqb b a (sym (eqb-true a b e)))
    go false e = sym (ne_eqb b a (λ h. eqb-false a b e (sym h)))

module _ (firsts : Bool) (m : List ℤ) where
  -- The matchers ks stand at the indices js.
  unfoldable Standing : List ℕ → List Matcher → Type 0
  Standing [] [] = Unit {0}
  Standing [] (k ∷ ks) = ⊥
  Standing (j ∷ js) [] = ⊥
  Standing (j ∷ js) (k ∷ ks) = At m j k × Standing js ks

  standing_more : (js : List ℕ) (ks : List Matcher) (i : ℕ) (k : Matcher) → Standing js ks → At m i k → Standing (js ++ (i ∷ [])) (ks ++ (k ∷ []))
  unfolding Standing
  standing_more [] [] i k s a = (a, tt)
  standing_more [] (l ∷ ks) i k s a = absurd s
  standing_more (j ∷ js) [] i k s a = absurd s
  standing_more (j ∷ js) (l ∷ ks) i k s a = (s.0, standing_more js ks i k s.1 a)

  -- The widths of a tuple's matcher and of a tuple.
  same_width : (i : ℕ) (ls : Matchers) → At m i (tuple_of ls) → (n : ℕ) → width_fits (tag_at m (i + 1)) n ≡ eqb n (countᵐ ls)
  unfolding width_fits Widthsᵐ
  same_width i ls a n = rw (at_width m i ls a, is_width (countᵐ ls) a.wide.0, eqb_turn n (countᵐ ls)) (go (eqb (countᵐ ls) n))
    where
      go : (b : Bool) → cond b true false ≡ b
      go true = refl
      go false = refl

  module _ (i : ℕ) (k : Matcher) (a : At m i k) where
    taken_at : (t : ℕ) → taken_of (tag_at m i) t ≡ takes k t
    taken_at t = rw (at_tag m i k a) (taken_by k t)

    -- ---- Tag 3.

    alike_at : (js : List ℕ) (ks : List Matcher) → Standing js ks → (v : ℕ) → shapes_with m i (get_elem? js v) ≡ (without_something k && alike k (get_elem? ks v))
    unfolding shapes_with alike Standing
    alike_at [] [] s v = sym (and-false (without_something k))
    alike_at [] (l ∷ ks) s v = absurd s
    alike_at (j ∷ js) [] s v = absurd s
    alike_at (j ∷ js) (l ∷ ks) s zero = shaped m k l i j a s.0
    alike_at (j ∷ js) (l ∷ ks) s (suc v) = alike_at js ks s.1 v

    alike_by : (js : List ℕ) (ks : List Matcher) → Standing js ks → (v : ℤ) → shapes_with m i (entry js v) ≡ (without_something k && alike k (entry ks v))
    unfolding entry shapes_with alike
    alike_by js ks s (pos v) = alike_at js ks s v
    alike_by js ks s (negsuc v) = sym (and-false (without_something k))

    comparable_by : (js : List ℕ) (ks : List Matcher) → Standing js ks → (v c : ℤ) → value_fits m i js v c ≡ comparable v c k ks
    unfolding value_fits comparable
    comparable_by js ks s v c =
        rw (alike_by js ks s v, at_tag m i k a, integer_by k) (and_both (without_something k) (alike k (entry ks v)) (is_integer k || same c (pos 0)))

    -- ---- Tag 7.

    width_by : (n : ℕ) → (takes k 7 && width_fits (tag_at m (i + 1)) n) ≡ (takes k 7 && eqb n (countᵐ (members k)))
    unfolding takes tags_of members
    width_by n = go k a
      where
        go : (l : Matcher) → At m i l → (takes l 7 && width_fits (tag_at m (i + 1)) n) ≡ (takes l 7 && eqb n (countᵐ (members l)))
        go something b = refl
        go integer b = refl
        go (list l) b = refl
        go (multiset l) b = refl
        go (tuple_of ls) b = same_width i ls b n

    -- ---- Whether a tag stands rightly.

    stands : (t : ℕ) → (taken_of (tag_at m i) t && true) ≡ takes k t
    stands t = rw (taken_at t) (and-true (takes k t))

    stands_value : (js : List ℕ) (ks : List Matcher) → Standing js ks → (v c : ℤ)
        → (taken_of (tag_at m i) 3 && value_fits m i js v c) ≡ (takes k 3 && comparable v c k ks)
    stands_value js ks s v c = rw (taken_at 3, comparable_by js ks s v c)

    -- Whether a cons stands rightly, in either dialect.
    apart_by : apart_at m i ≡ told_apart first_places k
    unfolding apart_at told_apart tag_of
    apart_by = rw (at_tag m i k a) (go k a)
      where
        go : (l : Matcher) → At m i l → cond (eqb (tag_of l) 3) (shapes m (i + 1) (i + 1)) true ≡ told_apart first_places l
        go something b = refl
        go integer b = refl
        go (list l) b = refl
        go (multiset l) b = let h = at_multiset m i l b in shaped m l l (i + 1) (i + 1) h h ∙ rw (same_itself l) (and-true (without_something l))
        go (tuple_of ls) b = refl

    stands_cons : cond (firsts && not (apart_at m i)) None (cond (taken_of (tag_at m i) 5 && true) (Some (Parts (i + 1))) None)
        ≡ cond (told_apart (dialect_by firsts) k && takes k 5) (Some (Parts (i + 1))) None
    unfolding dialect_by told_apart
    stands_cons = rw (stands 5) (go firsts)
      where
        by : (x : Bool) → cond (not x) None (cond (takes k 5) (Some (Parts (i + 1))) None) ≡ cond (x && takes k 5) (Some (Parts (i + 1))) None
        by true = refl
        by false = refl

        go : (f : Bool) → cond (f && not (apart_at m i)) None (cond (takes k 5) (Some (Parts (i + 1))) None) ≡ cond (told_apart (dialect_by f) k && takes k 5) (Some (Parts (i + 1))) None
        go true = rw apart_by (by (told_apart first_places k))
        go false = refl

    stands_tuple : (n : ℕ) → cond (taken_of (tag_at m i) 7) (tuple_at m i n) None ≡ cond (takes k 7 && eqb n (countᵐ (members k))) (Some (Wide (i + 2) n)) None
    unfolding tuple_at
    stands_tuple n = rw (taken_at 7, ← width_by n) (cond_both (takes k 7) (width_fits (tag_at m (i + 1)) n) (Some (Wide (i + 2) n)) None)

  -- ---- The walk, and the verdict that it should find.

  -- A fault, or going on with the matchers of the variables found.
  unfoldable Same : List ℕ → ℕ → List ℤ → Result (Unit {0}) ℕ → Verdict (List Matcher) → Type 0
  Same st p ws x (fault j) = x ≡ Err j
  Same st p ws x (ok ks) = (js : List ℕ) × Standing js ks × (x ≡ fit_p firsts m st js 0 p ws)

  Follows : Pattern → Type 0
  Follows a = (i : ℕ) (k : Matcher) → At m i k → (js : List ℕ) (ks : List Matcher) → Standing js ks → (st : List ℕ) (p : ℕ) (ws : List ℤ)
      → Same st (p + span a) ws (fit_p firsts m (i ∷ st) js 0 p (pattern_words a ++ ws)) (fits_in (dialect_by firsts) a k p ks)

  FollowsAll : Patterns → Type 0
  FollowsAll ps = (i : ℕ) (ms : Matchers) → AtAll m i ms → countᵖ ps ≡ countᵐ ms → (js : List ℕ) (ks : List Matcher) → Standing js ks
      → (st : List ℕ) (p : ℕ) (ws : List ℤ)
      → Same st (p + span_all ps) ws (fit_p firsts m (members_at m (countᵐ ms) i ++ st) js 0 p (pattern_words_all ps ++ ws)) (fits_parts_in (dialect_by firsts) ps ms p ks)

  -- Going on from what a tag asks, and a tag that must stand rightly.
  module _ (i : ℕ) (js st : List ℕ) (q p : ℕ) (us ws : List ℤ) (a : Here) where
    unfoldable on : code.Option Here → Result (Unit {0}) ℕ
    unfolding by_here fit_p
    on x =
        by_here x
        (Err p)
        (λ o. fit_p firsts m st js o (suc p) us)
        (λ o. fit_p firsts m st (js ++ (i ∷ [])) o (suc p) us)
        (fit_p firsts m (i ∷ st) js 0 (suc p) us)
        (λ f. fit_p firsts m (f ∷ i ∷ st) js 0 (suc p) us)
        (λ f n. fit_p firsts m (members_at m n f ++ st) js 1 (suc p) us)

    same_leaf : (b : Bool) (ks : List Matcher) → Same st q ws (on (Some a)) (ok ks) → Same st q ws (on (cond b (Some a) None)) (demand b p ks)
    unfolding Same on by_here demand
    same_leaf true ks x = x
    same_leaf false ks x = refl

    same_parts : (b : Bool) (ks : List Matcher) (k : List Matcher → Verdict (List Matcher)) → (b ≡ true → Same st q ws (on (Some a)) (k ks))
        → Same st q ws (on (cond b (Some a) None)) (demand b p ks then k)
    unfolding Same on by_here demand ◌then◌
    same_parts true ks k x = x refl
    same_parts false ks k x = refl

  same_then : (st₁ st₂ : List ℕ) (p₁ p₂ : ℕ) (us ws : List ℤ) (x : Result (Unit {0}) ℕ) (y : Verdict (List Matcher)) (k : List Matcher → Verdict (List Matcher))
      → Same st₁ p₁ us x y → ((js : List ℕ) (ks : List Matcher) → Standing js ks → Same st₂ p₂ ws (fit_p firsts m st₁ js 0 p₁ us) (k ks))
      → Same st₂ p₂ ws x (y then k)
  unfolding Same ◌then◌
  same_then st₁ st₂ p₁ p₂ us ws x (fault j) k e f = e
  same_then st₁ st₂ p₁ p₂ us ws x (ok ks) k e f = rw e.2 (f e.0 ks e.1)

  leaf : (js : List ℕ) (ks : List Matcher) → Standing js ks → (st : List ℕ) (p q : ℕ) (ws : List ℤ) → p ≡ q → Same st q ws (fit_p firsts m st js 0 p ws) (ok ks)
  unfolding Same
  leaf js ks s st p q ws e = (js, s, rw e)

  -- Two parts, and one.
  two : (a b : Pattern) → Follows a → Follows b → (i f : ℕ) (k l : Matcher) → At m i k → At m f l → (js : List ℕ) (ks : List Matcher) → Standing js ks
      → (st : List ℕ) (p : ℕ) (ws : List ℤ)
      → Same st (p + (1 + span a + span b)) ws (fit_p firsts m (f ∷ i ∷ st) js 0 (suc p) ((pattern_words a ++ pattern_words b) ++ ws))
      (fits_in (dialect_by firsts) a l (p + 1) ks then λ ls. fits_in (dialect_by firsts) b k (p + 1 + span a) ls)
  unfolding Follows
  two a b x y i f k l g h js ks s st p ws =
      let e : p + 1 + span a + span b ≡ p + (1 + span a + span b) = omega arith in
      rw (append_assoc (pattern_words a) (pattern_words b) ws, ← add-one p, ← e)
      (same_then (i ∷ st) st (p + 1 + span a) _ (pattern_words b ++ ws) ws _ (fits_in (dialect_by firsts) a l (p + 1) ks) _
      (x f l h js ks s (i ∷ st) (p + 1) (pattern_words b ++ ws)) (λ js₁ ks₁ z. y i k g js₁ ks₁ z st (p + 1 + span a) ws))

  one : (a : Pattern) → Follows a → (i : ℕ) (k : Matcher) → At m i k → (js : List ℕ) (ks : List Matcher) → Standing js ks
      → (st : List ℕ) (p : ℕ) (ws : List ℤ)
      → Same st (p + (1 + span a)) ws (fit_p firsts m (i ∷ st) js 0 (suc p) (pattern_words a ++ ws)) (fits_in (dialect_by firsts) a k (p + 1) ks)
  unfolding Follows
  one a x i k g js ks s st p ws =
      let e : p + 1 + span a ≡ p + (1 + span a) = omega arith in
      rw (← add-one p, ← e) (x i k g js ks s st (p + 1) ws)

  more : (a : Pattern) (ps : Patterns) → Follows a → FollowsAll ps → FollowsAll (a ▸ᵖ ps)
  unfolding Follows FollowsAll pattern_words fits_in fits_parts_in told_apart span countᵖ countᵐ members_at
  more a ps x y i no_matchers t c js ks s st p ws = absurd (omega arith)
  more a ps x y i (l ▸ᵐ ms) t c js ks s st p ws =
      let e : p + span a + span_all ps ≡ p + (span a + span_all ps) = omega arith in
      rw (append_assoc (pattern_words a) (pattern_words_all ps) ws, at_end m i l (at_first m i l ms t), ← e)
      (same_then (members_at m (countᵐ ms) (i + length (matcher_words l)) ++ st) st (p + span a) _ (pattern_words_all ps ++ ws) ws _ (fits_in (dialect_by firsts) a l p ks) _
      (x i l (at_first m i l ms t) js ks s (members_at m (countᵐ ms) (i + length (matcher_words l)) ++ st) p (pattern_words_all ps ++ ws))
      (λ js₁ ks₁ z. y (i + length (matcher_words l)) ms (at_others m i l ms t) (omega arith) js₁ ks₁ z st (p + span a) ws))

  none_left : FollowsAll no_patterns
  unfolding FollowsAll pattern_words fits_in fits_parts_in told_apart span countᵖ countᵐ members_at
  none_left i no_matchers t c js ks s st p ws = leaf js ks s st p (p + 0) ws (omega arith)
  none_left i (l ▸ᵐ ms) t c js ks s st p ws = absurd (omega arith)

  tupled : (ps : Patterns) → FollowsAll ps → (i : ℕ) (k : Matcher) → At m i k → (js : List ℕ) (ks : List Matcher) → Standing js ks
      → (st : List ℕ) (p : ℕ) (ws : List ℤ) → (takes k 7 && eqb (countᵖ ps) (countᵐ (members k))) ≡ true
      → Same st (p + (2 + span_all ps)) ws (fit_p firsts m (members_at m (countᵖ ps) (i + 2) ++ st) js 0 (suc (suc p)) (pattern_words_all ps ++ ws))
      (fits_parts_in (dialect_by firsts) ps (members k) (p + 2) ks)
  unfolding FollowsAll
  tupled ps y i k a js ks s st p ws b =
      let e : p + 2 + span_all ps ≡ p + (2 + span_all ps) = omega arith in
      let c = and_parts (takes k 7) (eqb (countᵖ ps) (countᵐ (members k))) b in
      let n = eqb-true (countᵖ ps) (countᵐ (members k)) c.1 in
      rw (← e, ← add-two p, n) (y (i + 2) (members k) (at_members m i k a c.0) n js ks s st (p + 2) ws)

  mutual
    unfolding Follows FollowsAll fit_p pattern_words fits_in fits_parts_in span unlike here_in here_of asked row_of row_in pattern_tags by_parts first_of on

    walked : (a : Pattern) → Follows a
    walked wildcard i k a js ks s st p ws =
        rw (stands i k a 0) (same_leaf i js st (p + 1) p ws ws (Leaf 0) (takes k 0) ks (leaf js ks s st (suc p) (p + 1) ws (sym (add-one p))))
    walked nil i k a js ks s st p ws =
        rw (stands i k a 4) (same_leaf i js st (p + 1) p ws ws (Leaf 0) (takes k 4) ks (leaf js ks s st (suc p) (p + 1) ws (sym (add-one p))))
    walked (variable v) i k a js ks s st p ws =
        rw (stands i k a 1)
        (same_leaf i js st (p + 2) p (v ∷ ws) ws (Bind 1) (takes k 1) (ks ++ (k ∷ []))
        (leaf (js ++ (i ∷ [])) (ks ++ (k ∷ [])) (standing_more js ks i k s a) st (suc (suc p)) (p + 2) ws (sym (add-two p))))
    walked (constant c) i k a js ks s st p ws =
        rw (stands i k a 2)
        (same_leaf i js st (p + 2) p (c ∷ ws) ws (Leaf 1) (takes k 2) ks (leaf js ks s st (suc (suc p)) (p + 2) ws (sym (add-two p))))
    walked (value v c) i k a js ks s st p ws =
        rw (stands_value i k a js ks s v c)
        (same_leaf i js st (p + 3) p (v ∷ c ∷ ws) ws (Leaf 2) (takes k 3 && comparable v c k ks) ks
        (leaf js ks s st (suc (suc (suc p))) (p + 3) ws (omega arith)))
    walked (cons b c) i k a js ks s st p ws =
        rw (stands_cons i k a)
        (same_parts i js st (p + (1 + span b + span c)) p ((pattern_words b ++ pattern_words c) ++ ws) ws (Parts (i + 1)) (told_apart (dialect_by firsts) k && takes k 5) ks
        (λ ls. fits_in (dialect_by firsts) b (element k) (p + 1) ls then λ ns. fits_in (dialect_by firsts) c k (p + 1 + span b) ns)
        (λ e. two b c (walked b) (walked c) i (i + 1) k (element k) a (at_element m i k a (and_parts (told_apart (dialect_by firsts) k) (takes k 5) e).1) js ks s st p ws))
    walked (join b c) i k a js ks s st p ws =
        rw (stands i k a 6)
        (same_parts i js st (p + (1 + span b + span c)) p ((pattern_words b ++ pattern_words c) ++ ws) ws (Parts i) (takes k 6) ks
        (λ ls. fits_in (dialect_by firsts) b k (p + 1) ls then λ ns. fits_in (dialect_by firsts) c k (p + 1 + span b) ns)
        (λ e. two b c (walked b) (walked c) i i k k a a js ks s st p ws))
    walked (both b c) i k a js ks s st p ws =
        rw (stands i k a 8)
        (same_parts i js st (p + (1 + span b + span c)) p ((pattern_words b ++ pattern_words c) ++ ws) ws (Parts i) (takes k 8) ks
        (λ ls. fits_in (dialect_by firsts) b k (p + 1) ls then λ ns. fits_in (dialect_by firsts) c k (p + 1 + span b) ns)
        (λ e. two b c (walked b) (walked c) i i k k a a js ks s st p ws))
    walked (either b c) i k a js ks s st p ws =
        rw (stands i k a 9)
        (same_parts i js st (p + (1 + span b + span c)) p ((pattern_words b ++ pattern_words c) ++ ws) ws (Parts i) (takes k 9) ks
        (λ ls. fits_in (dialect_by firsts) b k (p + 1) ls then λ ns. fits_in (dialect_by firsts) c k (p + 1 + span b) ns)
        (λ e. two b c (walked b) (walked c) i i k k a a js ks s st p ws))
    walked (never b) i k a js ks s st p ws =
        rw (stands i k a 10)
        (same_parts i js st (p + (1 + span b)) p (pattern_words b ++ ws) ws One (takes k 10) ks
        (λ ls. fits_in (dialect_by firsts) b k (p + 1) ls)
        (λ e. one b (walked b) i k a js ks s st p ws))
    walked (tuple ps) i k a js ks s st p ws =
        rw (stands_tuple i k a (countᵖ ps))
        (same_parts i js st (p + (2 + span_all ps)) p (pos (countᵖ ps) ∷ (pattern_words_all ps ++ ws)) ws (Wide (i + 2) (countᵖ ps))
        (takes k 7 && eqb (countᵖ ps) (countᵐ (members k))) ks
        (λ ls. fits_parts_in (dialect_by firsts) ps (members k) (p + 2) ls)
        (λ e. tupled ps (walked_all ps) i k a js ks s st p ws e))

    walked_all : (ps : Patterns) → FollowsAll ps
    walked_all no_patterns = none_left
    walked_all (a ▸ᵖ ps) = more a ps (λ i k b js ks s st p ws. walked a i k b js ks s st p ws) (walked_all ps)

  at_end' : (p : ℕ) (x : Result (Unit {0}) ℕ) (y : Verdict (List Matcher)) → Same [] p [] x y → x ≡ tested y
  unfolding Same tested fit_p
  at_end' p x (ok ks) e = e.2
  at_end' p x (fault j) e = e

pub of_rule_lem : (firsts : Bool) (ms ps : List ℤ) (m : Matcher) (a : Pattern) → read_matcher ms ≡ ok m → read_pattern ps ≡ ok a → fit_of firsts ms ps ≡ tested (fits_in (dialect_by firsts) a m 0 [])
unfolding fit_of Follows Standing
of_rule_lem firsts ms ps m a e f =
    let g = (pattern_read ps a).0 f in
    rw (le-leb (length ps) 256 g.1, g.0, ← append-nil (pattern_words a))
    (at_end' firsts ms (0 + span a) _ (fits_in (dialect_by firsts) a m 0 []) (walked firsts ms a 0 m (at_whole ms m e) [] [] tt [] 0 []))
