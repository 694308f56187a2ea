-- The words of a row: a good way binds as many values as the pattern has variables, each a part of the target and so with no more words than the target.
use Rattle.std.specs.Prelude.{ℕ, ◌+◌, ◌≡◌, refl, Bool, true, false, ◌&&◌, List, [], ◌∷◌, ◌++◌, length, eqb, ℤ}
use Rattle.std.proofs.Common.{arith, sym, ap, ◌∙◌, subst, inl, inr, append_assoc, length-append, eqb→eq}
use Rattle.rules.specs.Dialects.{Dialect}
use Rattle.rules.specs.Forms.{Matcher, Matchers, no_matchers, ◌▸ᵐ◌, countᵐ}
use Rattle.rules.specs.Forms.{Pattern, wildcard, nil, variable, constant, value, cons, join, tuple, both, either, never, Patterns, no_patterns, ◌▸ᵖ◌, countᵖ, span}
use Rattle.rules.specs.Origins.{Valueᵒ, intᵒ, collectionᵒ, tupledᵒ, Valuesᵒ, emptyᵒ, ◌▸ᵒ◌, Bindings, plain, plain_all}
use Rattle.rules.specs.Rows.{Form, as_words, as_origins, told, row}
use Rattle.rules.specs.Reading.{Verdict, ok, ◌then◌}
use Rattle.rules.specs.Variables.{demand, variables, variables_all}
use Rattle.rules.specs.Fit.{element, members, takes, told_apart, fits, fits_in, fits_parts, fits_parts_in}
use Rattle.rules.specs.Search.{Halves, cons_halves, cons_halves_in, join_halves}
use Rattle.rules.specs.Ways.{Way, ConsBy, JoinBy, Follows, FollowsAll}
use Rattle.forms.specs.Tests.{and_split}
use Rattle.forms.specs.Written.{variable_tags, variable_tags_all}
use Rattle.forms.specs.Readers.{then_ok}
use Rattle.forms.specs.Numbering.{demand_ok, none_inside}
use Rattle.forms.specs.Lists.{Mem}
use Rattle.rules.specs.Following.{is_multiset}
use Rattle.promises.specs.FirstPlaces.{halves_some, some_member}
use Rattle.promises.specs.Choices.{in_numbered, Made, cons_complete, join_complete}
use Rattle.promises.specs.Suited.{Suits, SuitsEach, cons_suits, join_suits, tuple_suits}

pub row_append : (form : Form) (e d : Bindings) → row form (e ++ d) ≡ row form e ++ row form d
unfolding row
row_append form [] d = refl
row_append form (v ∷ e) d = ap {B = List ℤ} (λ r. told form v ++ r) (row_append form e d) ∙ sym (append_assoc (told form v) (row form e) (row form d))

-- In form 1 a variable has at most as many words as the target, in form 2 three.
unfoldable pub widest : Form → ℕ → ℕ
widest as_words n = n
widest as_origins n = 3

made_member : (b : Bool) (hs : List Halves) (here : Way) (x y : Valueᵒ) → Made b hs here x y → Mem (record { first = x; second = y }) hs
made_member b hs here x y c = subst (λ (g : Halves). Mem g hs) c.is (in_numbered hs c.c c.member)

pub cons_member : (dialect : Dialect) (m : Matcher) (v : Valueᵒ) (here : Way) (a b : Valueᵒ) → ConsBy dialect m v here a b → Mem (record { first = a; second = b }) (cons_halves m v)
cons_member dialect m v here a b h = some_member (halves_some dialect m v) _ (made_member (is_multiset m) (cons_halves_in dialect m v) here a b (cons_complete dialect m v here a b h))

pub join_member : (v : Valueᵒ) (here : Way) (a b : Valueᵒ) → JoinBy v here a b → Mem (record { first = a; second = b }) (join_halves v)
join_member v here a b h = made_member true (join_halves v) here a b (join_complete v here a b h)

-- ---- One binding for each variable, where the pattern and the value fit: a tuple's parts are then as many as its patterns.

-- A cons or a join that fits: its tag is taken, and both parts fit.
both_fit : (b : Bool) (at : ℕ) (ks : List Matcher) (f g : List Matcher → Verdict (List Matcher)) (ls : List Matcher)
    → (demand b at ks then λ x. f x then λ y. g y) ≡ ok ls → (x y : List Matcher) × (f x ≡ ok y) × (g y ≡ ok ls)
both_fit b at ks f g ls e =
    let s = then_ok (demand b at ks) (λ x. f x then λ y. g y) ls e in let t = then_ok (f s.0) g ls s.2 in (s.0, t.0, t.1, t.2)

mutual
  unfolding Follows variable_tags fits_in fits_parts_in told_apart variables Suits countᵖ countᵐ plain

  pub follows_binds : (dialect : Dialect) (p : Pattern) (m : Matcher) (v : Valueᵒ) (e : Bindings) (w : Way) (d : Bindings) (at : ℕ) (ks ls : List Matcher) (may_bind : Bool) (n i : ℕ)
      → fits p m at ks ≡ ok ls → variables p may_bind at n ≡ ok i → Suits m (plain v) → Follows dialect p m v e w d → length d ≡ length e + variable_tags p
  follows_binds dialect wildcard m v e w d at ks ls may_bind n i f g s h = ap length h.1 ∙ omega arith
  follows_binds dialect nil m v e w d at ks ls may_bind n i f g s h = ap length h.2 ∙ omega arith
  follows_binds dialect (variable x) m v e w d at ks ls may_bind n i f g s h = ap length h.1 ∙ length-append e (v ∷ [])
  follows_binds dialect (constant c) m v e w d at ks ls may_bind n i f g s h = ap length h.2 ∙ omega arith
  follows_binds dialect (value x c) m v e w d at ks ls may_bind n i f g s h = ap length h.2 ∙ omega arith
  follows_binds dialect (cons p q) m v e w d at ks ls may_bind n i f g s h =
      let t = both_fit (takes m 5) at ks (fits p (element m) (at + 1)) (fits q m (at + 1 + span p)) ls f in
      let x = then_ok (variables p may_bind (at + 1) n) (λ k. variables q may_bind (at + 1 + span p) k) i g in
      let u = cons_suits m v (record { first = h.a; second = h.b }) (cons_member dialect m v h.here h.a h.b h.divided) s in
      omega (
        arith,
        follows_binds dialect p (element m) h.a e h.one h.between (at + 1) t.0 t.1 may_bind n x.0 t.2 x.1 u.0 h.first,
        follows_binds dialect q m h.b h.between h.two d (at + 1 + span p) t.1 ls may_bind x.0 i t.3 x.2 u.1 h.second,
      )
  follows_binds dialect (join p q) m v e w d at ks ls may_bind n i f g s h =
      let t = both_fit (takes m 6) at ks (fits p m (at + 1)) (fits q m (at + 1 + span p)) ls f in
      let x = then_ok (variables p may_bind (at + 1) n) (λ k. variables q may_bind (at + 1 + span p) k) i g in
      let u = join_suits m v (record { first = h.a; second = h.b }) (join_member v h.here h.a h.b h.divided) s in
      omega (
        arith,
        follows_binds dialect p m h.a e h.one h.between (at + 1) t.0 t.1 may_bind n x.0 t.2 x.1 u.0 h.first,
        follows_binds dialect q m h.b h.between h.two d (at + 1 + span p) t.1 ls may_bind x.0 i t.3 x.2 u.1 h.second,
      )
  follows_binds dialect (tuple ps) m (intᵒ o x) e w d at ks ls may_bind n i f g s h = absurd h
  follows_binds dialect (tuple ps) m (collectionᵒ o vs) e w d at ks ls may_bind n i f g s h = absurd h
  follows_binds dialect (tuple ps) m (tupledᵒ o vs) e w d at ks ls may_bind n i f g s h =
      let t = then_ok (demand (takes m 7 && eqb (countᵖ ps) (countᵐ (members m))) at ks) (λ x. fits_parts ps (members m) (at + 2) x) ls f in
      let b = and_split (takes m 7) (eqb (countᵖ ps) (countᵐ (members m)))
      (demand_ok (takes m 7 && eqb (countᵖ ps) (countᵐ (members m))) at ks t.0 t.1).0 in
      follows_binds_each dialect ps (members m) vs e w d (at + 2) t.0 ls may_bind n i t.2 g (eqb→eq (countᵖ ps) (countᵐ (members m)) b.1) (tuple_suits m (plain_all vs) s) h
  follows_binds dialect (both p q) m v e w d at ks ls may_bind n i f g s h =
      let t = both_fit (takes m 8) at ks (fits p m (at + 1)) (fits q m (at + 1 + span p)) ls f in
      let x = then_ok (variables p may_bind (at + 1) n) (λ k. variables q may_bind (at + 1 + span p) k) i g in
      omega (
        arith,
        follows_binds dialect p m v e h.one h.between (at + 1) t.0 t.1 may_bind n x.0 t.2 x.1 s h.first,
        follows_binds dialect q m v h.between h.two d (at + 1 + span p) t.1 ls may_bind x.0 i t.3 x.2 s h.others,
      )
  follows_binds dialect (either p q) m v e w d at ks ls may_bind n i f g s (inl h) =
      let t = both_fit (takes m 9) at ks (fits p m (at + 1)) (fits q m (at + 1 + span p)) ls f in
      let x = then_ok (variables p false (at + 1) n) (λ k. variables q false (at + 1 + span p) k) i g in
      omega (arith, none_inside p (at + 1) n x.0 x.1, none_inside q (at + 1 + span p) x.0 i x.2, follows_binds dialect p m v e h.rest d (at + 1) t.0 t.1 false n x.0 t.2 x.1 s h.inside)
  follows_binds dialect (either p q) m v e w d at ks ls may_bind n i f g s (inr h) =
      let t = both_fit (takes m 9) at ks (fits p m (at + 1)) (fits q m (at + 1 + span p)) ls f in
      let x = then_ok (variables p false (at + 1) n) (λ k. variables q false (at + 1 + span p) k) i g in
      omega (arith, none_inside p (at + 1) n x.0 x.1, none_inside q (at + 1 + span p) x.0 i x.2, follows_binds dialect q m v e h.rest d (at + 1 + span p) t.1 ls false x.0 i t.3 x.2 s h.inside)
  follows_binds dialect (never p) m v e w d at ks ls may_bind n i f g s h = omega (arith, ap length h.2, none_inside p (at + 1) n i g)

  follows_binds_each : (dialect : Dialect) (ps : Patterns) (ms : Matchers) (vs : Valuesᵒ) (e : Bindings) (w : Way) (d : Bindings) (at : ℕ) (ks ls : List Matcher) (may_bind : Bool) (n i : ℕ)
      → fits_parts ps ms at ks ≡ ok ls → variables_all ps may_bind at n ≡ ok i → countᵖ ps ≡ countᵐ ms → SuitsEach ms (plain_all vs) → FollowsAll dialect ps ms vs e w d
      → length d ≡ length e + variable_tags_all ps
  follows_binds_each dialect no_patterns ms vs e w d at ks ls may_bind n i f g c s h = ap length h.1 ∙ omega arith
  follows_binds_each dialect (p ▸ᵖ ps) no_matchers vs e w d at ks ls may_bind n i f g c s h = omega arith
  follows_binds_each dialect (p ▸ᵖ ps) (m ▸ᵐ ms) emptyᵒ e w d at ks ls may_bind n i f g c s h = absurd s
  follows_binds_each dialect (p ▸ᵖ ps) (m ▸ᵐ ms) (v ▸ᵒ vs) e w d at ks ls may_bind n i f g c s h =
      let t = then_ok (fits p m at ks) (λ x. fits_parts ps ms (at + span p) x) ls f in
      let x = then_ok (variables p may_bind at n) (λ k. variables_all ps may_bind (at + span p) k) i g in
      omega (
        arith,
        follows_binds dialect p m v e h.one h.between at ks t.0 may_bind n x.0 t.1 x.1 s.0 h.first,
        follows_binds_each dialect ps ms vs h.between h.two d (at + span p) t.0 ls may_bind x.0 i t.2 x.2 (omega arith) s.1 h.others,
      )
