-- Laws of what specs/Reviewing.antt defines.
use Rattle.std.specs.Prelude.{ℕ, ◌^◌, ◌≤◌, ◌<◌, ◌≡◌, ◌↔◌, Bool, List, [], T, ℤ, pos, negsuc}
use Rattle.std.proofs.Common.{arith, sym, ap₂, ◌∙◌, subst}
use Rattle.std.proofs.Math.Decide.{dec_le}
use Rattle.std.proofs.Math.Path.{refl, ap}
use Rattle.std.proofs.Math.Bool.{true, false}
use Rattle.std.proofs.Math.IntN.{pos-ne-negsuc}
use Rattle.rules.specs.Dialects.{Dialect}
use Rattle.rules.specs.Forms.{Value}
use Rattle.rules.specs.Reading.{ok}
use Rattle.rules.specs.Fit.{fits_value}
use Rattle.rules.specs.Origins.{Bindings, target}
use Rattle.rules.specs.Ways.{Way, Good}
use Rattle.rules.specs.Always.{always_true}
use Rattle.rules.specs.Services.{Judged, accepted, refused, Rule, rule_of, Reviewed, declined, counted, capped, unless_always_true, review_rule, review}
use Rattle.forms.specs.Tests.{leb_true, leb_false, ltb_true, ltb_false}
use Rattle.promises.specs.Suited.{Suits, fits_suits}
use Rattle.forms.specs.Origins.{plain_target}
use Rattle.promises.specs.Everybody.{always_passes}
use Rattle.forms.specs.Faults.{RuleFault, rule_range, WellFormed, rule_accepted, rule_refused}
use Rattle.promises.specs.Reviewing.{AlwaysTrue, Outside, Review, Telling, TooBig, always, count_of, counts, outside, too_big, turned}

module _ (ms ps : List ℤ) where
  of_words : (cap : ℤ) (r : Rule) → WellFormed ms ps r → review ms ps cap ≡ unless_always_true cap r
  unfolding review review_rule
  of_words cap r w = ap (review_rule cap) ((rule_accepted ms ps r).1 w)

  -- 11, whatever the cap is.
  pub review_always : (cap : ℤ) (r : Rule) → WellFormed ms ps r → always_true r.pattern ≡ true → review ms ps cap ≡ declined 11 0
  unfolding unless_always_true
  review_always cap r w a = of_words cap r w
      ∙ ap (λ t. elim t as (λ _. Reviewed) [ true ↦ declined 11 0 | false ↦ capped cap r ]) a

  of_rule_lem : (cap : ℤ) (r : Rule) → Telling ms ps r → review ms ps cap ≡ capped cap r
  unfolding unless_always_true
  of_rule_lem cap r w = of_words cap r w.well_formed
      ∙ ap (λ t. elim t as (λ _. Reviewed) [ true ↦ declined 11 0 | false ↦ capped cap r ]) w.can_fail

  in_range_lem : (c : ℕ) (r : Rule) → Telling ms ps r → c ≤ 64 → review ms ps (pos c) ≡ counted (count_of c r)
  unfolding capped count_of
  in_range_lem c r w h = of_rule_lem (pos c) r w
      ∙ ap (λ t. elim t as (λ _. Reviewed) [ true ↦ counted (count_of c r) | false ↦ declined 9 0 ]) (leb_true c 64 h)

  -- The count is the formula, where it is at most 4,294,967,295.
  pub review_counts : (c : ℕ) (r : Rule) → Telling ms ps r → c ≤ 64 → count_of c r ≤ 4294967295
      → review ms ps (pos c) ≡ record { answer = 0; place = 0; count = count_of c r }
  unfolding counted
  review_counts c r w h k = in_range_lem c r w h
      ∙ ap (λ t. elim t as (λ _. Reviewed) [ true ↦ record { answer = 0; place = 0; count = count_of c r } | false ↦ declined 10 0 ])
      (ltb_true (count_of c r) (2 ^ 32) (omega arith))

  pub review_too_big : (c : ℕ) (r : Rule) → Telling ms ps r → c ≤ 64 → 4294967295 < count_of c r → review ms ps (pos c) ≡ declined 10 0
  unfolding counted
  review_too_big c r w h k = in_range_lem c r w h
      ∙ ap (λ t. elim t as (λ _. Reviewed) [ true ↦ record { answer = 0; place = 0; count = count_of c r } | false ↦ declined 10 0 ])
      (ltb_false (count_of c r) (2 ^ 32) (omega arith))

  by_count : (c : ℕ) (r : Rule) → Telling ms ps r → c ≤ 64 → Dec (count_of c r ≤ 4294967295) → Review ms ps (pos c) (review ms ps (pos c))
  by_count c r w h (yes k) = counts r c w refl h k (review_counts c r w h k)
  by_count c r w h (no k) = too_big r c w refl h (omega arith) (review_too_big c r w h (omega arith))

  by_cap : (cap : ℤ) (r : Rule) → Telling ms ps r → Review ms ps cap (review ms ps cap)
  unfolding capped count_of
  by_cap (negsuc n) r w = outside r w (λ c e h. pos-ne-negsuc c n (sym e)) (of_rule_lem (negsuc n) r w)
  by_cap (pos c) r w = go (dec_le c 64)
    where
      go : Dec (c ≤ 64) → Review ms ps (pos c) (review ms ps (pos c))
      go (yes h) = by_count c r w h (dec_le (count_of c r) 4294967295)
      go (no h) = outside r w (λ d e k. let q : c ≡ d = cc in omega arith)
          (of_rule_lem (pos c) r w ∙ ap (λ t. elim t as (λ _. Reviewed) [ true ↦ counted (count_of c r) | false ↦ declined 9 0 ]) (leb_false c 64 (omega arith)))

  by_pattern : (cap : ℤ) (r : Rule) → WellFormed ms ps r → (b : Bool) → always_true r.pattern ≡ b → Review ms ps cap (review ms ps cap)
  by_pattern cap r w true a = always r w a (review_always cap r w a)
  by_pattern cap r w false a = by_cap cap r (record { well_formed = w; can_fail = a })

  -- One of the five.
  pub review_judged : (cap : ℤ) → Review ms ps cap (review ms ps cap)
  unfolding review
  review_judged cap = go (rule_of ms ps) refl
    where
      go : (x : Judged Rule) → rule_of ms ps ≡ x → Review ms ps cap (review ms ps cap)
      go (accepted r) e = by_pattern cap r ((rule_accepted ms ps r).0 e) (always_true r.pattern) refl
      go (refused a i) e = turned a i ((rule_refused ms ps a i).0 e) (ap (review_rule cap) e)

-- 10 exactly when the formula passes 4,294,967,295.
pub answer_10 : (ms ps : List ℤ) (cap : ℤ) → (review ms ps cap).answer ≡ 10 ↔ TooBig ms ps cap
unfolding declined
answer_10 ms ps cap = ((λ a. go a (review_judged ms ps cap)), back)
  where
    go : (review ms ps cap).answer ≡ 10 → Review ms ps cap (review ms ps cap) → TooBig ms ps cap
    go a (turned b i f q) = let k = ap (λ (x : Reviewed). x.answer) q in let l = (rule_range f).1 in absurd (omega arith)
    go a (always r w b q) = let k = ap (λ (x : Reviewed). x.answer) q in absurd (omega arith)
    go a (outside r w o q) = let k = ap (λ (x : Reviewed). x.answer) q in absurd (omega arith)
    go a (too_big r c w e h k q) = record { rule = r; telling = w; limit = c; is = e; inside = h; passes = k }
    go a (counts r c w e h k q) = let l = ap (λ (x : Reviewed). x.answer) q in absurd (omega arith)

    back : TooBig ms ps cap → (review ms ps cap).answer ≡ 10
    back t = ap (λ m. (review ms ps m).answer) t.is
        ∙ ap (λ (x : Reviewed). x.answer) (review_too_big ms ps t.limit t.rule t.telling t.inside t.passes)

pub answer_11 : (ms ps : List ℤ) (cap : ℤ) → (review ms ps cap).answer ≡ 11 ↔ AlwaysTrue ms ps
unfolding declined
answer_11 ms ps cap = ((λ a. go a (review_judged ms ps cap)), back)
  where
    go : (review ms ps cap).answer ≡ 11 → Review ms ps cap (review ms ps cap) → AlwaysTrue ms ps
    go a (turned b i f q) = let k = ap (λ (x : Reviewed). x.answer) q in let l = (rule_range f).1 in absurd (omega arith)
    go a (always r w b q) = record { rule = r; well_formed = w; always = b }
    go a (outside r w o q) = let k = ap (λ (x : Reviewed). x.answer) q in absurd (omega arith)
    go a (too_big r c w e h k q) = let l = ap (λ (x : Reviewed). x.answer) q in absurd (omega arith)
    go a (counts r c w e h k q) = let l = ap (λ (x : Reviewed). x.answer) q in absurd (omega arith)

    back : AlwaysTrue ms ps → (review ms ps cap).answer ≡ 11
    back t = ap (λ (x : Reviewed). x.answer) (review_always ms ps cap t.rule t.well_formed t.always)

same_rule : (ms ps : List ℤ) (r s : Rule) → WellFormed ms ps r → WellFormed ms ps s → r ≡ s
same_rule ms ps r s u w = cc ((rule_accepted ms ps r).1 u, (rule_accepted ms ps s).1 w)

pub answer_9 : (ms ps : List ℤ) (cap : ℤ) → (review ms ps cap).answer ≡ 9 ↔ Outside ms ps cap
unfolding declined
answer_9 ms ps cap = ((λ a. go a (review_judged ms ps cap)), λ o. back o (review_judged ms ps cap))
  where
    go : (review ms ps cap).answer ≡ 9 → Review ms ps cap (review ms ps cap) → Outside ms ps cap
    go a (turned b i f q) = let k = ap (λ (x : Reviewed). x.answer) q in let l = (rule_range f).1 in absurd (omega arith)
    go a (always r w b q) = let k = ap (λ (x : Reviewed). x.answer) q in absurd (omega arith)
    go a (outside r w o q) = record { rule = r; telling = w; beyond = o }
    go a (too_big r c w e h k q) = let l = ap (λ (x : Reviewed). x.answer) q in absurd (omega arith)
    go a (counts r c w e h k q) = let l = ap (λ (x : Reviewed). x.answer) q in absurd (omega arith)

    no_fault : (r : Rule) → WellFormed ms ps r → (a i : ℕ) → RuleFault ms ps a i → ⊥
    no_fault r w a i f = let z : ◌≡◌ {A = ℕ} 0 1 = cc ((rule_accepted ms ps r).1 w, (rule_refused ms ps a i).1 f) in omega arith

    not_always : (o : Outside ms ps cap) (r : Rule) → WellFormed ms ps r → always_true r.pattern ≡ true → ⊥
    not_always o r w b =
        let e = same_rule ms ps r o.rule w o.telling.well_formed in
        let z : true ≡ false = sym b ∙ ap (λ (s : Rule). always_true s.pattern) e ∙ o.telling.can_fail in
        subst T z tt

    back : Outside ms ps cap → Review ms ps cap (review ms ps cap) → (review ms ps cap).answer ≡ 9
    back o (turned b i f q) = absurd (no_fault o.rule o.telling.well_formed b i f)
    back o (always r w b q) = absurd (not_always o r w b)
    back o (outside r w k q) = ap (λ (x : Reviewed). x.answer) q
    back o (too_big r c w e h k q) = absurd (o.beyond c e h)
    back o (counts r c w e h k q) = absurd (o.beyond c e h)

-- 1 to 4 exactly with the first fault of the rule, at its place.
pub answer_1_to_4 : (ms ps : List ℤ) (cap : ℤ) (a i : ℕ)
    → RuleFault ms ps a i ↔ (1 ≤ a) × (a ≤ 4) × ((review ms ps cap).answer ≡ a) × ((review ms ps cap).place ≡ i)
unfolding declined review review_rule
answer_1_to_4 ms ps cap a i = (to, λ h. from h (review_judged ms ps cap))
  where
    to : RuleFault ms ps a i → (1 ≤ a) × (a ≤ 4) × ((review ms ps cap).answer ≡ a) × ((review ms ps cap).place ≡ i)
    to f =
        let q : review ms ps cap ≡ declined a i = ap (review_rule cap) ((rule_refused ms ps a i).1 f) in
        ((rule_range f).0, (rule_range f).1, ap (λ (x : Reviewed). x.answer) q, ap (λ (x : Reviewed). x.place) q)

    from : (1 ≤ a) × (a ≤ 4) × ((review ms ps cap).answer ≡ a) × ((review ms ps cap).place ≡ i) → Review ms ps cap (review ms ps cap) → RuleFault ms ps a i
    from h (turned b j f q) = subst (λ n. RuleFault ms ps n i) (sym (ap (λ (x : Reviewed). x.answer) q) ∙ h.2)
        (subst (RuleFault ms ps b) (sym (ap (λ (x : Reviewed). x.place) q) ∙ h.3) f)
    from h (always r w b q) = let k = ap (λ (x : Reviewed). x.answer) q in absurd (omega (arith, k, h.1, h.2))
    from h (outside r w o q) = let k = ap (λ (x : Reviewed). x.answer) q in absurd (omega (arith, k, h.1, h.2))
    from h (too_big r c w e l k q) = let g = ap (λ (x : Reviewed). x.answer) q in absurd (omega (arith, g, h.1, h.2))
    from h (counts r c w e l k q) = let g = ap (λ (x : Reviewed). x.answer) q in absurd (omega (arith, g, h.0, h.2))

-- Then there is a good way on every value that fits.
pub everybody : (dialect : Dialect) (ms ps : List ℤ) (cap : ℤ) (r : Rule) → WellFormed ms ps r → (review ms ps cap).answer ≡ 11
    → (v : Value) → fits_value r.matcher v 0 ≡ ok tt → (w : Way) × (e : Bindings) × Good dialect r.matcher r.pattern v w e
unfolding always_true Good
everybody dialect ms ps cap r w a v f =
    let t = (answer_11 ms ps cap).0 a in
    let q : t.rule ≡ r = cc ((rule_accepted ms ps t.rule).1 t.well_formed, (rule_accepted ms ps r).1 w) in
    let b = ap (λ (s : Rule). always_true s.pattern) (sym q) ∙ t.always in
    always_passes dialect r.pattern r.matcher 0 [] w.fitting.0 (subst T (sym b) tt) w.fitting.1 (target v) [] (subst (Suits r.matcher) (sym (plain_target v)) (fits_suits r.matcher v 0 f))

-- The count of a review that answers 0 is the formula, which fits a budget; and the cap is at most 64.
pub count_is : (ms ps : List ℤ) (c : ℕ) (r : Rule) → WellFormed ms ps r → (review ms ps (pos c)).answer ≡ 0
    → ((review ms ps (pos c)).count ≡ count_of c r) × (count_of c r ≤ 4294967295) × (c ≤ 64)
unfolding declined
count_is ms ps c r w a = go (review_judged ms ps (pos c))
  where
    same : (s : Rule) → Telling ms ps s → s ≡ r
    same s u = cc ((rule_accepted ms ps s).1 u.well_formed, (rule_accepted ms ps r).1 w)

    go : Review ms ps (pos c) (review ms ps (pos c)) → ((review ms ps (pos c)).count ≡ count_of c r) × (count_of c r ≤ 4294967295) × (c ≤ 64)
    go (turned b i f q) = let k = ap (λ (x : Reviewed). x.answer) q in let l = rule_range f in absurd (omega arith)
    go (always s u b q) = let k = ap (λ (x : Reviewed). x.answer) q in absurd (omega arith)
    go (outside s u o q) = let k = ap (λ (x : Reviewed). x.answer) q in absurd (omega arith)
    go (too_big s d u e h k q) = let l = ap (λ (x : Reviewed). x.answer) q in absurd (omega arith)
    go (counts s d u e h k q) =
        let i : d ≡ c = cc in
        let j = ap₂ count_of i (same s u) in
        (ap (λ (x : Reviewed). x.count) q ∙ j, omega arith, omega arith)
