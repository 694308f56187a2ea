-- The cause of a bad target, exactly; and match's sixth number.
use Rattle.std.specs.Prelude.{ℕ, ◌+◌, ◌≤◌, ◌<◌, ◌≡◌, ◌↔◌, Bool, not, List, [], ◌∷◌, ◌++◌, length, T, leb, eqb, ℤ}
use Rattle.std.proofs.Common.{arith, sym, ◌∙◌, leb→le, eqb→eq}
use Rattle.std.proofs.Math.Decide.{ℕ_discrete}
use Rattle.std.proofs.Math.Path.{refl, ap, subst}
use Rattle.std.proofs.Math.Bool.{true, false, cond}
use Rattle.std.proofs.Math.Dec.{nleb→lt}
use Rattle.rules.specs.Forms.{Value, words}
use Rattle.rules.specs.Reading.{Verdict, ok, fault, ◌then◌, Got, ended, whole, limited}
use Rattle.rules.specs.Reading.{target, read_target}
use Rattle.rules.specs.Causes.{Cause, over_length, left_over, cause_number}
use Rattle.rules.specs.Causes.{Look, well, wrong, value, told, cause_of}
use Rattle.forms.specs.Tests.{is_false, leb_true, leb_false}
use Rattle.forms.specs.Readers.{Sound}
use Rattle.forms.proofs.ReadTarget.{target_sound, target_complete}
use Rattle.forms.specs.Wrong.{Wrong, long, early, over, number_range, number_once, Says}
use Rattle.forms.proofs.Wrong.{wrong_says}
use Rattle.rules.specs.Services.{accepted, Rule, rule_of, Matched, cause_in, turned_away, carried_out, match_in}
use Rattle.rules.specs.Rows.{Form}
use Rattle.forms.specs.Faults.{Fault, of_rule, of_target, not_target, unfit, Judgement, turned, ran, rule_accepted, rule_range, match_turned, match_judged, refused_exactly}
use Rattle.promises.specs.Found.{Found, awaits_found}
use Rattle.forms.proofs.Together.{Agree, took, target_agrees, value_well}

-- ---- The whole target.

-- What the cause's number n says beside what was read.
Told : List ℤ → Verdict Value → ℕ → Type 0
Told ts (ok v) n = n ≡ 0
Told ts (fault i) n = (c : Cause) × (n ≡ cause_number c) × Wrong ts i c

whole_told : (ts : List ℤ) → length ts ≤ 1024 → (x : Verdict (Got Value)) → target 8 0 ts ≡ x → (y : Look) → Agree 8 0 ts x y → Told ts (x then ended) (told y)
unfolding Told Agree ◌then◌ ended told Sound
whole_told ts h (ok g) e (well us) a = subst (λ l. Told ts (ended g) (told (well l))) (sym a) (go g.rest refl)
  where
    go : (us : List ℤ) → g.rest ≡ us → Told ts (elim us as (λ _. Verdict Value) [ [] ↦ ok g.it | w ∷ ws ↦ fault g.next ]) (told (well us))
    go [] q = refl
    go (w ∷ ws) q =
        let t = took 8 0 ts g e in
        let n : length (words g.it) ≡ g.next = omega (arith, t.1) in
        (left_over, refl, subst (λ j. Wrong ts j left_over) n (over h g.it w ws (target_sound 8 0 ts g e).1 (t.0 ∙ ap (λ l. words g.it ++ l) q)))
whole_told ts h (ok g) e (wrong c) a = elim a [ ]
whole_told ts h (fault i) e (well us) b = elim b [ ]
whole_told ts h (fault i) e (wrong c) b =
    let n : length b.front + b.k ≡ i = omega (arith, b.place) in
    (c, refl, subst (λ j. Wrong ts j c) n (early h b.front b.rest b.split b.awaits b.spot))

cause_told : (ts : List ℤ) → Told ts (read_target ts) (cause_of ts)
unfolding read_target limited whole cause_of Told cause_number
cause_told ts = go (leb (length ts) 1024) refl
  where
    go : (b : Bool) → leb (length ts) 1024 ≡ b
        → Told ts (elim b as (λ _. Verdict Value) [ true ↦ (target 8 0 ts then ended) | false ↦ fault 1024 ])
        (elim b as (λ _. ℕ) [ true ↦ told (value 8 ts) | false ↦ cause_number over_length ])
    go true e = whole_told ts (leb→le (length ts) 1024 (subst T (sym e) tt)) (target 8 0 ts) refl (value 8 ts) (target_agrees 8 0 ts)
    go false e = (over_length, refl, long (nleb→lt (length ts) 1024 (subst (λ t. T (not t)) (sym e) tt)))

module _ (ts : List ℤ) (h : length ts ≤ 1024) where
  read_in_limit : read_target ts ≡ (target 8 0 ts then ended)
  unfolding read_target limited whole
  read_in_limit = ap (λ b. elim b as (λ _. Verdict Value) [ true ↦ (target 8 0 ts then ended) | false ↦ fault 1024 ]) (leb_true (length ts) 1024 h)

  look_in_limit : cause_of ts ≡ told (value 8 ts)
  unfolding cause_of
  look_in_limit = ap (λ b. elim b as (λ _. ℕ) [ true ↦ told (value 8 ts) | false ↦ cause_number over_length ]) (leb_true (length ts) 1024 h)

  found_in_limit : (i : ℕ) (c : Cause) → Found 8 0 ts i c → (read_target ts ≡ fault i) × (cause_of ts ≡ cause_number c)
  unfolding ◌then◌ told
  found_in_limit i c f = (read_in_limit ∙ ap (λ x. x then ended) f.0, look_in_limit ∙ ap told f.1)

wrong_found : (ts : List ℤ) (i : ℕ) (c : Cause) → Wrong ts i c → (read_target ts ≡ fault i) × (cause_of ts ≡ cause_number c)
unfolding read_target limited cause_of told ◌then◌ ended
wrong_found ts i c (long h) = (
  ap (λ b. elim b as (λ _. Verdict Value) [ true ↦ whole (target 8) ts | false ↦ fault 1024 ]) (leb_false (length ts) 1024 h),
  ap (λ b. elim b as (λ _. ℕ) [ true ↦ told (value 8 ts) | false ↦ cause_number over_length ]) (leb_false (length ts) 1024 h),
)
wrong_found ts i c (early {k = k} h front rest e a s) =
    let n : 0 + (length front + k) ≡ length front + k = omega arith in
    found_in_limit ts h (length front + k) c (subst (λ j. Found 8 0 ts j c) n (subst (λ l. Found 8 0 l (0 + (length front + k)) c) (sym e) (awaits_found a s 0)))
wrong_found ts i c (over h v w us k e) =
    let n : 0 + length (words v) ≡ length (words v) = omega arith in
    let t = ap (target 8 0) e ∙ target_complete 8 v k 0 (w ∷ us) in
    (read_in_limit ts h ∙ ap (λ x. x then ended) t ∙ ap fault n, look_in_limit ts h ∙ ap told (value_well 8 0 ts _ t))

-- ---- The cause of the words of a target.

-- It stands with the place exactly where Wrong says.
pub cause_at_lem : (ts : List ℤ) (i : ℕ) (c : Cause) → (read_target ts ≡ fault i) × (cause_of ts ≡ cause_number c) ↔ Wrong ts i c
unfolding Told
cause_at_lem ts i c = ((λ h. go (read_target ts) h.0 (cause_of ts) h.1 (cause_told ts)), wrong_found ts i c)
  where
    go : (x : Verdict Value) → x ≡ fault i → (n : ℕ) → n ≡ cause_number c → Told ts x n → Wrong ts i c
    go (ok v) p n q t = let z : ◌≡◌ {A = ℕ} 0 1 = cc in absurd (omega arith)
    go (fault j) p n q t =
        let a : j ≡ i = cc in
        let b = number_once t.0 c (sym t.1 ∙ q) in
        subst (λ k. Wrong ts k c) a (subst (Wrong ts j) b t.2)

pub cause_none : (ts : List ℤ) → cause_of ts ≡ 0 ↔ (v : Value) × (read_target ts ≡ ok v)
unfolding Told
cause_none ts = (go (read_target ts) refl (cause_told ts), λ h. subst (λ x. Told ts x (cause_of ts)) h.1 (cause_told ts))
  where
    go : (x : Verdict Value) → read_target ts ≡ x → Told ts x (cause_of ts) → cause_of ts ≡ 0 → (v : Value) × (read_target ts ≡ ok v)
    go (ok v) e t z = (v, e)
    go (fault i) e t z = let h = (number_range t.0).0 in absurd (omega (arith, h, t.1, z))

-- Over length: whatever the words are.
pub cause_length : (ts : List ℤ) → cause_of ts ≡ 1 ↔ 1024 < length ts
unfolding Told Says cause_number
cause_length ts = (go (read_target ts) (cause_told ts), λ h. (wrong_found ts 1024 over_length (long h)).1)
  where
    go : (x : Verdict Value) → Told ts x (cause_of ts) → cause_of ts ≡ 1 → 1024 < length ts
    go (ok v) t z = absurd (omega (arith, t, z))
    go (fault i) t z = (wrong_says (subst (Wrong ts i) (number_once t.0 over_length (sym t.1 ∙ z)) t.2)).1

-- ---- Match's sixth number.

module _ (form : Form) (ms ps ts : List ℤ) (budget : ℕ) (room : List ℤ) where
  abbrev it : Matched
  it = match_in form ms ps ts budget room

  told_5 : (i : ℕ) → Fault ms ps ts 5 i → it.cause ≡ cause_of ts
  unfolding turned_away cause_in
  told_5 i f = ap (λ (x : Matched). x.cause) (match_turned form ms ps ts budget room 5 i f)

  fault_5 : {a i : ℕ} → a ≡ 5 → Fault ms ps ts a i → ((r : Rule) × (rule_of ms ps ≡ accepted r)) × (read_target ts ≡ fault i)
  fault_5 e (of_rule f) = let h = (rule_range f).1 in absurd (omega (arith, h, e))
  fault_5 e (of_target r w (not_target q)) = ((r, (rule_accepted ms ps r).1 w), q)
  fault_5 e (of_target r w (unfit x q)) = absurd (omega (arith, e))

  is_5 : it.answer ≡ 5 → Fault ms ps ts 5 it.place
  is_5 e = (refused_exactly form ms ps ts budget room 5 it.place).1 (omega arith, omega arith, e, refl)

  -- Answer 5 at a place with a cause: exactly for a rule that is accepted and words so wrong.
  pub answer_5 : (i : ℕ) (c : Cause) → ((r : Rule) × (rule_of ms ps ≡ accepted r)) × Wrong ts i c
      ↔ (it.answer ≡ 5) × (it.place ≡ i) × (it.cause ≡ cause_number c)
  answer_5 i c = (to, from)
    where
      to : ((r : Rule) × (rule_of ms ps ≡ accepted r)) × Wrong ts i c → (it.answer ≡ 5) × (it.place ≡ i) × (it.cause ≡ cause_number c)
      to h =
          let w = (cause_at_lem ts i c).1 h.1 in
          let f = of_target h.0.0 ((rule_accepted ms ps h.0.0).0 h.0.1) (not_target w.0) in
          let r = (refused_exactly form ms ps ts budget room 5 i).0 f in
          (r.2, r.3, told_5 i f ∙ w.1)

      from : (it.answer ≡ 5) × (it.place ≡ i) × (it.cause ≡ cause_number c) → ((r : Rule) × (rule_of ms ps ≡ accepted r)) × Wrong ts i c
      from h =
          let f = (refused_exactly form ms ps ts budget room 5 i).1 (omega arith, omega arith, h.0, h.1) in
          let k = fault_5 refl f in
          (k.0, (cause_at_lem ts i c).0 (k.1, sym (told_5 i f) ∙ h.2))

  -- 0 in every other answer.
  pub cause_other : (it.answer ≡ 5 → ⊥) → it.cause ≡ 0
  unfolding turned_away carried_out cause_in
  cause_other no-5 = go (match_judged form ms ps ts budget room)
    where
      not_5 : (a : ℕ) → (a ≡ 5 → ⊥) → cond (eqb a 5) (cause_of ts) 0 ≡ 0
      not_5 a n = ap (λ b. cond b (cause_of ts) 0) (is_false (eqb a 5) (λ t. n (eqb→eq a 5 t)))

      go : Judgement form ms ps ts budget room it → it.cause ≡ 0
      go (turned a i f q) = ap (λ (x : Matched). x.cause) q ∙ not_5 a (λ e. no-5 (ap (λ (x : Matched). x.answer) q ∙ e))
      go (ran r v s q) = ap (λ (x : Matched). x.cause) q

  -- And in no answer 5.
  pub cause_5 : it.answer ≡ 5 ↔ (1 ≤ it.cause) × (it.cause ≤ 7)
  unfolding Told
  cause_5 = (
    λ e. let f = is_5 e in
        let t = subst (λ x. Told ts x (cause_of ts)) (fault_5 refl f).1 (cause_told ts) in
        let k = number_range t.0 in
        let q = told_5 it.place f ∙ t.1 in
        (omega (arith, k.0, q), omega (arith, k.1, q)),
    λ h. go (ℕ_discrete it.answer 5) h.0,
  )
    where
      go : Dec (it.answer ≡ 5) → 1 ≤ it.cause → it.answer ≡ 5
      go (yes e) h = e
      go (no n) h = absurd (omega (arith, h, cause_other n))
