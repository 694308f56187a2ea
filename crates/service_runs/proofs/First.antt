-- The opening of a run, as the code asks for it. Assumes nothing.
use Prim.Native.Nat.{ℕ, zero, suc, ◌+◌, ◌≤◌}
use native.Mathlib.Omega.{arith}
use mathlib.Core.Path.{◌≡◌, refl, sym, ap, ap₂, ◌∙◌, subst}
use mathlib.Core.Bool.{Bool, true, false, cond}
use mathlib.Core.Option.{none, some}
use mathlib.Core.List.{List, [], ◌++◌}
use lib.ListN.{length, take, drop, replicate, length-replicate}
use lib.Seq.{take-append_seam}
use lib.Dec.{eqb}
use lib.IntN.{ℤ, pos}
use borrow.Author.Rules.{rules}
use borrow.Author.Tests.{ne_eqb}
use Rattle.std.specs.Prelude.{Result, Ok, Err}
use Rattle.rules.specs.Rows.{Form, form_of}
use Rattle.rules.specs.Search.{start}
use Rattle.rules.specs.Dialects.{Dialect, dialect_of}
use Rattle.rules.specs.Services.{rule_in}
use Rattle.tests.specs.Judgements.{Numbers, numbers_of}
use Rattle.tests.specs.Judgements as tests
use Rattle.tests.specs.declared.Refusal.{Refusal}
use Rattle.run_rules.specs.Lent.{Terms, Held, going, Opened, turned_away, begun as begins, opened}
use Rattle.run_rules.proofs.Matches.{rule_refusal, target_refusal}
use Rattle.run_rules.proofs.Main.{unknown_at_opening, unknown_dialect_at_opening, rule_refused_at_opening, target_refused_at_opening, begun_at_opening}
use Rattle.tables.specs.Slot.{no_slots, view_of}
use Rattle.value_places.specs.Held.{whole_at}
use Rattle.value_rows.specs.Row.{nothing}
use Rattle.value_rows.proofs.Room.{put_is}
use Rattle.value_rows.specs.declared.Binding.{Binding}
use Rattle.search_step.specs.declared.State.{State}
use Rattle.search.specs.Run.{opening}
use Rattle.search.specs.Searched.{unbound}
use Rattle.search.proofs.Begun.{first_valid}
use Rattle.services.specs.Matches.{Ready, Admitted}
use Rattle.services.specs.Picks.{form_in, dialect_in}
use Rattle.services.specs.Refusals.{refused_numbers}
use Rattle.services.specs.Testing.{tested_in}
use Rattle.services.specs.declared.picks.Dialect.TheVariants.{EveryPlace, FirstPlaces}
use Rattle.services.specs.declared.picks.RowForm.TheVariants.{Values, Origins}
use Rattle.services.specs.declared.refusal.Refused.{Refused}
use Rattle.services.specs.declared.refusal.Refused.TheVariants.{UnknownForm, UnknownDialect, Tested}
use Rattle.services.proofs.Outcome.{Failed, rule_fails, target_fails, passed, failed}
use Rattle.services.proofs.Matches.{matcher_few, pattern_few, ready_target, ready_some}
use Rattle.run_states.specs.Standing as standing
use Rattle.service_runs.specs.Going.{lines_in, env_in}
use Rattle.service_runs.specs.Kept.{Lengths, Standing, sane, wide, closed, target_is, fine, means, after, unknown, unknown_dialect, tested, Kept, refused, stands}
use Rattle.service_runs.specs.Kept as kept_run
use Rattle.service_runs.specs.Opens.{Taken, Declines, kept, away, begun, opened_as, Opens}
use Rattle.service_runs.specs.declared.opening.Start as out

-- ---- The words that are kept.

-- What is copied over the start of zeros.
pub kept_copied : (n : ℕ) (ws : List ℤ) → length ws ≤ n → ws ++ drop (length ws) (replicate n (pos 0)) ≡ kept n ws
unfolding kept
kept_copied n ws h =
    let zeros = replicate n (pos 0) in
    let l = length-replicate n (pos 0) in
    let z : 0 + length ws ≡ length ws = omega arith in
    sym (put_is zeros 0 ws (omega arith) ∙ ap (λ k. ws ++ drop k zeros) z)

kept_first : (n : ℕ) (ws : List ℤ) → length ws ≤ n → take (length ws) (kept n ws) ≡ ws
kept_first n ws h = ap (take (length ws)) (sym (kept_copied n ws h)) ∙ take-append_seam ws (drop (length ws) (replicate n (pos 0)))

pub ruleset kept_rules = (kept_copied, rules)

-- ---- The structs, field by field.

pub away_is : (form dialect size a i c a' i' c' : ℕ) (slots : List ℕ) → slots ≡ no_slots → a' ≡ a → i' ≡ i → c' ≡ c → ◌≡◌ {A = out.Start}
    (record {
      run = record {
        state = record { pc = 0; at = 0; marks = 0; top = 0; live = 0; rows = 0; steps = 0; words = 0 };
        binds = replicate 16 nothing;
        slots = slots;
        size = size;
        place = i';
        answer = a';
        cause = c';
        form = form;
        dialect = dialect;
        matcher = 0;
        pattern = 0;
        target = 0;
        matchers = replicate 64 (pos 0);
        patterns = replicate 256 (pos 0);
        targets = replicate 1024 (pos 0);
      };
      answer = a';
      place = i';
      cause = c';
    }) (away form dialect size a i c)
unfolding away
away_is form dialect size a i c a' i' c' slots e p q r = rw (e, p, q, r)

pub begun_is : (form dialect : ℕ) (ms ps ts : List ℤ) (size : ℕ) (x : State) (b : List Binding) (slots : List ℕ) (matchers patterns targets : List ℤ) → x ≡ opening 0 (whole_at ts 0) → b ≡ unbound 16 → slots ≡ no_slots
    → matchers ≡ kept 64 ms → patterns ≡ kept 256 ps → targets ≡ kept 1024 ts → ◌≡◌ {A = out.Start}
    (record {
      run = record {
        state = x;
        binds = b;
        slots = slots;
        size = size;
        place = 0;
        answer = 0;
        cause = 0;
        form = form;
        dialect = dialect;
        matcher = length ms;
        pattern = length ps;
        target = length ts;
        matchers = matchers;
        patterns = patterns;
        targets = targets;
      };
      answer = 0;
      place = 0;
      cause = 0;
    }) (begun form dialect ms ps ts size)
unfolding begun unbound
begun_is form dialect ms ps ts size x b slots matchers patterns targets m k e i j l = rw (m, k, e, i, j, l)

-- ---- Before the first state.

pub target_few : (ms ps ts : List ℤ) → Ready ms ps ts → length ts ≤ 1024
target_few ms ps ts g = (ready_target ms ps ts g).short

pub ruleset begun_rules = (begun_is, ready_some, ready_target, matcher_few, pattern_few, target_few, rules)

module _ (terms : Terms) (ms ps ts : List ℤ) (g : Ready ms ps ts) (size : ℕ) where
  abbrev first : Held
  first = going terms (start g.rule.matcher g.rule.pattern g.value) [] 0 0 0

  before_first : Standing terms ms ps ts g size (opening 0 (whole_at ts 0)) no_slots (replicate 16 nothing) first
  unfolding Standing env_in opening unbound
  before_first = standing.begins (env_in terms ms ps ts) (target_is terms ms ps ts g) (fine terms ms ps ts g) g.rule.matcher g.rule.pattern 0
      (sane terms ms ps ts g).rule.fitting.0 (sane terms ms ps ts g).rule.fitting.1 (wide terms ms ps ts g) (closed terms ms ps ts g) (means terms ms ps ts g) (after terms ms ps ts g)
      g.value (sane terms ms ps ts g).target.target (sane terms ms ps ts g).target.fit size
      (view_of (lines_in ms ps).arg no_slots) (replicate 16 nothing)
      (λ room l. first_valid (env_in terms ms ps ts) (ready_some ms ps ts g) (opening 0 (whole_at ts 0)) refl (replicate 16 nothing) refl no_slots refl room)

-- ---- What an opening gives.

-- The picks that a run keeps are those of its opening.
form_kept : (n : ℕ) (f : Form) → form_of n ≡ some f → f ≡ form_in (cond (eqb n 2) Origins Values)
unfolding form_of
form_kept zero f e = absurd (cc)
form_kept (suc zero) f e = cc
form_kept (suc (suc zero)) f e = cc
form_kept (suc (suc (suc n))) f e = absurd (cc)

dialect_kept : (n : ℕ) (d : Dialect) → dialect_of n ≡ some d → d ≡ dialect_in (cond (eqb n 2) FirstPlaces EveryPlace)
unfolding dialect_of
dialect_kept zero d e = absurd (cc)
dialect_kept (suc zero) d e = cc
dialect_kept (suc (suc zero)) d e = cc
dialect_kept (suc (suc (suc n))) d e = absurd (cc)

-- ---- What refuses an opening.

module _ (n d : ℕ) (ms ps ts : List ℤ) where
  pub no_form : (e : Refused) → (form_of n ≡ none) × (e ≡ UnknownForm) → (y : Refused) → y ≡ e → Declines n d ms ps ts (refused_numbers y)
  unfolding refused_numbers
  no_form e f y k =
      let u : y ≡ UnknownForm = k ∙ f.1 in
      subst (λ (i : Refused). Declines n d ms ps ts (refused_numbers i)) (sym u) (record { refusal = unknown refl; opens = λ size. unknown_at_opening n d ms ps ts size f.0 })

  module _ (form : Form) (f : form_of n ≡ some form) where
    pub no_dialect : (e : Refused) → (dialect_of d ≡ none) × (e ≡ UnknownDialect) → (y : Refused) → y ≡ e → Declines n d ms ps ts (refused_numbers y)
    unfolding refused_numbers
    no_dialect e g y k =
        let u : y ≡ UnknownDialect = k ∙ g.1 in
        subst (λ (i : Refused). Declines n d ms ps ts (refused_numbers i)) (sym u) (record { refusal = unknown_dialect refl; opens = λ size. unknown_dialect_at_opening n d ms ps ts size form f g.0 })

    module _ (dialect : Dialect) (g : dialect_of d ≡ some dialect) where
      by_test : (k : Numbers) → Failed dialect ms ps ts k → Declines n d ms ps ts k
      by_test k (rule_fails e c) =
          let r = rule_refusal dialect ms ps k.answer k.place e in
          record {
            refusal = tested r.0 r.1;
            opens = λ size. rule_refused_at_opening n d ms ps ts size form f dialect g k.answer k.place e ∙ ap (turned_away size k.answer k.place) (sym c);
          }
      by_test k (target_fails r e t c) =
          let q = target_refusal r.matcher ts k.answer k.place t in
          record {
            refusal = tested q.0 q.1;
            opens = λ size. target_refused_at_opening n d ms ps ts size form f dialect g r e k.answer k.place t ∙ ap (turned_away size k.answer k.place) (sym c);
          }

      pub test_declines : (x : Result (Unit {0}) Refusal) → tests.told x ≡ tested_in dialect ms ps ts → (r : Refusal) → x ≡ Err r → (e : Refused) → e ≡ Tested r
          → Declines n d ms ps ts (refused_numbers e)
      unfolding refused_numbers
      test_declines x p r q e k = subst (λ (i : Refused). Declines n d ms ps ts (refused_numbers i)) (sym k) (by_test (numbers_of r) (failed dialect ms ps ts x p r q))

      pub taken : (x : Result (Unit {0}) Refusal) → tests.told x ≡ tested_in dialect ms ps ts → (u : Unit {0}) → x ≡ Ok u → Taken n d ms ps ts
      taken x p u q = record { form = form; dialect = dialect; form_is = f; dialect_is = g; admitted = passed dialect ms ps ts x p u q }

-- ---- What an opening gives.

module _ (n d : ℕ) (ms ps ts : List ℤ) (size : ℕ) where
  -- Refused.
  pub away_opens : (k : Numbers) → Declines n d ms ps ts k → (o : out.Start) → o ≡ away n d size k.answer k.place k.cause → Opens n d ms ps ts size o
  unfolding turned_away away opened_as
  away_opens k w o q = let e = w.opens size in record {
    answer = ap (λ (x : out.Start). x.answer) q ∙ sym (ap (λ (x : Opened). x.answer) e);
    place = ap (λ (x : out.Start). x.place) q ∙ sym (ap (λ (x : Opened). x.place) e);
    cause = ap (λ (x : out.Start). x.cause) q ∙ sym (ap (λ (x : Opened). x.cause) e);
    held = subst (λ (x : out.Start). Kept x.run (opened n d ms ps ts size).run) (sym q) (refused w.refusal (ap (λ (x : Opened). x.run) e));
    fixed = q ∙ sym (ap (opened_as n d ms ps ts size) e
        ∙ ap (λ (b : Bool). elim b as (λ _. out.Start) [ true ↦ begun n d ms ps ts size | false ↦ away n d size k.answer k.place k.cause ]) (ne_eqb k.answer 0 (not_zero w.refusal)));
  }
    where
      not_zero : kept_run.Refusal k.answer → k.answer ≡ 0 → ⊥
      not_zero (unknown h) z = omega arith
      not_zero (unknown_dialect h) z = omega arith
      not_zero (tested h k) z = omega arith

  -- Before its first state.
  module _ (w : Taken n d ms ps ts) where
    abbrev dialect : Dialect
    dialect = dialect_in (cond (eqb d 2) FirstPlaces EveryPlace)

    abbrev terms : Terms
    terms = record { form = form_in (cond (eqb n 2) Origins Values); dialect = dialect }

    abbrev g : Ready ms ps ts
    g = w.admitted.ready

    in_dialect : Admitted dialect ms ps ts
    in_dialect = record { ready = g; rule_is_in = ap (λ x. rule_in x ms ps) (sym (dialect_kept d w.dialect w.dialect_is)) ∙ w.admitted.rule_is_in }

    as_begun : opened n d ms ps ts size ≡ begins terms size g.rule g.value
    as_begun = begun_at_opening n d ms ps ts size w.form w.form_is w.dialect w.dialect_is g.rule g.value w.admitted.rule_is_in g.value_is
        ∙ ap (λ (t : Terms). begins t size g.rule g.value) (ap₂ {C = Terms} (λ (f : Form) (x : Dialect). record { form = f; dialect = x }) (form_kept n w.form w.form_is) (dialect_kept d w.dialect w.dialect_is))

    -- The words that are kept are the words.
    unfoldable Stays : (a b c : List ℤ) → Type 0
    unfolding Standing
    Stays a b c = (y : Admitted dialect a b c) × Standing terms a b c y.ready size (opening 0 (whole_at ts 0)) no_slots (replicate 16 nothing) (first terms ms ps ts g size)

    stays : Stays (take (length ms) (kept 64 ms)) (take (length ps) (kept 256 ps)) (take (length ts) (kept 1024 ts))
    unfolding Stays in_dialect
    stays =
        subst (λ a. Stays a (take (length ps) (kept 256 ps)) (take (length ts) (kept 1024 ts))) (sym (kept_first 64 ms (matcher_few ms ps ts g)))
        (subst (λ b. Stays ms b (take (length ts) (kept 1024 ts))) (sym (kept_first 256 ps (pattern_few ms ps ts g)))
        (subst (λ c. Stays ms ps c) (sym (kept_first 1024 ts (target_few ms ps ts g)))
        (in_dialect, before_first terms ms ps ts g size)))

    begun_kept : Kept (begun n d ms ps ts size).run (opened n d ms ps ts size).run
    unfolding begun begins Stays
    begun_kept = let s = stays in
        stands refl (record { matcher = matcher_few ms ps ts g; pattern = pattern_few ms ps ts g; target = target_few ms ps ts g }) s.0 (first terms ms ps ts g size)
        (ap (λ (x : Opened). x.run) as_begun) s.1

    pub begun_opens : (o : out.Start) → o ≡ begun n d ms ps ts size → Opens n d ms ps ts size o
    unfolding begins begun opened_as
    begun_opens o q = record {
      answer = ap (λ (x : out.Start). x.answer) q ∙ sym (ap (λ (x : Opened). x.answer) as_begun);
      place = ap (λ (x : out.Start). x.place) q ∙ sym (ap (λ (x : Opened). x.place) as_begun);
      cause = ap (λ (x : out.Start). x.cause) q ∙ sym (ap (λ (x : Opened). x.cause) as_begun);
      held = subst (λ (x : out.Start). Kept x.run (opened n d ms ps ts size).run) (sym q) begun_kept;
      fixed = q ∙ sym (ap (opened_as n d ms ps ts size) as_begun);
    }
