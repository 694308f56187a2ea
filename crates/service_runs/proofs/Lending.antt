-- An advance of a run that is lent, as the code asks for it. Assumes nothing.
use Prim.Native.Nat.{ℕ, ◌≤◌}
use native.Mathlib.Omega.{arith}
use mathlib.Core.Path.{◌≡◌, refl, sym, ap, ◌∙◌, subst}
use mathlib.Core.Bool.{Bool, true, false, not}
use mathlib.Core.List.{List}
use lib.ListN.{length, take}
use lib.Dec.{eqb}
use lib.IntN.{ℤ}
use borrow.Author.Rules.{rules}
use Rattle.rules.specs.Dialects.{Dialect}
use Rattle.rules.specs.Services.{Rule, target_of}
use Rattle.std.specs.Prelude.{Option, Some, None, Result, Ok, Err}
use Rattle.std.specs.Result.{is_err}
use Rattle.tests.specs.Judgements.{numbers_of as test_numbers, told as told_test}
use Rattle.tests.specs.declared.Refusal.{Refusal as Refused}
use Rattle.run_rules.specs.Lent.{Terms, Numbers, Held, ended, Lent, told as tells, held_after, room_after, Advanced, go_on, unlike as unlikes, advanced}
use Rattle.run_rules.proofs.Calls.{like, other}
use Rattle.value_rows.specs.declared.Binding.{Binding}
use Rattle.search_step.specs.declared.State.{State}
use Rattle.search_atom.specs.Leaves.{when}
use Rattle.search.specs.Run.{answer_of}
use Rattle.search.specs.Stops.{number_of}
use Rattle.search.proofs.Stops.{stop_number}
use Rattle.search.specs.Told.{reported}
use Rattle.search.specs.declared.Progress.{Progress}
use Rattle.search.specs.declared.Report.{Report}
use Rattle.services.specs.Matches.{Admitted}
use Rattle.services.specs.Testing.{tested_in}
use Rattle.services.proofs.Outcome.{Failed, rule_fails, target_fails, passed, failed}
use Rattle.run_sound.specs.Tested.{Decides}
use Rattle.run_sound.proofs.Tests.{refuted, upheld}
use Rattle.run_states.specs.Standing.{numbers_of}
use Rattle.service_runs.specs.Going.{terms_by, env_in, run_in, Carries}
use Rattle.service_runs.specs.declared.going.Picks.{Picks}
use Rattle.service_runs.proofs.Steady.{still_stays}
use Rattle.service_runs.specs.Kept.{told, unlike_numbers, Goes, Over, Lengths, went_told, went_room, went_held, standing_valid, standing_over, refusal_in, terms_in}
use Rattle.service_runs.specs.Kept.{Refusal, unknown, unknown_dialect, tested, Kept, refused, stands, Tabled, is_done, is_refusal, is_budget, is_full, is_unlike, Refuses, changed, Advances}
use Rattle.service_runs.specs.declared.run.Run as struct
use Rattle.service_runs.specs.declared.run.Told as report
use Rattle.service_runs.specs.declared.run.Out as out

-- ---- What is told.

module _ (x : State) (r : Report) (e : r ≡ reported x) where
  pub tell_numbers : ◌≡◌ {A = Numbers} (record { answer = number_of r.stop; place = 0; rows = r.rows; steps = r.steps; words = r.words; cause = 0 }) (numbers_of x)
  unfolding numbers_of reported
  tell_numbers = rw (e, stop_number x.live)

pub ruleset tell_rules = (tell_numbers, rules)

-- ---- Over words.

module _ (dialect : Dialect) (ms ps ts : List ℤ) where
  pub is_admitted : (x : Result (Unit {0}) Refused) → told_test x ≡ tested_in dialect ms ps ts → is_err x ≡ false → Admitted dialect ms ps ts
  is_admitted (Ok u) p h = passed dialect ms ps ts (Ok u) p u refl
  is_admitted (Err r) p h = absurd (cc)

  not_admitted : (x : Result (Unit {0}) Refused) → told_test x ≡ tested_in dialect ms ps ts → is_err x ≡ true → Admitted dialect ms ps ts → ⊥
  not_admitted (Ok u) p h g = absurd (cc)
  not_admitted (Err r) p h g = go (failed dialect ms ps ts (Err r) p r refl)
    where
      go : Failed dialect ms ps ts (test_numbers r) → ⊥
      go (rule_fails e c) = let z = sym e ∙ g.rule_is_in in absurd (cc)
      go (target_fails a e t c) =
          let z = sym e ∙ g.rule_is_in in
          let k : a ≡ g.ready.rule = cc in
          let y = sym t ∙ ap (λ (b : Rule). target_of b.matcher ts) k ∙ g.ready.value_is in
          absurd (cc)

module _ (terms : Terms) (ms ps ts : List ℤ) where
  pub goes_not : (n : ℕ) (s : State) (slots : List ℕ) (b : List Binding) (room : List ℤ) (x : Result (Unit {0}) Refused) → told_test x ≡ tested_in terms.dialect ms ps ts → is_err x ≡ true
      → Goes terms ms ps ts n s slots b room None slots room
  goes_not n s slots b room x p h = record { goes = λ g. absurd (not_admitted terms.dialect ms ps ts x p h g); still = still_stays slots room }

  pub goes_carried : (n : ℕ) (x : State) (slots slots' : List ℕ) (b : List Binding) (room room' : List ℤ) (next : Option Progress)
      → Carries terms ms ps ts n x slots b room next slots' room' → Goes terms ms ps ts n x slots b room next slots' room'
  goes_carried n x slots slots' b room room' next c = record { goes = λ g. c; still = c.still }

-- ---- Over the words that a run keeps.

module _ (m p t : ℕ) (y : Bool) (d : Decides y (Lengths m p t)) (u : not y ≡ false) where
  pub matcher_kept : (ms : List ℤ) → length ms ≡ 64 → m ≤ length ms
  matcher_kept ms l = let k = (d.sound (upheld y u)).matcher in omega arith

  pub pattern_kept : (ps : List ℤ) → length ps ≡ 256 → p ≤ length ps
  pattern_kept ps l = let k = (d.sound (upheld y u)).pattern in omega arith

  pub target_kept : (ts : List ℤ) → length ts ≡ 1024 → t ≤ length ts
  target_kept ts l = let k = (d.sound (upheld y u)).target in omega arith

module _ (terms : Terms) (matchers : List ℤ) (m : ℕ) (patterns : List ℤ) (p : ℕ) (targets : List ℤ) (t n : ℕ) (x : State) (slots : List ℕ) (b : List Binding) (room : List ℤ) where
  pub over_not : (y : Bool) → Decides y (Lengths m p t) → not y ≡ true → Over terms matchers m patterns p targets t n x slots b room None slots room
  over_not y d u = record { goes = λ k. absurd (refuted y u (d.whole k)); still = still_stays slots room }

  pub over_goes : (next : Option Progress) (slots' : List ℕ) (room' : List ℤ)
      → Goes terms (take m matchers) (take p patterns) (take t targets) n x slots b room next slots' room'
      → Over terms matchers m patterns p targets t n x slots b room next slots' room'
  over_goes next slots' room' g = record { goes = λ k. g; still = g.still }

pub over_picked : (matchers : List ℤ) (m : ℕ) (patterns : List ℤ) (p : ℕ) (targets : List ℤ) (t n : ℕ) (x : State) (slots : List ℕ) (b : List Binding) (room : List ℤ) (k k' : Picks) → k ≡ k'
    → (next : Option Progress) (slots' : List ℕ) (room' : List ℤ)
    → Goes (terms_by k) (take m matchers) (take p patterns) (take t targets) n x slots b room next slots' room'
    → Over (terms_by k') matchers m patterns p targets t n x slots b room next slots' room'
over_picked matchers m patterns p targets t n x slots b room k k' e next slots' room' g =
    subst (λ i. Over (terms_by i) matchers m patterns p targets t n x slots b room next slots' room') e
    (over_goes (terms_by k) matchers m patterns p targets t n x slots b room next slots' room' g)

pub ruleset over_rules = (matcher_kept, pattern_kept, target_kept, over_not, over_goes, rules)

-- ---- A refusal.

refusal_zero : (a : ℕ) → Refusal a → a ≡ 0 → ⊥
refusal_zero a (unknown h) e = omega arith
refusal_zero a (unknown_dialect h) e = omega arith
refusal_zero a (tested h k) e = omega arith

refusal_not : (a : ℕ) → Refusal a → a ≡ 19 → ⊥
refusal_not a (unknown h) e = omega arith
refusal_not a (unknown_dialect h) e = omega arith
refusal_not a (tested h k) e = omega arith

module _ (a i c : ℕ) (y : Bool) (d : Decides y (Refusal a)) where
  pub refused_not : not y ≡ true → (t : report.Told) → told t ≡ unlike_numbers → Refuses a i c t
  unfolding told
  refused_not u t e = record { again = λ r. absurd (refuted y u (d.whole r)); tabled = is_unlike (ap (λ (k : Numbers). k.answer) e) }

  pub refused_again : not y ≡ false → Refuses a i c (record { answer = a; place = i; rows = 0; steps = 0; words = 0; cause = c })
  unfolding told
  refused_again u = record { again = λ r. refl; tabled = is_refusal (d.sound (upheld y u)) }

pub ruleset refused_rules = (refused_not, refused_again, rules)

-- ---- A run that is lent.

kept_size : (r : struct.Run) (l : Lent) → Kept r l → l.size ≡ r.size
kept_size r l (refused f e) = ap (λ (y : Lent). y.size) e
kept_size r l (stands a k g h e q) = ap (λ (y : Lent). y.size) e

-- A run that has ended gives its answer again and touches nothing.
ended_again : (n size : ℕ) (room : List ℤ) (k : Numbers) → length room ≡ size
    → advanced n room (record { size = size; held = ended k }) ≡ record { numbers = k; room = room; run = record { size = size; held = ended k } }
unfolding go_on tells held_after room_after
ended_again n size room k e = like n room (record { size = size; held = ended k }) e

goes_as : (n size : ℕ) (room : List ℤ) (h : Held) → length room ≡ size
    → advanced n room (record { size = size; held = h }) ≡ record { numbers = tells n size h; room = room_after n size h room; run = record { size = size; held = held_after n size h } }
unfolding go_on
goes_as n size room h e = like n room (record { size = size; held = h }) e

tabled_live : (x : State) → Tabled (numbers_of x).answer
unfolding numbers_of answer_of when
tabled_live x = go (eqb x.live 3) (eqb x.live 0)
  where
    go : (a b : Bool) → Tabled (when a 8 (when b 0 7))
    go true b = is_full refl
    go false true = is_done refl
    go false false = is_budget refl

not_unlike : (x : State) → (numbers_of x).answer ≡ 19 → ⊥
unfolding numbers_of answer_of when
not_unlike x = go (eqb x.live 3) (eqb x.live 0)
  where
    go : (a b : Bool) → ◌≡◌ {A = ℕ} (when a 8 (when b 0 7)) 19 → ⊥
    go true b e = omega arith
    go false true e = omega arith
    go false false e = omega arith

module _ (r : struct.Run) (n : ℕ) (room : List ℤ) (t : report.Told) where
  abbrev same : out.Out
  same = record { run = r; told = t }

  abbrev Holds : out.Out → (room' : List ℤ) → Type 0
  Holds o room' = (l : Lent) → Kept r l → (told o.told ≡ (advanced n room l).numbers) × (room' ≡ (advanced n room l).room) × Kept o.run (advanced n room l).run

  unchanged : Holds same room → Tabled t.answer → Advances r n room same room
  unfolding changed
  unchanged h a = record { as_held = h; within = refl; tabled = a; unlike_still = λ e. (refl, refl) }

  again : (k : Numbers) (l : Lent) → length room ≡ r.size → l ≡ record { size = r.size; held = ended k } → told t ≡ k → Kept r l
      → (told same.told ≡ (advanced n room l).numbers) × (room ≡ (advanced n room l).room) × Kept same.run (advanced n room l).run
  again k l e q s w =
      let z : advanced n room l ≡ record { numbers = k; room = room; run = record { size = r.size; held = ended k } } = ap (advanced n room) q ∙ ended_again n r.size room k e in (
        s ∙ sym (ap (λ (a : Advanced). a.numbers) z),
        sym (ap (λ (a : Advanced). a.room) z),
        subst (Kept r) (q ∙ sym (ap (λ (a : Advanced). a.run) z)) w,
      )

  pub adv_unlike : (length room ≡ r.size → ⊥) → told t ≡ unlike_numbers → Advances r n room same room
  unfolding unlikes told
  adv_unlike f s = unchanged
      (λ l w.
      let z = other n room l (λ e. f (e ∙ kept_size r l w)) in (
        s ∙ sym (ap (λ (a : Advanced). a.numbers) z),
        sym (ap (λ (a : Advanced). a.room) z),
        subst (Kept r) (sym (ap (λ (a : Advanced). a.run) z)) w,
      ))
      (is_unlike (ap (λ (k : Numbers). k.answer) s))

  pub adv_refused : length room ≡ r.size → (r.answer ≡ 0 → ⊥) → Refuses r.answer r.place r.cause t → Advances r n room same room
  adv_refused e f s = unchanged (λ l w. go l w w) s.tabled
    where
      go : (l : Lent) → Kept r l → Kept r l
          → (told same.told ≡ (advanced n room l).numbers) × (room ≡ (advanced n room l).room) × Kept same.run (advanced n room l).run
      go l w (refused a q) = again (refusal_in r) l e q (s.again a) w
      go l w (stands a k g h q c) = absurd (f a)

  pub adv_over : length room ≡ r.size → r.answer ≡ 0 → (r.state.live ≡ 1 → ⊥) → told t ≡ numbers_of r.state → Advances r n room same room
  unfolding told
  adv_over e a f s = unchanged (λ l w. go l w w) (subst Tabled (sym (ap (λ (k : Numbers). k.answer) s)) (tabled_live r.state))
    where
      go : (l : Lent) → Kept r l → Kept r l
          → (told same.told ≡ (advanced n room l).numbers) × (room ≡ (advanced n room l).room) × Kept same.run (advanced n room l).run
      go l w (refused y q) = absurd (refusal_zero r.answer y a)
      go l w (stands y k g h q c) = again (numbers_of r.state) l e
          (q ∙ ap {B = Lent} (λ i. record { size = r.size; held = i }) (standing_over _ _ _ _ g.ready r.size r.state r.slots r.binds h f c)) s w

  module _ (e : length room ≡ r.size) (a : r.answer ≡ 0) (v : r.state.live ≡ 1) (room' : List ℤ) (next : Option Progress) (slots : List ℕ)
      (c : Over (terms_in r) r.matchers r.matcher r.patterns r.pattern r.targets r.target n r.state r.slots r.binds room next slots room') where
    -- Not sound: then it is no run that the last call left.
    pub adv_unsound : next ≡ None → told t ≡ unlike_numbers → Advances r n room same room'
    unfolding changed told
    adv_unsound u s = record {
      as_held = λ l w. absurd (go l w);
      within = refl;
      tabled = is_unlike (ap (λ (k : Numbers). k.answer) s);
      unlike_still = λ h. (refl, c.still.room_stays u);
    }
      where
        go : (l : Lent) → Kept r l → ⊥
        go l (refused y q) = refusal_zero r.answer y a
        go l (stands y k g h q d) = ((c.goes k).goes g).tries.kept u (standing_valid _ _ _ _ g.ready r.size r.state r.slots r.binds h room e v d)

    pub adv_went : (q : Progress) → next ≡ Some q → told t ≡ numbers_of q.state → Advances r n room (record { run = changed r q.state q.binds slots; told = t }) room'
    unfolding changed told run_in env_in
    adv_went q u s = record {
      as_held = go;
      within = refl;
      tabled = subst Tabled (sym (ap (λ (k : Numbers). k.answer) s)) (tabled_live q.state);
      unlike_still = λ h. absurd (not_unlike q.state (sym (ap (λ (k : Numbers). k.answer) s) ∙ h));
    }
      where
        go : (l : Lent) → Kept r l → (told t ≡ (advanced n room l).numbers) × (room' ≡ (advanced n room l).room) × Kept (changed r q.state q.binds slots) (advanced n room l).run
        go l (refused y z) = absurd (refusal_zero r.answer y a)
        go l (stands y k g h j d) =
            let w = ((c.goes k).goes g).tries.went q u in
            let z = ap (advanced n room) j ∙ goes_as n r.size room h e in (
              s ∙ went_told _ _ _ _ g.ready n r.size r.state q.state r.slots slots r.binds q.binds room room' e w h d ∙ sym (ap (λ (i : Advanced). i.numbers) z),
              went_room _ _ _ _ g.ready n r.size r.state q.state r.slots slots r.binds q.binds room room' e w h d ∙ sym (ap (λ (i : Advanced). i.room) z),
              stands y k g (held_after n r.size h) (ap (λ (i : Advanced). i.run) z)
                  (went_held _ _ _ _ g.ready n r.size r.state q.state r.slots slots r.binds q.binds room room' e w h d),
            )

pub ruleset advance_rules = (adv_unlike, adv_refused, adv_over, adv_unsound, adv_went, rules)
