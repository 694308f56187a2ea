-- How many states wait in an open frame: a cons has a state for each mark left, a join one for each longer front and its own, an or one.
use Prim.Native.Nat.{ℕ, zero, suc, ◌+◌, ◌-◌, ◌*◌, ◌/◌, ◌%◌, ◌^◌, ◌≤◌, ◌<◌}
use native.Mathlib.Omega.{arith}
use Rattle.std.proofs.Math.Path.{◌≡◌, refl, sym, ap}
use Rattle.std.proofs.Common.{ap₂, ◌∙◌, subst, length-append, ne_eqb}
use Rattle.std.proofs.Math.Option.{Option, none, some}
use mathlib.Core.List.{List, [], ◌∷◌, ◌++◌, map, append-nil}
use Rattle.std.proofs.Math.ListN.{length, length-map}
use Rattle.std.specs.Prelude.{get_or, eqb, ℤ}
use Rattle.std.specs.Int.Count.{ones, ones_step}
use Rattle.rules.specs.Search as paper
use Rattle.rules.specs.Search.{Halves}
use Rattle.round_rules.specs.Rounds.{Branch}
use Rattle.words.specs.Marks.{Split, whole_if, under, splits, raise, positions}
use Rattle.words.proofs.marks.Places.{count_positions, half_lt}
use Rattle.program_rules.specs.Points.{Kind, list_cons, multiset_cons, joins, branch, Instr, split, choice, Point}
use Rattle.program_rules.specs.Meaning.{Means, means_list, means_multiset, means_join, means_choice}
use Rattle.search_machine.specs.Engine.{Slot, Conf}
use Rattle.search_machine.specs.Rep.{Chain, shut, open_at, choice_at_lem, deny_at, Rep, live}
use Rattle.search_machine.specs.Operations.{Left, LeftPlaces, LeftFronts}
use Rattle.value_places.proofs.Held.{held_64}
use Rattle.value_rows.specs.declared.Binding.{Binding}
use Rattle.search_atom.specs.Leaves.{when}
use Rattle.search_step.specs.declared.State.{State}
use Rattle.tables.specs.Slot.{Tables, view_of}
use Rattle.tables.specs.declared.line.Line.{Line}
use Rattle.search.specs.Run.{Env, line_at}
use Rattle.search.specs.Meaning.{slots_of, conf_of}
use Rattle.round_states.specs.Ruled.{Ruled, by_line_lem}
use Rattle.round_states.specs.Kept.{Opens, chain_none}
use Rattle.round_states.specs.Branches.{Shallow, no_deny}
use Rattle.round_states.specs.Taking.{D, code, points}
use Rattle.round_states.specs.Standing.{Standing}

unfoldable pub choices_by : (o whole left : ℕ) → ℕ
unfolding when
choices_by o whole left = when (eqb o 15) 1 (when (eqb o 10) (ones (whole - left) + 1) (ones left))

unfoldable pub choices_in : (op : List ℕ) → (top : ℕ) → Tables → ℕ
unfolding choices_by when
choices_in op top t = when (eqb top 0) 0 (choices_by (get_or op (top - 1) 0) (get_or t.wholes (top - 1) 0) (get_or t.lefts (top - 1) 0))

-- A join has one front more than there are marks.
whole_length : (d m : ℕ) (l : List Split) → d < 2 → length (whole_if d m l) ≡ d + length l
whole_length zero m l h = omega arith
whole_length (suc zero) m l h = omega arith
whole_length (suc (suc d)) m l h = absurd (omega arith)

count_splits : (k m : ℕ) → m < 2 ^ k → length (splits k m) ≡ suc (ones m)
unfolding splits ones
count_splits zero m h = let z : m ≡ 0 = omega arith in rw z
count_splits (suc k) m h =
    whole_length (m % 2) m (map (under (m % 2)) (splits k (m / 2))) (omega arith)
    ∙ (let a = length-map (splits k (m / 2)) (under (m % 2)) in let b = count_splits k (m / 2) (half_lt k m h) in let c = ones_step m in omega arith)

module _ (e : Env) (R : Ruled e) where
  split_count : (j : ℕ) (κ : Kind) → code e R j ≡ split κ → (h : Binding) (c : ℕ) (hs : List Halves) → Left e.words κ h c hs → choices_by (get_or e.op j 0) h.marks c ≡ length hs
  unfolding line_at
  split_count j κ cd h c hs l = by_line_lem e R (choices_by (get_or e.op j 0) h.marks c ≡ length hs) j (split κ) cd (λ n z. let y : ◌≡◌ {A = ℕ} 0 1 = cc in omega arith) (by κ l)
    where
      places_count : (k : Kind) → LeftPlaces e.words k h c hs → length hs ≡ ones c
      places_count k p = ap length p.are ∙ length-map (positions 64 c) _ ∙ count_positions 64 c (held_64 e.words h.at c R.target_is p.choices)

      by : (κ : Kind) → Left e.words κ h c hs → Means e.matcher e.vars (line_at e j) (get_or e.to j 0) (split κ) → choices_by (get_or e.op j 0) h.marks c ≡ length hs
      by (list_cons m) p (means_list k z) = unfold choices_by when Left in rw z (sym (places_count (list_cons m) p))
      by (multiset_cons m) p (means_multiset k z a) = unfold choices_by when Left in rw z (sym (places_count (multiset_cons m) p))
      by (joins m) p (means_join k z) = unfold choices_by when Left in
          let w = held_64 e.words h.at h.marks R.target_is p.held in
          let q = ap length p.are ∙ length-map (map (raise c) (splits 64 (h.marks - c))) _ ∙ length-map (splits 64 (h.marks - c)) (raise c) ∙ count_splits 64 (h.marks - c) (omega arith) in
          rw z (omega arith)

  choice_op : (j to : ℕ) → code e R j ≡ choice to → get_or e.op j 0 ≡ 15
  unfolding line_at
  choice_op j to cd = by_line_lem e R (get_or e.op j 0 ≡ 15) j (choice to) cd (λ n z. let y : ◌≡◌ {A = ℕ} 0 1 = cc in omega arith) (by (line_at e j) (get_or e.to j 0) to)
    where
      by : (l : Line) (t u : ℕ) → Means e.matcher e.vars l t (choice u) → l.op ≡ 15
      by l t u (means_choice z) = z

  chain_count : (t : Tables) {a : ℕ → Binding} {top n w : ℕ} {ss : List paper.State} → Chain (D e R) (code e R) (points e R) (slots_of e.dialect e.form e.words R.target_is t) a top n w ss
      → ((j : ℕ) → top ≡ suc j → Opens (code e R j) × (get_or t.lows j 0 ≡ 0)) → choices_in e.op top t ≡ length ss
  unfolding choices_in choices_by when slots_of
  chain_count t shut k = refl
  chain_count t (open_at {j = j} {older = older} {e = f} {hs = hs} {ss = ss} κ p q cd pt i u l left ws bs ch) k =
      let z : suc j - 1 ≡ j = omega arith in
      let y = (chain_none (D e R) (λ _. Unit {0}) (code e R) (points e R) ch (k j refl).1).1 in
      rw (ne_eqb (suc j) 0 (λ w. omega arith), z, y) (split_count j κ cd _ _ hs left ∙ sym (length-append (map (branch κ p q older f) hs) [] ∙ (let a = length-map hs (branch κ p q older f) in omega arith)))
  chain_count t (choice_at_lem {j = j} {to = to} {ss = ss} q cd r pt i u l is ws bs ch) k =
      let z : suc j - 1 ≡ j = omega arith in
      let y = (chain_none (D e R) (λ _. Unit {0}) (code e R) (points e R) ch (k j refl).1).1 in
      rw (ne_eqb (suc j) 0 (λ w. omega arith), z, y, choice_op j to cd)
  chain_count t (deny_at {j = j} cd r pt l w ws bs ch) k = no_deny (D e R) (code e R) (points e R) (k j refl).0 cd

  -- The states behind the first are those that wait in its open frame.
  pub others_count : (x : State) (slots : List ℕ) (b : List Binding) (br : Branch) → Standing e R x slots b br → choices_in e.op x.top (view_of e.arg slots) ≡ length br.others
  unfolding conf_of slots_of
  others_count x slots b br s = go s.rep
    where
      go : Rep (D e R) (code e R) (points e R) (some (conf_of e.dialect e.form e.words R.target_is x (view_of e.arg slots) b)) (br.first ∷ br.others)
          → choices_in e.op x.top (view_of e.arg slots) ≡ length br.others
      go (live l a ch) = chain_count (view_of e.arg slots) ch s.shallow.frame
