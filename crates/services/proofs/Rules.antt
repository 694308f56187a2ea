-- Review's answer by its tests, as the code asks for it. Assumes nothing.
use Prim.Native.Nat.{ℕ, zero, suc, ◌^◌, ◌≤◌, ◌<◌}
use native.Mathlib.Omega.{arith}
use native.Mathlib.Decide.{dec_le}
use mathlib.Core.Path.{◌≡◌, refl, sym, ap, ◌∙◌, subst}
use mathlib.Core.Bool.{Bool, true, false, cond}
use mathlib.Core.Option.{none, some}
use mathlib.Core.List.{List}
use lib.Dec.{ltb, leb}
use lib.ListN.{length}
use lib.IntN.{ℤ, pos, negsuc}
use borrow.Author.Rules.{rules}
use borrow.Author.Tests.{lt-ltb, le-ltb}
use Rattle.rules.specs.Review.{formula, factor}
use Rattle.rules.specs.Always.{always_true}
use Rattle.rules.specs.Services.{Judged, accepted, refused, Rule, rule_in, rule_of, declined, counted, capped, unless_always_true, review_rule, review, review_of, review_picked}
use Rattle.rules.specs.Services as paper
use Rattle.rules.specs.Dialects.{Dialect, dialect_of}
use Rattle.forms.specs.Also.{rule_also}
use Rattle.words.specs.Dialects.{dialect_by}
use Rattle.forms.specs.Tests.{leb_true, leb_false}
use Rattle.words.specs.Words.{tag_z}
use Rattle.words.specs.Words.{entries}
use Rattle.program_rules.specs.Accepted.{matcher_short, pattern_short}
use Rattle.tables.specs.Line.{Columns, columns_of, no_lines}
use Rattle.program_rules.specs.Lines.{lines_of, laid}
use Rattle.program_rules.specs.Link.{ops_in, bindings_in, linked_in}
use Rattle.program_rules.specs.Slots.{numbered}
use Rattle.program_rules.specs.Columns.{Holds, compiled_zeros}
use Rattle.review_count.specs.Scan.{none_from}
use Rattle.review_count.specs.Plain.{plain_is}
use Rattle.std.specs.Option.{ok_or}
use Rattle.std.specs.Prelude.{Option, Some, None, Result, Ok, Err}
use Rattle.tests.specs.Judgements.{numbers_of, told as tested, judgement}
use Rattle.tests.specs.declared.Refusal.{Refusal}
use Rattle.tests.proofs.Told.{was_accepted, was_refused}
use Rattle.review_count.specs.Tally.{whole_sum, whole_product, tally, within}
use Rattle.room_rules.specs.Rooms.{rows_counted, rows_capped, rows_unless_always, rows_reviewed}
use Rattle.services.specs.Refusals.{refused_numbers}
use Rattle.services.specs.Reviews.{Sound, sound, counted_by, rows_by, rows_picked, reviewed, reviewed_by}
use Rattle.services.specs.declared.refusal.Refused.{Refused}
use Rattle.services.specs.declared.refusal.Refused.TheVariants.{UnknownDialect, Tested, TooBig}
use Rattle.review_count.specs.declared.count.Tally.{Tally}
use Rattle.review_count.proofs.count.Counted.{counted_is, multiplied_is}

-- ---- A rule that was accepted.

sound_is : {j : Judged Rule} → Sound j → (r : Rule) × (j ≡ accepted r)
sound_is (sound r) = (r, refl)

pub accepted_sound : (j : Judged Rule) (x : Result (Unit {0}) Refusal) → tested x ≡ judgement j → (u : Unit {0}) → x ≡ Ok u → Sound j
accepted_sound j x q u e = let r = was_accepted j x q u e in subst Sound (sym r.1) (sound r.0)

pub matcher_few : (ms ps : List ℤ) → Sound (rule_of ms ps) → length ms ≤ 64
matcher_few ms ps s = let r = sound_is s in let h = matcher_short ms ps r.0 r.1 in omega arith

pub pattern_few : (ms ps : List ℤ) → Sound (rule_of ms ps) → length ps ≤ 256
pattern_few ms ps s = let r = sound_is s in pattern_short ms ps r.0 r.1

-- ---- Tests 9 and 10.

abbrev done : ℕ → paper.Reviewed
done n = record { answer = 0; place = 0; count = n }

by_limit : ℤ → List ℕ → Bool → paper.Reviewed
by_limit cap ops b = cond b (declined 9 0) (counted (whole_sum (tag_z cap) ops))

pub cap_outside : (cap : ℤ) (m : ℕ) (ops : List ℕ) → m ≡ tag_z cap → 64 < m → declined 9 0 ≡ counted_by cap ops
unfolding by_limit counted_by
cap_outside cap m ops e h = let k : 64 < tag_z cap = omega arith in sym (ap (by_limit cap ops) (lt-ltb 64 (tag_z cap) k))

inside : (cap : ℤ) (m : ℕ) (ops : List ℕ) → m ≡ tag_z cap → m ≤ 64 → counted (whole_sum m ops) ≡ counted_by cap ops
unfolding by_limit counted_by
inside cap m ops e h =
    let k : tag_z cap ≤ 64 = omega arith in
    ap (λ n. counted (whole_sum n ops)) e ∙ sym (ap (by_limit cap ops) (le-ltb 64 (tag_z cap) k))

-- What is given for a sum f and a product g.
module _ (f g : ℕ) (y : Result Tally Refused) (e : y ≡ ok_or (within f g) TooBig) where
  count_told : reviewed (reviewed_by y) ≡ counted f
  unfolding within counted reviewed reviewed_by refused_numbers
  count_told = rw e (go (ltb f (2 ^ 32)))
    where
      go : (b : Bool) → reviewed (reviewed_by (ok_or (cond b (Some (tally f g)) None) TooBig)) ≡ elim b as (λ _. paper.Reviewed) [ true ↦ done f | false ↦ declined 10 0 ]
      go true = refl
      go false = refl

  rows_told : (reviewed_by y).rows ≡ rows_counted f g
  unfolding within rows_counted reviewed_by
  rows_told = rw e (go (ltb f (2 ^ 32)))
    where
      go : (b : Bool) → (reviewed_by (ok_or (cond b (Some (tally f g)) None) TooBig)).rows ≡ cond b g 0
      go true = refl
      go false = refl

-- The rows, likewise.
by_rows : ℤ → List ℕ → Bool → ℕ
by_rows cap ops b = cond b 0 (rows_counted (whole_sum (tag_z cap) ops) (whole_product (tag_z cap) ops))

pub rows_outside : (cap : ℤ) (m : ℕ) (ops : List ℕ) → m ≡ tag_z cap → 64 < m → 0 ≡ rows_by cap ops
unfolding by_rows rows_by
rows_outside cap m ops e h = let k : 64 < tag_z cap = omega arith in sym (ap (by_rows cap ops) (lt-ltb 64 (tag_z cap) k))

rows_inside : (cap : ℤ) (m : ℕ) (ops : List ℕ) → m ≡ tag_z cap → m ≤ 64 → rows_counted (whole_sum m ops) (whole_product m ops) ≡ rows_by cap ops
unfolding by_rows rows_by
rows_inside cap m ops e h =
    let k : tag_z cap ≤ 64 = omega arith in
    ap (λ n. rows_counted (whole_sum n ops) (whole_product n ops)) e ∙ sym (ap (by_rows cap ops) (le-ltb 64 (tag_z cap) k))

-- w is m as a wide number, and x what the count is found to be.
module _ (cap : ℤ) (m w : ℕ) (ops : List ℕ) (e : m ≡ tag_z cap) (h : m ≤ 64) (k : w ≡ m) (x : Option Tally) (q : x ≡ within (whole_sum w ops) (whole_product w ops))
    (y : Result Tally Refused) (r : y ≡ ok_or x TooBig) where
  given_is : y ≡ ok_or (within (whole_sum m ops) (whole_product m ops)) TooBig
  given_is = r ∙ ap (λ z. ok_or z TooBig) (q ∙ ap (λ i. within (whole_sum i ops) (whole_product i ops)) k)

  pub count_given : reviewed (reviewed_by y) ≡ counted_by cap ops
  count_given = count_told (whole_sum m ops) (whole_product m ops) y given_is ∙ inside cap m ops e h

  pub rows_given : (reviewed_by y).rows ≡ rows_by cap ops
  rows_given = rows_told (whole_sum m ops) (whole_product m ops) y given_is ∙ rows_inside cap m ops e h

-- ---- Test 11, over the lines that the compiler leaves.

by_cap : (r : Rule) (n : ℕ) → Bool → paper.Reviewed
by_cap r n b = elim b [ true ↦ counted (formula n r.pattern r.matcher) | false ↦ declined 9 0 ]

-- Where the sum is the formula, tests 9 and 10 are those of the rule.
capped_by : (cap : ℤ) (r : Rule) (ops : List ℕ) → ((m : ℕ) → whole_sum m ops ≡ formula m r.pattern r.matcher) → counted_by cap ops ≡ capped cap r
unfolding counted_by capped by_cap
capped_by (negsuc n) r ops f = refl
capped_by (pos n) r ops f = go (dec_le n 64)
  where
    go : Dec (n ≤ 64) → counted_by (pos n) ops ≡ capped (pos n) r
    go (yes h) = sym (inside (pos n) n ops refl h) ∙ ap counted (f n) ∙ sym (ap (by_cap r n) (leb_true n 64 h))
    go (no h) = sym (cap_outside (pos n) n ops refl (omega arith)) ∙ sym (ap (by_cap r n) (leb_false n 64 (omega arith)))

by_cap_rows : (r : Rule) (n : ℕ) → Bool → ℕ
by_cap_rows r n b = cond b (rows_counted (formula n r.pattern r.matcher) (factor n 0 r.pattern r.matcher)) 0

rows_capped_by : (cap : ℤ) (r : Rule) (ops : List ℕ) → ((m : ℕ) → whole_sum m ops ≡ formula m r.pattern r.matcher)
    → ((m : ℕ) → whole_product m ops ≡ factor m 0 r.pattern r.matcher) → rows_by cap ops ≡ rows_capped cap r
unfolding rows_by rows_capped by_cap_rows
rows_capped_by (negsuc n) r ops f g = refl
rows_capped_by (pos n) r ops f g = go (dec_le n 64)
  where
    go : Dec (n ≤ 64) → rows_by (pos n) ops ≡ rows_capped (pos n) r
    go (yes h) = sym (rows_inside (pos n) n ops refl h) ∙ rw (f n, g n) (sym (ap (by_cap_rows r n) (leb_true n 64 h)))
    go (no h) = sym (rows_outside (pos n) n ops refl (omega arith)) ∙ sym (ap (by_cap_rows r n) (leb_false n 64 (omega arith)))

by_pattern : (cap : ℤ) (r : Rule) → Bool → paper.Reviewed
by_pattern cap r b = elim b [ true ↦ declined 11 0 | false ↦ capped cap r ]

module _ (ms ps : List ℤ) (T : Columns) (lines : List ℕ) (s : Sound (rule_of ms ps)) (none : lines ≡ no_lines)
    (e : T ≡ linked_in (length (lines_of ms ps)) (numbered (length (lines_of ms ps)) (laid 0 (lines_of ms ps) (columns_of lines)))) where
  -- The number of the compiler that review does not use.
  vars : ℕ
  vars = bindings_in (ops_in T.op 0 (length (lines_of ms ps)))

  held : Holds ms (sound_is s).0 vars T
  unfolding vars
  held =
      compiled_zeros ms ps (sound_is s).0 (sound_is s).1 vars T refl
      (e ∙ ap (λ x. linked_in (length (lines_of ms ps)) (numbered (length (lines_of ms ps)) (laid 0 (lines_of ms ps) (columns_of x)))) none)

  rule_of_lem : (cap : ℤ) → by_pattern cap (sound_is s).0 (always_true (sound_is s).0.pattern) ≡ review_rule cap (rule_of ms ps)
  unfolding review_rule unless_always_true by_pattern
  rule_of_lem cap = ap (review_rule cap) (sym (sound_is s).1)

  told : (cap : ℤ) (b : Bool) → b ≡ none_from T.op 0 entries → by_pattern cap (sound_is s).0 b ≡ review_rule cap (rule_of ms ps)
  told cap b q = ap (by_pattern cap (sound_is s).0) (q ∙ plain_is ms ps (sound_is s).0 (sound_is s).1 vars T held) ∙ rule_of_lem cap

  pub always_given : (cap : ℤ) (b : Bool) → b ≡ none_from T.op 0 entries → b ≡ true → declined 11 0 ≡ review_rule cap (rule_of ms ps)
  unfolding by_pattern
  always_given cap b q t = ap (by_pattern cap (sound_is s).0) (sym t) ∙ told cap b q

  pub counted_given : (z cap : ℤ) (b : Bool) (x : paper.Reviewed) → b ≡ none_from T.op 0 entries → b ≡ false → x ≡ counted_by z T.op → z ≡ cap → x ≡ review_rule cap (rule_of ms ps)
  unfolding by_pattern
  counted_given z cap b x q t h k =
      h ∙ ap (λ y. counted_by y T.op) k ∙ capped_by cap (sound_is s).0 T.op (λ m. counted_is ms ps (sound_is s).0 vars T m (sound_is s).1 held)
      ∙ ap (by_pattern cap (sound_is s).0) (sym t) ∙ told cap b q

  rows_rule_of : (cap : ℤ) → cond (always_true (sound_is s).0.pattern) 0 (rows_capped cap (sound_is s).0) ≡ rows_reviewed cap (rule_of ms ps)
  unfolding rows_reviewed rows_unless_always
  rows_rule_of cap = ap (rows_reviewed cap) (sym (sound_is s).1)

  rows_of : (cap : ℤ) (b : Bool) → b ≡ none_from T.op 0 entries → cond b 0 (rows_capped cap (sound_is s).0) ≡ rows_reviewed cap (rule_of ms ps)
  rows_of cap b q =
      ap (λ x. cond x 0 (rows_capped cap (sound_is s).0)) (q ∙ plain_is ms ps (sound_is s).0 (sound_is s).1 vars T held) ∙ rows_rule_of cap

  pub always_rows : (cap : ℤ) (b : Bool) → b ≡ none_from T.op 0 entries → b ≡ true → 0 ≡ rows_reviewed cap (rule_of ms ps)
  always_rows cap b q t = ap (λ x. cond x 0 (rows_capped cap (sound_is s).0)) (sym t) ∙ rows_of cap b q

  pub counted_rows : (z cap : ℤ) (b : Bool) (x : ℕ) → b ≡ none_from T.op 0 entries → b ≡ false → x ≡ rows_by z T.op → z ≡ cap → x ≡ rows_reviewed cap (rule_of ms ps)
  counted_rows z cap b x q t h k =
      h ∙ ap (λ y. rows_by y T.op) k
      ∙ rows_capped_by cap (sound_is s).0 T.op (λ m. counted_is ms ps (sound_is s).0 vars T m (sound_is s).1 held)
      (λ m. multiplied_is ms ps (sound_is s).0 vars T m (sound_is s).1 held)
      ∙ ap (λ x. cond x 0 (rows_capped cap (sound_is s).0)) (sym t) ∙ rows_of cap b q

-- ---- Tests 1 to 4.

module _ (j : Judged Rule) (x : Result (Unit {0}) Refusal) (q : tested x ≡ judgement j) (r : Refusal) (e : x ≡ Err r) where
  pub refused_given : (cap : ℤ) (y : Refused) → y ≡ Tested r → reviewed (reviewed_by (Err y)) ≡ review_rule cap j
  unfolding reviewed reviewed_by refused_numbers review_rule declined
  refused_given cap y k = let w = was_refused j x q r e in rw k (sym (ap (review_rule cap) w.0))

  pub refused_rows : (cap : ℤ) (y : Refused) → 0 ≡ rows_reviewed cap j
  unfolding rows_reviewed
  refused_rows cap y = let w = was_refused j x q r e in sym (ap (rows_reviewed cap) w.0)

-- ---- The dialect. A rule that it accepts is accepted in dialect 1, the same rule.

module _ (dialect : Dialect) (ms ps : List ℤ) (x : Result (Unit {0}) Refusal) (q : tested x ≡ judgement (rule_in dialect ms ps)) (u : Unit {0}) (e : x ≡ Ok u) where
  given : (r : Rule) × (rule_in dialect ms ps ≡ accepted r)
  given = was_accepted (rule_in dialect ms ps) x q u e

  same_rule : rule_of ms ps ≡ rule_in dialect ms ps
  same_rule = rule_also dialect ms ps given.0 given.1 ∙ sym given.1

  pub also_sound : Sound (rule_of ms ps)
  also_sound = subst Sound (sym same_rule) (accepted_sound (rule_in dialect ms ps) x q u e)

  -- z is the cap as it is handed on.
  pub also_given : (z cap : ℤ) (y : paper.Reviewed) → y ≡ review_rule z (rule_of ms ps) → z ≡ cap → y ≡ review_rule cap (rule_in dialect ms ps)
  also_given z cap y h k = h ∙ ap (λ (w : ℤ). review_rule w (rule_of ms ps)) k ∙ ap (review_rule cap) same_rule

  pub also_rows : (z cap : ℤ) (y : ℕ) → y ≡ rows_reviewed z (rule_of ms ps) → z ≡ cap → y ≡ rows_reviewed cap (rule_in dialect ms ps)
  also_rows z cap y h k = h ∙ ap (λ (w : ℤ). rows_reviewed w (rule_of ms ps)) k ∙ ap (rows_reviewed cap) same_rule

-- A dialect that there is, and one that there is not.
module _ (n : ℕ) (ms ps : List ℤ) (cap : ℤ) where
  module _ (dialect : Dialect) (f : dialect_of n ≡ some dialect) (z : ℤ) (k : z ≡ cap) where
    pub picked : (y : paper.Reviewed) → y ≡ review_of dialect ms ps z → y ≡ review_picked n ms ps cap
    unfolding review_picked
    picked y e = rw (f, review_picked) (e ∙ ap (review_of dialect ms ps) k)

    pub rows_are_picked : (y : ℕ) → y ≡ rows_reviewed z (rule_in dialect ms ps) → y ≡ rows_picked n ms ps cap
    unfolding rows_picked
    rows_are_picked y e = rw (f, rows_picked) (e ∙ ap (λ (w : ℤ). rows_reviewed w (rule_in dialect ms ps)) k)

  module _ (e : Refused) (f : (dialect_of n ≡ none) × (e ≡ UnknownDialect)) (y : Refused) (k : y ≡ e) where
    pub none_picked : reviewed (reviewed_by (Err y)) ≡ review_picked n ms ps cap
    unfolding reviewed reviewed_by refused_numbers declined review_picked
    none_picked = let u : y ≡ UnknownDialect = k ∙ f.1 in rw (u, f.0, review_picked)

    pub no_rows_picked : (reviewed_by (Err y)).rows ≡ rows_picked n ms ps cap
    unfolding reviewed_by rows_picked
    no_rows_picked = rw (f.0, rows_picked)
