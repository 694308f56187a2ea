-- The sum over the compiled lines of an accepted rule is review's formula, and the product before their end that of its factors. Assumes nothing.
use Prim.Native.Nat.{ℕ, ◌+◌}
use native.Mathlib.Omega.{arith}
use native.Mathlib.Nat.{one-mul}
use mathlib.Core.Path.{◌≡◌, refl, sym, ap, ◌∙◌}
use mathlib.Core.Bool.{cond}
use mathlib.Core.List.{List, []}
use lib.IntN.{ℤ}
use Rattle.rules.specs.Fit.{is_integer}
use Rattle.rules.specs.Review.{factor, summed, formula}
use Rattle.rules.specs.Services.{accepted, Rule, rule_of}
use Rattle.forms.specs.Faults.{rule_accepted}
use Rattle.program_rules.specs.Points.{Instr, Point}
use Rattle.program_rules.specs.Program.{instr_of, point_at, program}
use Rattle.program_rules.specs.Length.{instrs, to_come}
use Rattle.program_rules.specs.Walk.{in_range_lem}
use Rattle.tables.specs.declared.line.Line.{Line}
use Rattle.tables.specs.Line.{Columns}
use Rattle.program_rules.specs.Meaning.{Means, means_end, means_strip, means_drop, means_bind, means_constant, means_integer, means_value, means_nil, means_list, means_multiset, means_join, means_tuple}
use Rattle.program_rules.specs.Meaning.{means_keep, means_choice, means_deny, means_cut, means_other, means_close}
use Rattle.program_rules.specs.Numbered.{Numbered, numbered_at}
use Rattle.program_rules.specs.Accepted.{one_finish, follows}
use Rattle.program_rules.specs.Columns.{line_in, Holds}
use Rattle.review_count.specs.Tally.{along, whole_sum, whole_product}
use Rattle.words.specs.Words.{entries}
use Rattle.review_count.proofs.count.Costs.{number_by, count_at, count_later, none_point, sum_is}
use Rattle.review_count.proofs.count.Products.{product_at, product_later, product_is}

-- The line's number is its instruction's.
number_means : {ms : List ℤ} {vars : ℕ} {l : Line} {to : ℕ} {I : Instr} → Means ms vars l to I → l.op ≡ number_by I
unfolding number_by is_integer
number_means (means_end e) = e
number_means (means_strip e) = e
number_means (means_drop e) = e
number_means (means_bind e) = e
number_means (means_constant e) = e
number_means (means_integer e) = e
number_means (means_value m e t a) = e ∙ ap (λ b. cond b 5 6) (sym t)
number_means (means_nil m e) = e
number_means (means_list m e) = e
number_means (means_multiset m e a) = e
number_means (means_join m e) = e
number_means (means_tuple n e l) = e
number_means (means_keep e) = e
number_means (means_choice e) = e
number_means (means_deny e) = e
number_means (means_cut e) = e
number_means (means_other e) = e
number_means (means_close e) = e

last_ends : (pc : ℕ) (P : Point) → Numbered P → to_come P ≡ 1 → number_by (instr_of pc P) ≡ 0
unfolding instr_of number_by
last_ends pc P n h = let f = one_finish P n h in rw f.1

pub counted_is : (ms ps : List ℤ) (r : Rule) (vars : ℕ) (t : Columns) (most : ℕ) → rule_of ms ps ≡ accepted r → Holds ms r vars t
    → whole_sum most t.op ≡ formula most r.pattern r.matcher
unfolding whole_sum formula point_at count_at count_later program line_in
counted_is ms ps r vars t most a h =
    let w = (rule_accepted ms ps r).0 a in
    let m = r.matcher in
    let p = r.pattern in
    let N = instrs p m in
    let b = h.last in
    sum_is most t.op (program m p) (point_at m p) (follows ms ps r w) (λ pc. refl) N
    (last_ends N (point_at m p N) (numbered_at m p 0 w.numbered.0 w.numbered.1 N) (in_range_lem m p N ∙ omega arith))
    (λ pc l. number_means (h.means pc l)) entries 0 0 (along 1 0 0 []) (omega arith) (omega arith) none_point
    ∙ ap (λ x. summed most 0 p m 1 + x) (one-mul (factor most 0 p m))

pub multiplied_is : (ms ps : List ℤ) (r : Rule) (vars : ℕ) (t : Columns) (most : ℕ) → rule_of ms ps ≡ accepted r → Holds ms r vars t
    → whole_product most t.op ≡ factor most 0 r.pattern r.matcher
unfolding whole_product point_at product_at product_later program line_in
multiplied_is ms ps r vars t most a h =
    let w = (rule_accepted ms ps r).0 a in
    let m = r.matcher in
    let p = r.pattern in
    let N = instrs p m in
    let b = h.last in
    product_is most t.op (program m p) (point_at m p) (follows ms ps r w) (λ pc. refl) N
    (last_ends N (point_at m p N) (numbered_at m p 0 w.numbered.0 w.numbered.1 N) (in_range_lem m p N ∙ omega arith))
    (λ pc l. number_means (h.means pc l)) entries 0 0 (along 1 0 0 []) (omega arith) (omega arith) none_point
    ∙ one-mul (factor most 0 p m)
