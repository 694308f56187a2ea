use mathlib.Core.Path.{◌∙◌, sym}
use Rattle.search_rounds.proofs.Heads.{first_place, first_valid, first_steps, first_inside, first_left, first_plain, own_rules}
use Rattle.search_rounds.proofs.first.take_first.Goals as goal

pub take_out-b-requires : goal.take_out-b-requires
take_out-b-requires c = let P = c.requires.firsts in record { few_variables = P.ruled.fine.few; table_long = P.there }

pub alone_of-y-requires : goal.alone_of-y-requires
alone_of-y-requires c = c.requires.firsts.there

pub op_at-o-requires : goal.op_at-o-requires
op_at-o-requires c = first_place c.requires.firsts c.take_out-b.ensures c.alone_of-y.ensures

pub once-f-requires : goal.once-f-requires
once-f-requires c = record { given = c.requires.given; fine = c.requires.firsts.ruled.fine; valid = first_valid c.requires.firsts c.take_out-b.ensures c.alone_of-y.ensures; steps_fit = first_steps c.requires.firsts c.take_out-b.ensures c.alone_of-y.ensures c.requires.budget_fits }

pub leave_not-requires : goal.leave_not-requires
leave_not-requires c = record { given = c.requires.given; inside = first_inside c.requires.firsts c.take_out-b.ensures c.alone_of-y.ensures c.once-f.result.state c.once-f.new.slots c.once-f.result.binds c.once-f.new.room c.once-f.ensures (sym c.op_at-o.ensures ∙ c.if-o-eq-NOT.true); budget_fits = c.requires.budget_fits }

pub returns-then-o-eq-NOT : goal.returns-then-o-eq-NOT
returns-then-o-eq-NOT c = first_left c.requires.firsts c.take_out-b.ensures c.alone_of-y.ensures c.once-f.result.state c.once-f.new.slots c.once-f.result.binds c.once-f.new.room c.once-f.ensures (sym c.op_at-o.ensures ∙ c.if-o-eq-NOT.true)
    c.leave_not.result.spent c.leave_not.result.state c.leave_not.new.slots c.leave_not.result.binds
    c.leave_not.new.room c.leave_not.ensures

pub returns : goal.returns
returns c = first_plain c.requires.firsts c.take_out-b.ensures c.alone_of-y.ensures c.once-f.result.state c.once-f.new.slots c.once-f.result.binds c.once-f.new.room c.once-f.ensures (λ z. c.if-o-eq-NOT.false (c.op_at-o.ensures ∙ z))
