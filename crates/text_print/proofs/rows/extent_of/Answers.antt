-- A value passes its own two words, and opens so many values.
use Rattle.std.proofs.Common.{rules, arith, w32, get_or, pos, ◌∙◌}
use mir.Val.{SFits}
use Rattle.text_print.proofs.rows.Laws.{none_of, too_few, one_more}
use Rattle.text_print.proofs.rows.extent_of.Goals as goal
use Rattle.text_print.proofs.rows.extent_of.Goals.{in_default, in-len2-up+then-left-eq0}

pub loop-rest-preserved : goal.loop-rest-preserved
loop-rest-preserved c =
    let f : SFits w32 (get_or c.loop-rest.rest.now 0 (pos 0)) = search rules in
    let g : SFits w32 (get_or c.loop-rest.rest.now 1 (pos 0)) = search rules in
    let t = one_more _ _ _ c.in-len2-up.len_at_least c.if-left-eq0.false f g (c.from.ensures ∙ c.inside.ensures) in
    record { passed = omega (arith, t.turn, t.shorter); within = omega (arith, t.shorter); fits = omega (arith, t.shorter) }

pub returns-clause-value : goal.returns-clause-value
returns-clause-value c =
    elim c.if-rest-lt2.branch [
      | in_default w ↦ omega (arith, too_few c.loop-rest.left c.loop-rest.rest.now (omega arith))
      | in-len2-up+then-left-eq0 w ↦ let z = none_of c.loop-rest.left c.loop-rest.rest.now w.if-left-eq0.true in omega (arith, z)
    ]
