use Rattle.std.proofs.Common.{◌-◌, ◌+◌, length, refl, arith, ap, ◌∙◌, Err}
use Rattle.notation_read.specs.Read.{stopped, ran_to}
use Rattle.notation_read.proofs.Laws.{run_start, none_first, run_over, run_end, run_refused, run_next, run_len, run_top, run_kept}
use Rattle.notation_read.proofs.run.Goals as goal
use Rattle.notation_read.proofs.run.Goals.{else-loop-turn-test, then-loop-turn-test+then-t-eq-END}

pub loop-turn-init : goal.loop-turn-init
loop-turn-init c =
    let n = c.new-automaton.ensures in
    let f = none_first _ n.stand in
    record { run_so_far = run_start _ _ _ _ _ n.stand n.stack c.none-names.ensures; length_kept = refl; few_words = f.0; few_wait = f.1 }

pub returns-then-cause-ne0 : goal.returns-then-cause-ne0
returns-then-cause-ne0 c =
    ap (λ k. stopped (Err (record { cause = k; at = c.scan-t.result.from })) c.step.new.words) c.numbered.ensures
    ∙ run_refused _ _ _ _ _ _ _ _ c.loop-turn.invariant.run_so_far _ (length c.args.text.now - (c.loop-turn.turn + 1)) (omega arith) c.scan-t.ensures c.if-t-eq-END.false _ _ _ _ _ c.resolve-n.ensures c.add.ensures c.step.ensures c.if-cause-ne0.true

pub loop-turn-preserved : goal.loop-turn-preserved
loop-turn-preserved c =
    let i = c.loop-turn.invariant in
    let l = run_len _ _ _ _ _ _ _ _ c.step.ensures in
    let t = run_top _ _ _ _ _ _ _ _ c.step.ensures in
    record {
      run_so_far = run_next _ _ _ _ _ _ _ _ i.run_so_far _ (length c.args.text.now - (c.loop-turn.turn + 1)) (omega arith) c.scan-t.ensures c.if-t-eq-END.false _ _ _ _ _ c.resolve-n.ensures c.add.ensures c.step.ensures c.if-cause-ne0.false;
      length_kept = run_kept _ _ _ _ _ _ _ _ c.step.ensures ∙ i.length_kept;
      few_words = omega arith;
      few_wait = omega arith;
    }

pub returns : goal.returns
returns c =
    let i = c.loop-turn.invariant.run_so_far in
    ap (λ r. stopped r c.loop-turn.words) (c.ran_to.ensures ∙ ap (λ k. ran_to c.loop-turn.automaton.stand k (length c.args.text.now)) c.finish.ensures)
    ∙ elim c.loop-turn-test.branch [
      | else-loop-turn-test w ↦ run_over _ _ _ _ _ _ _ _ i (omega arith)
      | then-loop-turn-test+then-t-eq-END w ↦ run_end _ _ _ _ _ _ _ _ i _ w.scan-t.ensures w.if-t-eq-END.true
    ]
