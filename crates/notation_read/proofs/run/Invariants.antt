use Rattle.std.proofs.Common.{◌≡◌, ◌-◌, ◌*◌, ◌≤◌, length}
use Rattle.notation_step.specs.Stepped.{view}
use Rattle.notation_read.specs.Read.{ran_from, ran}
use Rattle.notation_read.proofs.run.Given as goal

abbrev pub invariant-loop-turn : goal.invariant-loop-turn
invariant-loop-turn l = record {
  run_so_far : ran_from l.text (length l.text - l.turn) l.at l.names (view l.automaton.stand l.automaton.stack l.words) ≡ ran l.text l.initial.words;
  length_kept : length l.words ≡ length l.initial.words;
  few_words : l.automaton.stand.len ≤ 3 * l.turn;
  few_wait : l.automaton.stand.top ≤ l.turn;
}
