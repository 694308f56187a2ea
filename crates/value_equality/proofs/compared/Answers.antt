use Rattle.value_equality.proofs.Asking.{table_rules}
use Rattle.value_equality.proofs.Integers.{compared_rules, integers_open}
use Rattle.value_equality.proofs.compared.Goals as goal

pub paired_integers-requires : goal.paired_integers-requires
paired_integers-requires c = record { placed = search compared_rules; both = integers_open _ _ _ _ _ _ _ c.requires.opened }

pub loop-yes-init : goal.loop-yes-init
loop-yes-init c = search compared_rules

pub loop-yes-smaller-then-done : goal.loop-yes-smaller-then-done
loop-yes-smaller-then-done c = search compared_rules

pub loop-yes-preserved-then-done : goal.loop-yes-preserved-then-done
loop-yes-preserved-then-done c = search compared_rules

pub loop-yes-smaller-then-of-eq1-2 : goal.loop-yes-smaller-then-of-eq1-2
loop-yes-smaller-then-of-eq1-2 c = search compared_rules

pub loop-yes-preserved-then-of-eq1-2 : goal.loop-yes-preserved-then-of-eq1-2
loop-yes-preserved-then-of-eq1-2 c = search compared_rules

pub loop-yes-preserved : goal.loop-yes-preserved
loop-yes-preserved c = search table_rules
