-- The measure is the number.
use Rattle.text_print.proofs.print.Laws.{decimal_rules}
use Rattle.text_print.proofs.print.+put_decimal.Goals as goal

pub bounds-out-at : goal.bounds-out-at
bounds-out-at t c = search decimal_rules

pub returns-then-n-lt10 : goal.returns-then-n-lt10
returns-then-n-lt10 t c = search decimal_rules

pub put_decimal-e-requires : goal.put_decimal-e-requires
put_decimal-e-requires t c = search decimal_rules

pub bounds-out-e : goal.bounds-out-e
bounds-out-e t c = search decimal_rules

pub overflow_add-result-2 : goal.overflow_add-result-2
overflow_add-result-2 t c = search decimal_rules

pub returns : goal.returns
returns t c = search decimal_rules
