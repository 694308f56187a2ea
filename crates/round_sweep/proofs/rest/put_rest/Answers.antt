use Rattle.round_sweep.proofs.Rests.{rest_none, rest_listed, rest_some}
use Rattle.round_sweep.proofs.rest.put_rest.Goals as goal

pub returns-then-one-eq0 : goal.returns-then-one-eq0
returns-then-one-eq0 c = rest_none c.requires.rests _ c.entry_at-one.ensures.value c.if-one-eq0.true

pub remain-b-requires : goal.remain-b-requires
remain-b-requires c = record { given = c.requires.given; listed = rest_listed c.requires.rests _ c.entry_at-one.ensures.value c.if-one-eq0.false }

pub returns : goal.returns
returns c = rest_some c.requires.rests _ c.entry_at-one.ensures.value c.if-one-eq0.false _ _ _ c.remain-b.ensures
