-- `search::narrowing::narrow` meets its contract: the lower half, and then the upper.
use Rattle.tables.specs.Line.{columns_of}
use Rattle.search.proofs.Narrows.{narrow_every, narrow_empty, narrow_both, some_marks, opened_lower, opened_upper}
use Rattle.search.proofs.narrowing.narrow.Goals as goal

pub returns-then-not-terms : goal.returns-then-not-terms
returns-then-not-terms c = narrow_every _ _ _ _ _ _ c.if-not-terms.true

pub returns-then-m-eq0 : goal.returns-then-m-eq0
returns-then-m-eq0 c = narrow_empty _ _ _ _ _ _ c.if-not-terms.false c.if-m-eq0.true

pub narrow_above-requires : goal.narrow_above-requires
narrow_above-requires c = let p = some_marks _ c.if-m-eq0.false in record { given = c.requires.given; above = opened_lower _ (columns_of c.args.lines.now).mat _ _ c.requires.given.target _ _ p (c.requires.opened p); fresh = c.requires.fresh }

pub narrow_above-requires-2 : goal.narrow_above-requires-2
narrow_above-requires-2 c = let p = some_marks _ c.if-m-eq0.false in record { given = c.requires.given; above = opened_upper _ (columns_of c.args.lines.now).mat _ _ c.requires.given.target _ _ p (c.requires.opened p) _ c.narrow_above.ensures; fresh = c.requires.fresh }

pub returns : goal.returns
returns c = let p = some_marks _ c.if-m-eq0.false in
    narrow_both _ c.if-not-terms.false _ (columns_of c.args.lines.now).mat _ _ c.requires.given.target _ _ p (c.requires.opened p) _ c.narrow_above.ensures _ c.narrow_above-2.ensures
