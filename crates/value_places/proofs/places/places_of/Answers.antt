use mathlib.Core.Path.{refl}
use Rattle.tables.specs.PlaceLaws.{end_whole, base_whole}
use Rattle.value_places.proofs.Ends.{ends_turn, ends_fill, ends_base}
use Rattle.value_places.proofs.Filling.{from_rules, fill_whole, from_end, from_some}
use Rattle.value_places.proofs.places.places_of.Goals as goal

pub fill-e-requires : goal.fill-e-requires
fill-e-requires c = let l = c.loop-pair.invariant in
    let b = c.put_base.ensures in record { ends_from = search from_rules; standing = search from_rules; places_left = (search from_rules, base_whole _ _ _ _ b l.0) }

pub loop-pair-preserved : goal.loop-pair-preserved
loop-pair-preserved c = let l = c.loop-pair.invariant in
    let g = c.args.units.target in
    let k = c.loop-pair.auto.pair in
    let h = c.loop-pair-test.true in
    let n = c.count_at-n.ensures in
    let b = c.put_base.ensures in
    let f = c.fill-e.ensures in
    let p = c.put_end-else-n-eq0.ensures in
    let q = ends_fill _ _ _ _ _ _ _ f.1 (ends_base _ _ _ _ _ _ b l.1) in
    let v = fill_whole _ _ _ _ _ _ f.1 (base_whole _ _ _ _ b l.0) in (
      end_whole _ _ _ _ p v,
      ends_turn _ _ g k h _ n _ f.0 _ _ p q v,
      from_end _ _ _ _ _ _ _ p (from_some _ _ _ _ g k h n l.3 _ _ _ b f.1 _ refl l.0 l.2),
      search from_rules,
    )

pub loop-pair-preserved-then-n-eq0 : goal.loop-pair-preserved-then-n-eq0
loop-pair-preserved-then-n-eq0 c = (search from_rules, search from_rules, search from_rules, search from_rules)
