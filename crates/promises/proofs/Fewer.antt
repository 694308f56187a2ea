-- Laws of what specs/Fewer.antt defines.
use mathlib.Core.List.{List}
use Rattle.promises.specs.Trace.{Met, inside}
use Rattle.promises.specs.Fewer.{Fewer, end, none, skip, stay}

pub fewer_inside : {xs ys us vs : List Met} → Fewer xs ys → Fewer us vs → Fewer (inside xs us) (inside ys vs)
unfolding inside
fewer_inside none g = g
fewer_inside (stay f) g = stay (fewer_inside f g)
fewer_inside (skip f) g = skip (fewer_inside f g)
fewer_inside end g = stay none
