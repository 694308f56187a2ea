use Rattle.std.proofs.Common.{◌≡◌, ◌+◌, drop}
use Rattle.value_places.specs.Held.{put}
use Rattle.value_rows.proofs.put_words.Given as goal

abbrev pub invariant-loop-i : goal.invariant-loop-i
invariant-loop-i l = put l.initial.room l.from l.words ≡ put l.room (l.from + l.i) (drop l.i l.words)
