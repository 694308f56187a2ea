-- What the code's answer stands for.
use Rattle.room_rules.specs.Rooms as paper
use Rattle.service_room.specs.declared.Roomed.{Roomed}

unfoldable pub roomed : Roomed → paper.Roomed
roomed r = record { answer = r.answer; place = r.place; words = r.words }
