-- Document 02, No. 12: review's figure never exceeds the old one, and it is exact for a chain on as many equal integers as the cap says, with it as budget
-- and room enough. (An integer of a target is in the signed 32-bit range.)
use Rattle.std.specs.Prelude.{ℕ, ◌*◌, ◌≤◌, ◌≡◌, true, List, length, ℤ, pos}
use Rattle.rules.specs.Numbers.{in_range}
use Rattle.rules.specs.Forms.{Matcher, integer, multiset, Pattern, words}
use Rattle.rules.specs.Review.{factor, formula}
use Rattle.rules.specs.Services.{accepted, Rule, rule_of, match_in, review}
use Rattle.rules.specs.Rows.{Form}
use Rattle.forms.specs.Written.{variable_tags}
use Rattle.promises.specs.OldFigure.{old_formula}
use Rattle.promises.proofs.OldFigure.{figure_less}
use Rattle.promises.specs.Exact.{Chain}
use Rattle.promises.specs.Room.{widest}
use Rattle.promises.proofs.Reaching.{equals, reached_with_room}

pub never_above_the_old : (cap : ℕ) (p : Pattern) (m : Matcher) → formula cap p m ≤ old_formula cap p m
never_above_the_old = figure_less

pub exact : (form : Form) (ms ps : List ℤ) (r : Rule) → rule_of ms ps ≡ accepted r → r.matcher ≡ multiset integer → Chain r.pattern
    → (cap : ℕ) → (review ms ps (pos cap)).answer ≡ 0 → (x : ℤ) → in_range x ≡ true → (room : List ℤ)
    → factor cap 0 r.pattern r.matcher * variable_tags r.pattern * widest form (length (words (equals x cap))) ≤ length room
    → let it = match_in form ms ps (words (equals x cap)) (review ms ps (pos cap)).count room in
    (it.answer ≡ 0) × (it.steps ≡ (review ms ps (pos cap)).count)
exact = reached_with_room
