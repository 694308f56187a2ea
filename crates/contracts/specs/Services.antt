-- The contracts of the two services leave nothing open: two results of the code's own type that they allow are the same, and so is the room.
use Rattle.std.specs.Prelude.{◌≡◌, refl, List, ℕ, ℤ}
use Rattle.std.proofs.Common.{sym, ◌∙◌, ap}
use Rattle.rules.specs.Services as paper
use Rattle.services.specs.Matches.{told}
use Rattle.services.specs.Reviews.{reviewed}
use Rattle.services.specs.declared.matching.Matched.{Matched}
use Rattle.services.specs.declared.review.Reviewed.{Reviewed}

untold : paper.Matched → Matched
untold x = record { answer = x.answer; place = x.place; rows = x.rows; steps = x.steps; words = x.words; cause = x.cause }

pub told_once : (r q : Matched) (x y : List ℤ) (m : paper.Matched) → told r x ≡ m → told q y ≡ m → (r ≡ q) × (x ≡ y)
unfolding told untold
told_once r q x y m e f = (ap untold (e ∙ sym f), ap (λ (z : paper.Matched). z.room) (e ∙ sym f))

unreviewed : paper.Reviewed → ℕ → Reviewed
unreviewed x n = record { answer = x.answer; place = x.place; count = x.count; rows = n }

pub reviewed_once : (r q : Reviewed) (m : paper.Reviewed) (n : ℕ) → reviewed r ≡ m → r.rows ≡ n → reviewed q ≡ m → q.rows ≡ n → r ≡ q
unfolding reviewed unreviewed
reviewed_once r q m n e g f h = ap (λ (x : paper.Reviewed). unreviewed x r.rows) (e ∙ sym f) ∙ ap (unreviewed (reviewed q)) (g ∙ sym h)
