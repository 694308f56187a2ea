-- Document 01, section 7: two results that the definitions allow agree. (That the contracts of the code leave nothing open either stands in the crate contracts.)
use Rattle.std.specs.Prelude.{ℕ, ◌≡◌, List, ℤ}
use Rattle.std.proofs.Common.{sym, ◌∙◌}
use Rattle.rules.specs.Services.{Matched, match_with, Reviewed, review}

-- ---- Determined: two results that a contract allows agree in every number and every word of the room.

pub match_determined : (form : ℕ) (ms ps ts : List ℤ) (budget : ℕ) (room : List ℤ) (x y : Matched)
    → x ≡ match_with form ms ps ts budget room → y ≡ match_with form ms ps ts budget room → x ≡ y
match_determined form ms ps ts budget room x y p q = p ∙ sym q

pub review_determined : (ms ps : List ℤ) (cap : ℤ) (x y : Reviewed) → x ≡ review ms ps cap → y ≡ review ms ps cap → x ≡ y
review_determined ms ps cap x y p q = p ∙ sym q
