-- A pen of the code: its page, what its last token asks, and what it writes.
use Rattle.std.specs.Prelude.{ℕ, ◌≡◌, List}
use Rattle.notation_print.specs.Pages.{Page, page, letters}
use Rattle.notation_print.specs.Inks.{Sheet, sheet}
use Rattle.notation_print.specs.Kinds.{asked}
use Rattle.notation_print.specs.declared.Pen.{Pen}

abbrev pub page_of : Pen → Page
page_of pen = page pen.page.now pen.at

abbrev pub sheet_of : Pen → Sheet
sheet_of pen = sheet pen.page.now pen.at (asked pen.last)

-- The pen stays on its lent page.
abbrev pub Stays : (old new : Pen) → Type 0
Stays old new = new.page.ghost_name ≡ old.page.ghost_name

-- Characters are written, and what the last token asks stands.
abbrev pub Writes : (old new : Pen) → List ℕ → Type 0
Writes old new cs = Stays old new × (new.last ≡ old.last) × (page_of new ≡ letters (page_of old) cs)
