-- What `notation_write::write_rule` puts on a page is the text of the rule (Main in proofs/), and that text is read back as the rule.
use Rattle.std.specs.Prelude.{ℕ, suc, ◌+◌, ◌≤◌, ◌≡◌, true, cond, T, length, drop, set, ℤ}
use Rattle.std.proofs.Common.{arith, ◌∙◌, lt-ltb, length-set}
use Rattle.std.proofs.Math.Path.{ap}
use Rattle.std.proofs.Math.Option.{Option, none, some}
use mathlib.Core.List.{List, [], ◌∷◌, ◌++◌}
use Rattle.std.proofs.lemmas.List.Edits.{sets, sets-eq}
use Rattle.rules.specs.Forms.{Value, words}
use Rattle.forms.specs.Written.{deepest, largest}
use Rattle.notation_rules.specs.Places.{good}
use Rattle.notation_rules.specs.Rules.{Rule, write_text, read_text}
use Rattle.notation_rules.proofs.RulesBack as R
use Rattle.notation_print.specs.Pages.{page, letter, letters}

-- The words of the units, and none where there are no units; and the limits of the words.
unfoldable pub units_words : Option Value → List ℤ
units_words none = []
units_words (some v) = words v

unfoldable pub Limited : Option Value → Type 0
Limited none = T true
Limited (some v) = largest v ≤ 64 × deepest v ≤ 8

letters_fit : (l : List ℕ) (i : ℕ) (cs : List ℕ) → i + length cs ≤ length l → letters (page l i) cs ≡ page (sets l i cs) (i + length cs)
unfolding letters letter page
letters_fit l i [] h = let e : i ≡ i + 0 = omega arith in ap (page l) e
letters_fit l i (c ∷ cs) h =
    let k = length-set l i c in
    let e : i + 1 + length cs ≡ i + suc (length cs) = omega arith in
    let s : i + 1 ≡ suc i = omega arith in
    ap (λ b. letters (cond b (page (set l i c) (i + 1)) (page l i)) cs) (lt-ltb i (length l) (omega arith))
    ∙ letters_fit (set l i c) (i + 1) cs (omega arith) ∙ ap (λ n. page (sets (set l i c) n cs) (i + 1 + length cs)) s ∙ ap (page (sets (set l i c) (suc i) cs)) e

-- Where the page is long enough, it holds the text, and behind it what it held.
pub page_holds : (out : List ℕ) (r : Rule) → length (write_text r) ≤ length out
    → letters (page out 0) (write_text r) ≡ page (write_text r ++ drop (length (write_text r)) out) (length (write_text r))
page_holds out r h =
    let n : ℕ = length (write_text r) in
    let e : 0 + n ≡ n = omega arith in
    letters_fit out 0 (write_text r) (omega arith)
    ∙ ap (λ k. page (sets out 0 (write_text r)) k) e
    ∙ ap (λ l. page l n) (sets-eq (write_text r) out 0 (omega arith) ∙ ap (λ k. write_text r ++ drop k out) e)

-- And that text is read as the rule.
pub read_back : (r : Rule) → R.Fine r → read_text (write_text r) ≡ good r
read_back = R.rule_back
