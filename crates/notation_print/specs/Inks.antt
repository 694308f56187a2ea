-- Tokens as numbers, their characters, and what they ask of one another.
use Rattle.std.specs.Prelude.{ℕ, ◌+◌, ◌%◌, Bool, true, false, cond, List, [], ◌∷◌, ◌++◌, get_or, eqb}
use Rattle.notation_rules.specs.Letters.{decimal}
use Rattle.notation_print.specs.Pages.{Page, page, letter, letters}

-- The marks in the order of their codes, then `:: ++ & |`; `something` without its last letter.
abbrev pub marks : List (List ℕ)
marks = (95 ∷ []) ∷ (35 ∷ []) ∷ (33 ∷ []) ∷ (43 ∷ []) ∷ (45 ∷ []) ∷ (44 ∷ []) ∷ (40 ∷ []) ∷ (41 ∷ []) ∷ (91 ∷ []) ∷ (93 ∷ [])
    ∷ (115 ∷ 111 ∷ 109 ∷ 101 ∷ 116 ∷ 104 ∷ 105 ∷ 110 ∷ []) ∷ (105 ∷ 110 ∷ 116 ∷ 101 ∷ 103 ∷ 101 ∷ 114 ∷ []) ∷ (108 ∷ 105 ∷ 115 ∷ 116 ∷ [])
    ∷ (109 ∷ 117 ∷ 108 ∷ 116 ∷ 105 ∷ 115 ∷ 101 ∷ 116 ∷ []) ∷ (109 ∷ 97 ∷ 116 ∷ 99 ∷ 104 ∷ 65 ∷ 108 ∷ 108 ∷ []) ∷ (97 ∷ 115 ∷ []) ∷ (119 ∷ 105 ∷ 116 ∷ 104 ∷ [])
    ∷ (58 ∷ 58 ∷ []) ∷ (43 ∷ 43 ∷ []) ∷ (38 ∷ []) ∷ (124 ∷ []) ∷ []

unfoldable pub mark_of : ℕ → List ℕ
mark_of k = get_or marks (k % 21) []

unfoldable pub name_of : ℕ → ℕ
name_of v = 97 + (v % 26 + 23) % 26

unfoldable pub spelt : (kind value : ℕ) → List ℕ
unfolding decimal name_of mark_of
spelt kind value = cond (eqb kind 23) (decimal value [])
    (cond (eqb kind 22) (name_of value ∷ [])
    (cond (eqb kind 21) (36 ∷ name_of value ∷ [])
    (cond (eqb kind 10) (mark_of kind ++ (103 ∷ []))
    (mark_of kind))))

-- 0: the next token stands at once; 1: with a space; 2: with a space, and a name was last; 3: with a space but for a number. No space before `, ) ]`.
unfoldable pub joins : (last kind : ℕ) → Bool
joins last kind = cond (eqb last 0) true (cond (eqb kind 5) true (cond (eqb kind 7) true (cond (eqb kind 9) true (cond (eqb last 3) (eqb kind 23) false))))

unfoldable pub after : (last kind : ℕ) → ℕ
after last kind = cond (eqb kind 1) 0 (cond (eqb kind 2) 0 (cond (eqb kind 6) 0 (cond (eqb kind 8) 0 (cond (eqb kind 22) 2 (cond (eqb kind 4) (cond (eqb last 2) 1 3) 1)))))

unfoldable pub spaced_on : Page → (last kind : ℕ) → Page
unfolding joins letter
spaced_on p last kind = cond (joins last kind) p (letter p 32)

-- A page, and what its last token asks.
pub record Sheet : Type 0 where
  pub on : Page
  pub last : ℕ

unfoldable pub sheet : List ℕ → (at last : ℕ) → Sheet
unfolding page
sheet bs i l = record { on = page bs i; last = l }

unfoldable pub draw : Sheet → (kind value : ℕ) → Sheet
unfolding spaced_on letters spelt after
draw s kind value = record { on = letters (spaced_on s.on s.last kind) (spelt kind value); last = after s.last kind }
