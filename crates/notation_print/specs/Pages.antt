-- A page: lent bytes, and where the next character goes. A full page takes no more.
use Rattle.std.specs.Prelude.{ℕ, ◌+◌, cond, List, [], ◌∷◌, length, set, ltb}

pub record Page : Type 0 where
  pub bytes : List ℕ
  pub at : ℕ

unfoldable pub page : List ℕ → ℕ → Page
page bs i = record { bytes = bs; at = i }

unfoldable pub letter : Page → ℕ → Page
unfolding page
letter p c = cond (ltb p.at (length p.bytes)) (page (set p.bytes p.at c) (p.at + 1)) p

unfoldable pub letters : Page → List ℕ → Page
unfolding letter
letters p [] = p
letters p (c ∷ cs) = letters (letter p c) cs
