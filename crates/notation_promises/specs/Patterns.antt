-- The words of a pattern are walked as the pattern is written.
use Prim.Native.Nat.{ℕ, ◌+◌}
use Rattle.std.specs.Prelude.{◌≡◌, ℤ}
use Rattle.std.proofs.Math.Path.{refl, ap}
use mathlib.Core.List.{List, [], ◌∷◌, ◌++◌}
use Rattle.std.proofs.Math.ListN.{length}
use Rattle.notation_rules.specs.Tokens.{Token}
use Rattle.notation_write.specs.Written.{Ink, written}
use Rattle.notation_promises.specs.Printed.{inks_of}

-- What stands at an index is walked: it ends behind its words, and its tokens are those that are written in front of what follows.
unfoldable pub Writes : (ws : List ℤ) (d at what : ℕ) → List ℤ → (List Token → List Token) → Type 0
Writes ws d at what us w = (written ws d at what).end ≡ at + length us × ((ts : List Token) → (written ws d at what).inks ++ inks_of ts ≡ inks_of (w ts))

-- ---- Lists side by side.
flat_last : (g b t : List Ink) → ((g ++ []) ++ b) ++ t ≡ g ++ (b ++ t)
flat_last [] b t = refl
flat_last (i ∷ g) b t = ap (λ x. i ∷ x) (flat_last g b t)

flat_sign : (s g b t : List Ink) → ((s ++ (g ++ [])) ++ b) ++ t ≡ s ++ (g ++ (b ++ t))
flat_sign [] g b t = flat_last g b t
flat_sign (i ∷ s) g b t = ap (λ x. i ∷ x) (flat_sign s g b t)

flat_first : (f s g b t : List Ink) → ((f ++ (s ++ (g ++ []))) ++ b) ++ t ≡ f ++ (s ++ (g ++ (b ++ t)))
flat_first [] s g b t = flat_sign s g b t
flat_first (i ∷ f) s g b t = ap (λ x. i ∷ x) (flat_first f s g b t)

pub flat_pair : (a f s g b t : List Ink) → ((a ++ []) ++ ((f ++ (s ++ (g ++ []))) ++ b)) ++ t ≡ a ++ (f ++ (s ++ (g ++ (b ++ t))))
flat_pair [] f s g b t = flat_first f s g b t
flat_pair (i ∷ a) f s g b t = ap (λ x. i ∷ x) (flat_pair a f s g b t)

pub flat_word : (a w f b t : List Ink) → ((a ++ (w ++ [])) ++ ((f ++ []) ++ b)) ++ t ≡ a ++ (w ++ (f ++ (b ++ t)))
flat_word [] [] f b t = flat_last f b t
flat_word [] (i ∷ w) f b t = ap (λ x. i ∷ x) (flat_word [] w f b t)
flat_word (i ∷ a) w f b t = ap (λ x. i ∷ x) (flat_word a w f b t)

pub flat_many : (w k c t : List Ink) → ((w ++ []) ++ (k ++ (c ++ []))) ++ t ≡ w ++ (k ++ (c ++ t))
flat_many [] [] [] t = refl
flat_many [] [] (i ∷ c) t = ap (λ x. i ∷ x) (flat_many [] [] c t)
flat_many [] (i ∷ k) c t = ap (λ x. i ∷ x) (flat_many [] k c t)
flat_many (i ∷ w) k c t = ap (λ x. i ∷ x) (flat_many w k c t)

pub no_more : (is : List Ink) → is ≡ is ++ []
no_more [] = refl
no_more (i ∷ is) = ap (λ x. i ∷ x) (no_more is)
