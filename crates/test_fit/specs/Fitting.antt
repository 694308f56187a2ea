-- Test 4 as a walk over a pattern's words.
use Rattle.std.specs.Prelude.{ℕ, zero, suc, ◌+◌, Bool, true, false, not, ◌&&◌, ◌||◌, cond, List, [], ◌∷◌, ◌++◌, length, get_or, set, leb, eqb, ℤ, pos, negsuc, Result, Ok, Err, Some, None}
use Rattle.std.specs.Prelude as code
use Rattle.std.proofs.Math.Option.{Option, none, some}
use Rattle.rules.specs.Numbers.{same}
use Rattle.rules.specs.Reading.{entry}
use Rattle.words.specs.Words.{tag_z, tag_at}
use Rattle.matchers.specs.Places.{matcher_end}
use Rattle.test_fit.specs.Shapes.{width_fits, shapes}
use Rattle.test_forms.specs.Table.{row_of}
use Rattle.test_forms.specs.declared.table.Row.{Row}
use Rattle.test_forms.specs.declared.table.Row.TheVariants as row
use Rattle.test_fit.specs.declared.Here.{Here}
use Rattle.test_fit.specs.declared.Here.TheVariants.{Leaf, Bind, One, Parts, Wide}

-- n matchers, one after the other, the first at the index i of a matcher's words.
unfoldable pub members_at : List ℤ → (n i : ℕ) → List ℕ
unfolding matcher_end
members_at m zero i = []
members_at m (suc n) i = i ∷ members_at m n (matcher_end m i)

-- The matcher i has the shape of the variable's.
unfoldable pub shapes_with : List ℤ → ℕ → Option ℕ → Bool
unfolding shapes
shapes_with m i none = false
shapes_with m i (some j) = shapes m i j

-- A value of variable v, plus c, under the matcher i: the variables to the left stand under the matchers `under`.
unfoldable pub value_fits : List ℤ → ℕ → List ℕ → ℤ → ℤ → Bool
unfolding shapes_with entry tag_at same
value_fits m i under v c = shapes_with m i (entry under v) && (eqb (tag_at m i) 1 || same c (pos 0))

-- The same of the operands' tags.
unfoldable pub value_fits_tag : List ℤ → ℕ → List ℕ → ℕ → ℕ → Bool
unfolding shapes tag_at
value_fits_tag m i under v c =
    cond (leb (length under) v) false (cond (shapes m i (get_or under v 0)) (cond (eqb (tag_at m i) 1) true (eqb c 0)) false)

-- The matcher that the first part of the tag t stands under.
unfoldable pub first_of : ℕ → ℕ → ℕ
first_of t i = cond (eqb t 5) (i + 1) i

-- What a tag asks that has so many parts.
unfoldable pub by_parts : (parts o first : ℕ) → Here
by_parts zero o first = Leaf o
by_parts (suc zero) o first = One
by_parts (suc (suc n)) o first = Parts first

-- What a tuple of n parts asks under the matcher i.
unfoldable pub tuple_at : List ℤ → (i n : ℕ) → code.Option Here
unfolding width_fits tag_at
tuple_at m i n = cond (width_fits (tag_at m (i + 1)) n) (Some (Wide (i + 2) n)) None

-- What the tag t asks under the matcher i, by its row of the table; v and c are the words after it.
unfoldable pub asked : List ℤ → ℕ → List ℕ → (t : ℕ) → (v c : ℤ) → code.Option Row → code.Option Here
unfolding value_fits by_parts first_of tuple_at
asked m i under t v c None = None
asked m i under t v c (Some (row.Known o b f)) =
    cond (f && cond (eqb t 3) (value_fits m i under v c) true) (Some (cond (eqb t 1) (Bind o) (by_parts b o (first_of t i)))) None
asked m i under t v c (Some (row.Wide f)) = cond f (tuple_at m i (tag_z v)) None

unfoldable pub here_of : List ℤ → ℕ → List ℕ → ℕ → ℤ → ℤ → code.Option Here
unfolding asked row_of tag_at
here_of m i under t v c = asked m i under t v c (row_of (tag_at m i) t)

unfoldable pub here_at : List ℤ → ℕ → List ℤ → ℕ → List ℕ → code.Option Here
unfolding here_of tag_at
here_at m i p at under = here_of m i under (tag_at p at) (get_or p (at + 1) (negsuc 0)) (get_or p (at + 2) (negsuc 0))

-- "In dialect 2 a cons under a multiset whose element matcher has something in it is 4": under the matcher i its elements can be told apart.
unfoldable pub apart_at : List ℤ → ℕ → Bool
unfolding shapes tag_at
apart_at m i = cond (eqb (tag_at m i) 3) (shapes m (i + 1) (i + 1)) true

-- The tag t is a cons that the dialect does not take under the matcher i. `firsts`: dialect 2.
unfoldable pub unlike : Bool → List ℤ → (i t : ℕ) → Bool
unfolding apart_at
unlike firsts m i t = eqb t 5 && firsts && not (apart_at m i)

unfoldable pub here_in : Bool → List ℤ → ℕ → List ℕ → ℕ → ℤ → ℤ → code.Option Here
unfolding unlike here_of
here_in firsts m i under t v c = cond (unlike firsts m i t) None (here_of m i under t v c)

unfoldable pub here_in_at : Bool → List ℤ → ℕ → List ℤ → ℕ → List ℕ → code.Option Here
unfolding here_in tag_at
here_in_at firsts m i p at under = here_in firsts m i under (tag_at p at) (get_or p (at + 1) (negsuc 0)) (get_or p (at + 2) (negsuc 0))

-- By what a tag asks.
unfoldable pub by_here : {A : Type 0} → code.Option Here → A → (ℕ → A) → (ℕ → A) → A → (ℕ → A) → (ℕ → ℕ → A) → A
by_here None z leaf bind one parts tuple = z
by_here (Some (Leaf o)) z leaf bind one parts tuple = leaf o
by_here (Some (Bind o)) z leaf bind one parts tuple = bind o
by_here (Some One) z leaf bind one parts tuple = one
by_here (Some (Parts f)) z leaf bind one parts tuple = parts f
by_here (Some (Wide f n)) z leaf bind one parts tuple = tuple f n

-- The words that start at place p, after o operands: the patterns still to come stand under the matchers st, first first, and the variables to the
-- left under the matchers `under`.
unfoldable pub fit_p : (firsts : Bool) → List ℤ → (st under : List ℕ) → (o p : ℕ) → List ℤ → Result (Unit {0}) ℕ
unfolding by_here here_in members_at
fit_p firsts m st under o p [] = Ok tt
fit_p firsts m st under (suc o) p (w ∷ ws) = fit_p firsts m st under o (suc p) ws
fit_p firsts m [] under zero p (w ∷ ws) = Err p
fit_p firsts m (i ∷ st) under zero p (w ∷ ws) =
    by_here (here_in firsts m i under (tag_z w) (get_or ws 0 (negsuc 0)) (get_or ws 1 (negsuc 0)))
    (Err p)
    (λ o. fit_p firsts m st under o (suc p) ws)
    (λ o. fit_p firsts m st (under ++ (i ∷ [])) o (suc p) ws)
    (fit_p firsts m (i ∷ st) under 0 (suc p) ws)
    (λ f. fit_p firsts m (f ∷ i ∷ st) under 0 (suc p) ws)
    (λ f n. fit_p firsts m (members_at m n f ++ st) under 1 (suc p) ws)

unfoldable pub fit_of : (firsts : Bool) → List ℤ → List ℤ → Result (Unit {0}) ℕ
unfolding fit_p
fit_of firsts m p = cond (leb (length p) 256) (fit_p firsts m (0 ∷ []) [] 0 0 p) (Err 256)

-- k matchers, one after the other, the first at the index i, stored above n others, the first on top.
unfoldable pub pushed : List ℤ → List ℕ → (n k i : ℕ) → List ℕ
unfolding matcher_end
pushed m a n zero i = a
pushed m a n (suc k) i = pushed m (set a (n + k) i) n k (matcher_end m i)
