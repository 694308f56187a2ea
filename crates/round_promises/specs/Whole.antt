-- The whole search by rounds of a rule on a target, and match in this order.
use Rattle.std.specs.Prelude.{ℕ, ◌*◌, ◌/◌, ◌≤◌, ◌<◌, min, ◌≡◌, ◌⊎◌, ◌↔◌, Bool, true, T, leb}
use Rattle.std.proofs.Common.{arith, div-lt_iff_lt-mul, ◌∙◌, inl, inr, ⊎_elim, leb→le, le→leb}
use Rattle.std.proofs.Math.Path.{refl, ap}
use Rattle.std.proofs.Math.Bool.{false}
use mathlib.Core.List.Memᴰ
use mathlib.Core.List.{List, [], ◌∷◌}
use Rattle.std.proofs.Math.ListN.{length}
use Rattle.rules.specs.Dialects.{Dialect}
use Rattle.rules.specs.Forms.{Matcher, Pattern, never, Value, size}
use Rattle.rules.specs.Origins.{Valueᵒ, Bindings}
use Rattle.rules.specs.Search.{Atom, state, drop_if, after_in, start}
use Rattle.rules.specs.Ways.{Way, Follows}
use Rattle.rules.specs.Following.{Solution, no_solution, solve}
use Rattle.rules.specs.Services.{Rule}
use Rattle.forms.specs.Lists.{Mem}
use Rattle.promises.specs.Twin.{sound, complete}
use Rattle.promises.specs.Trace.{Taken, trace}
use Rattle.promises.proofs.Nots.{inner}
use Rattle.round_rules.specs.Rounds.{Branch, branch, spent, left, inside, limit_of, states_in}
use Rattle.round_promises.specs.Told.{not_short, not_whole}
use Rattle.round_promises.specs.Order.{order}

-- ---- What follows from a not.

-- The states of the search inside it.
unfoldable pub search_of : (dialect : Dialect) → Pattern → Matcher → Valueᵒ → Bindings → List Taken
unfolding trace
search_of dialect p m v e = trace dialect (inner dialect p m v e ∷ [])

module _ (dialect : Dialect) (p : Pattern) (m : Matcher) (v : Valueᵒ) (older : List Atom) (e : Bindings) where
  pub short_of : (n : ℕ) → n < length (search_of dialect p m v e) → inside dialect n (after_in dialect (never p) m v older e) ≡ spent
  unfolding search_of
  short_of n h = not_short dialect p m v older e n h

  pub none_follows : (w : Way) (d : Bindings) → Follows dialect p m v e w d → (n : ℕ) → length (search_of dialect p m v e) ≤ n
      → inside dialect n (after_in dialect (never p) m v older e) ≡ left (length (search_of dialect p m v e)) []
  unfolding search_of drop_if no_solution
  none_follows w d f n h = not_whole dialect p m v older e n h ∙ ap (left (length (search_of dialect p m v e))) (go (solve dialect p m v e) (complete dialect p m v e w d f))
    where
      go : (ss : List Solution) → Mem (record { way = w; bound = d }) ss → drop_if (no_solution ss) older e ≡ []
      go [] i = absurd (Memᴰ.not-nil i)
      go (s ∷ ss) i = refl

  pub one_follows : ((w : Way) (d : Bindings) → Follows dialect p m v e w d → ⊥) → (n : ℕ) → length (search_of dialect p m v e) ≤ n
      → inside dialect n (after_in dialect (never p) m v older e) ≡ left (length (search_of dialect p m v e)) (state false older e ∷ [])
  unfolding search_of drop_if no_solution
  one_follows f n h = not_whole dialect p m v older e n h
      ∙ ap (left (length (search_of dialect p m v e))) (go (solve dialect p m v e) (λ s i. f s.way s.bound (sound dialect p m v e s i)))
    where
      go : (ss : List Solution) → ((s : Solution) → Mem s ss → ⊥) → drop_if (no_solution ss) older e ≡ state false older e ∷ []
      go [] f = refl
      go (s ∷ ss) f = absurd (f s (Memᴰ.head refl))

-- ---- The limit.

pub limit_over : (table w : ℕ) → limit_of table < w ↔ (256 < w) ⊎ (table < w)
unfolding limit_of
limit_over table w = (to, λ h. ⊎_elim (λ a. omega arith) (λ b. omega arith) h)
  where
    go : (b : Bool) → (T b → 256 ≤ table) → (256 ≤ table → T b) → min 256 table < w → (256 < w) ⊎ (table < w)
    go true f g h = inl (omega (arith, f tt))
    go false f g h = inr (omega (arith, g))

    to : min 256 table < w → (256 < w) ⊎ (table < w)
    to h = go (leb 256 table) (leb→le 256 table) (le→leb 256 table) h

-- A table of so many words, at a size of a state.
pub table_over : (size words w : ℕ) → 0 < size → limit_of (states_in size words) < w ↔ (256 < w) ⊎ (words < w * size)
unfolding states_in
table_over size words w z =
    let d = div-lt_iff_lt-mul {x = words} {y = w} z in
    let l = limit_over (words / size) w in
    ((λ h. ⊎_elim (λ a. inl a) (λ b. inr (d.0 b)) (l.0 h)), λ h. l.1 (⊎_elim (λ a. inl a) (λ b. inr (d.1 b)) h))

-- ---- The rounds of a rule on a target: they begin with one list of one state.

unfoldable pub beginning : Rule → Value → List Branch
unfolding branch start
beginning r v = branch (start r.matcher r.pattern v ∷ [])

-- All states in the order of the rounds.
unfoldable pub in_rounds : (dialect : Dialect) → Rule → Value → List Taken
unfolding order beginning
in_rounds dialect r v = order dialect (beginning r v)
