-- Laws of what specs/Runs.antt defines.
use Prim.Native.Nat.{ℕ, zero, suc, ◌+◌, ◌-◌, ◌≤◌, ◌<◌, zero-le, suc-le-suc}
use Rattle.std.proofs.Common.{not-suc-le-zero, le_of_suc-le-suc, ◌∙◌, inl, inr, leb→le, le→leb}
use native.Mathlib.Omega.{arith}
use Rattle.std.specs.Prelude.{◌≡◌, ◌⊎◌, Bool, leb}
use Rattle.std.proofs.Math.Path.{refl, sym, ap}
use Rattle.std.proofs.Math.Bool.{true, false}
use mathlib.Core.List.{List, [], ◌∷◌, ◌++◌}
use Rattle.std.proofs.Math.ListN.{length, length-append}
use Rattle.std.proofs.Math.Dec.{T}
use Rattle.rules.specs.Dialects.{Dialect}
use Rattle.rules.specs.Rows.{Form}
use Rattle.rules.specs.Search.{Run, stopped}
use Rattle.promises.specs.Trace.{Taken, walk}
use Rattle.promises.specs.Solve.{no_cons}
use Rattle.promises.specs.Budget.{rows_of, report}
use Rattle.promises.proofs.Budget.{rows_append}
use Rattle.round_rules.specs.Rounds.{Branch, states, waiting}
use Rattle.round_promises.specs.Listed.{round, onward, through, by_lists}
use Rattle.round_promises.specs.Order.{later, first_rounds, none_later, none_taken}
use Rattle.round_promises.proofs.Order.{round_some}
use Rattle.round_promises.specs.Passage.{behind, Passage, stops, passes, passage, walk_through, behind_report}
use Rattle.round_promises.specs.Runs.{ByRounds, Overfull, table, walks}

-- The runs in one dialect and one form.
module _ (dialect : Dialect) (form : Form) where
  -- ---- No state waits.

  none_wait : (limit n free : ℕ) → Overfull dialect form limit n free [] → ⊥
  unfolding waiting states
  none_wait limit n free o = let e = ap waiting (none_later dialect o.rounds) in omega (arith, o.over)

  -- ---- One round that may begin, and what comes after it.

  module _ (limit n free : ℕ) (b : Branch) (bs : List Branch) (fits : waiting (b ∷ bs) ≤ limit) where
    abbrev now : List Branch
    now = b ∷ bs

    longer : (k : ℕ) → length (first_rounds dialect (suc k) now) ≡ length (round dialect now) + length (first_rounds dialect k (onward dialect now))
    unfolding first_rounds
    longer k = length-append (round dialect now) (first_rounds dialect k (onward dialect now))

    more : (k : ℕ) → length (rows_of form (first_rounds dialect (suc k) now)) ≡ length (rows_of form (round dialect now)) + length (rows_of form (first_rounds dialect k (onward dialect now)))
    unfolding first_rounds
    more k = ap length (rows_append form (round dialect now) (first_rounds dialect k (onward dialect now))) ∙ length-append (rows_of form (round dialect now)) (rows_of form (first_rounds dialect k (onward dialect now)))

    -- Where the budget or the room stops it among the states of the round, the table does not.
    stops_first : (n < length (round dialect now)) ⊎ (free < length (rows_of form (round dialect now))) → Overfull dialect form limit n free now → ⊥
    unfolding later
    stops_first h o = go o.rounds o.over o.reached o.fit h
      where
        go : (k : ℕ) → limit < waiting (later dialect k now) → length (first_rounds dialect k now) < n → length (rows_of form (first_rounds dialect k now)) ≤ free
            → (n < length (round dialect now)) ⊎ (free < length (rows_of form (round dialect now))) → ⊥
        go zero x y z h = omega arith
        go (suc k) x y z (inl h) = omega (arith, longer k)
        go (suc k) x y z (inr h) = omega (arith, more k)

    -- Else it does where it does so later.
    module _ (h : length (round dialect now) ≤ n) (k : length (rows_of form (round dialect now)) ≤ free) where
      onwards : Overfull dialect form limit (n - length (round dialect now)) (free - length (rows_of form (round dialect now))) (onward dialect now) → Overfull dialect form limit n free now
      unfolding later
      onwards o = record {
        rounds = suc o.rounds;
        before = go o.before;
        over = o.over;
        reached = omega (arith, longer o.rounds, o.reached);
        fit = omega (arith, more o.rounds, o.fit);
      }
        where
          go : ((j : ℕ) → j < o.rounds → waiting (later dialect j (onward dialect now)) ≤ limit) → (j : ℕ) → j < suc o.rounds → waiting (later dialect j now) ≤ limit
          go f zero i = fits
          go f (suc j) i = f j (le_of_suc-le-suc i)

      back : Overfull dialect form limit n free now → Overfull dialect form limit (n - length (round dialect now)) (free - length (rows_of form (round dialect now))) (onward dialect now)
      unfolding later
      back o = go o.rounds o.before o.over o.reached o.fit
        where
          go : (i : ℕ) → ((j : ℕ) → j < i → waiting (later dialect j now) ≤ limit) → limit < waiting (later dialect i now) → length (first_rounds dialect i now) < n
              → length (rows_of form (first_rounds dialect i now)) ≤ free → Overfull dialect form limit (n - length (round dialect now)) (free - length (rows_of form (round dialect now))) (onward dialect now)
          go zero f x y z = absurd (clash x)
            where
              clash : limit < waiting now → ⊥
              clash x = omega arith
          go (suc i) f x y z = record {
            rounds = i;
            before = λ j l. f (suc j) (suc-le-suc l);
            over = x;
            reached = omega (arith, longer i);
            fit = omega (arith, more i);
          }

    -- What the round is followed by, `rest`, goes by rounds; so does the whole.
    one_round : (ts : List Taken) (rest : ℕ → ℕ → Run) → Passage form n (round dialect now) free
        → (length (round dialect now) ≤ n → ByRounds dialect form limit (n - length (round dialect now)) (free - length (rows_of form (round dialect now))) (onward dialect now) ts
        (rest (n - length (round dialect now)) (free - length (rows_of form (round dialect now)))))
        → ByRounds dialect form limit n free now (round dialect now ++ ts) (through form n (round dialect now) free rest)
    unfolding onwards first_rounds
    one_round ts rest (stops h q) w = walks (stops_first h) (q rest (λ left room. walk form left ts room) ∙ sym (walk_through form n (round dialect now) ts free))
    one_round ts rest (passes h k q) w = go (w h)
      where
        go : ByRounds dialect form limit (n - length (round dialect now)) (free - length (rows_of form (round dialect now))) (onward dialect now) ts
            (rest (n - length (round dialect now)) (free - length (rows_of form (round dialect now)))) → ByRounds dialect form limit n free now (round dialect now ++ ts) (through form n (round dialect now) free rest)
        go (walks never e) = walks (λ o. never (back h k o))
            (q rest ∙ ap (behind form (round dialect now)) e ∙ sym (q (λ left room. walk form left ts room)) ∙ sym (walk_through form n (round dialect now) ts free))
        go (table o e) = table (onwards h k o) (q rest ∙ ap (behind form (round dialect now)) e ∙ behind_report form 21 (round dialect now) (first_rounds dialect o.rounds (onward dialect now)))

  -- ---- All rounds.

  none_left : (k n free : ℕ) → stopped 0 0 ≡ walk form n (first_rounds dialect k []) free
  unfolding walk
  none_left k zero free = rw (none_taken dialect k)
  none_left k (suc n) free = rw (none_taken dialect k)

  -- With no budget left and states that wait.
  spent : (k free : ℕ) (b : Branch) (bs : List Branch) → later dialect k (b ∷ bs) ≡ [] → stopped 7 0 ≡ walk form 0 (first_rounds dialect k (b ∷ bs)) free
  unfolding later first_rounds walk stopped
  spent zero free b bs e = no_cons e
  spent (suc k) free b bs e = go (round dialect (b ∷ bs)) (round_some dialect b bs)
    where
      go : (ts : List Taken) → 1 ≤ length ts → stopped 7 0 ≡ walk form 0 (ts ++ first_rounds dialect k (onward dialect (b ∷ bs))) free
      go [] h = absurd (not-suc-le-zero h)
      go (t ∷ ts) h = refl

  not_spent : (limit free : ℕ) (bs : List Branch) → Overfull dialect form limit 0 free bs → ⊥
  not_spent limit free bs o = not-suc-le-zero o.reached

  pub by_rounds_lem : (r k limit n : ℕ) (bs : List Branch) (free : ℕ) → n ≤ r → later dialect k bs ≡ []
      → ByRounds dialect form limit n free bs (first_rounds dialect k bs) (by_lists dialect form r limit n bs free)
  unfolding by_lists later first_rounds rows_of report
  by_rounds_lem zero k limit n [] free h e = walks (none_wait limit n free) (none_left k n free)
  by_rounds_lem zero k limit zero (b ∷ bs) free h e = walks (not_spent limit free (b ∷ bs)) (spent k free b bs e)
  by_rounds_lem zero k limit (suc n) (b ∷ bs) free h e = absurd (not-suc-le-zero h)
  by_rounds_lem (suc r) k limit n [] free h e = walks (none_wait limit n free) (none_left k n free)
  by_rounds_lem (suc r) k limit zero (b ∷ bs) free h e = walks (not_spent limit free (b ∷ bs)) (spent k free b bs e)
  by_rounds_lem (suc r) zero limit (suc n) (b ∷ bs) free h e = no_cons e
  by_rounds_lem (suc r) (suc k) limit (suc n) (b ∷ bs) free h e =
      go (leb (waiting (b ∷ bs)) limit) (leb→le (waiting (b ∷ bs)) limit) (le→leb (waiting (b ∷ bs)) limit)
      (λ i. by_rounds_lem r k limit (suc n - length (round dialect (b ∷ bs))) (onward dialect (b ∷ bs)) (free - length (rows_of form (round dialect (b ∷ bs)))) (omega (arith, round_some dialect b bs)) e)
    where
      go : (c : Bool) → (T c → waiting (b ∷ bs) ≤ limit) → (waiting (b ∷ bs) ≤ limit → T c)
          → (length (round dialect (b ∷ bs)) ≤ suc n → ByRounds dialect form limit (suc n - length (round dialect (b ∷ bs))) (free - length (rows_of form (round dialect (b ∷ bs)))) (onward dialect (b ∷ bs))
          (first_rounds dialect k (onward dialect (b ∷ bs))) (by_lists dialect form r limit (suc n - length (round dialect (b ∷ bs))) (onward dialect (b ∷ bs)) (free - length (rows_of form (round dialect (b ∷ bs))))))
          → ByRounds dialect form limit (suc n) free (b ∷ bs) (round dialect (b ∷ bs) ++ first_rounds dialect k (onward dialect (b ∷ bs)))
          (elim c as (λ _. Run) [
            | true ↦ through form (suc n) (round dialect (b ∷ bs)) free (λ left room. by_lists dialect form r limit left (onward dialect (b ∷ bs)) room)
            | false ↦ stopped 21 0
          ])
      go true f g w = one_round limit (suc n) free b bs (f tt) (first_rounds dialect k (onward dialect (b ∷ bs))) (λ left room. by_lists dialect form r limit left (onward dialect (b ∷ bs)) room)
          (passage form (suc n) (round dialect (b ∷ bs)) free) w
      go false f g w = table (record { rounds = 0; before = λ j i. absurd (not-suc-le-zero i); over = omega (arith, g); reached = suc-le-suc zero-le; fit = zero-le }) refl
