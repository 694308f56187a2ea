-- Laws of what specs/Exact.antt defines.
use Prim.Native.Nat.{ℕ, zero, suc, ◌+◌, ◌*◌, ◌-◌, ◌<◌}
use native.Mathlib.Omega.{arith}
use Rattle.std.proofs.Common.{not-suc-le-zero, le_of_suc-le-suc, sym, ◌∙◌, subst, ⊎_elim, ltb→lt}
use Rattle.std.specs.Prelude.{◌≡◌, length, T, ℤ, pos, negsuc}
use Rattle.std.proofs.Math.Path.{refl, ap, ap₂}
use Rattle.std.proofs.Math.Bool.{true}
use Rattle.std.proofs.Math.Option.{some}
use mathlib.Core.List.Memᴰ
use mathlib.Core.List.{List, [], ◌∷◌, ◌++◌, map, flat_map}
use Rattle.std.proofs.lemmas.List.{length-map, replicate-append-replicate}
use Rattle.std.proofs.Math.ListN.{replicate, get_elem?}
use Rattle.std.proofs.Math.IntN.{+ℤ_idr}
use Rattle.rules.specs.Numbers.{same, in_range}
use Rattle.rules.specs.Forms.{integer, multiset, Pattern, Value, int, collection, span}
use Rattle.rules.specs.Origins.{Valueᵒ, collectionᵒ, Valuesᵒ, emptyᵒ, ◌▸ᵒ◌, Origin, Bindings, plain, placed_all, target}
use Rattle.rules.specs.Reading.{ok, entry}
use Rattle.rules.specs.Variables.{is_next, is_left, variables}
use Rattle.rules.specs.Fit.{element, is_something}
use Rattle.rules.specs.Equality.{is_value}
use Rattle.rules.specs.Dialects.{every_place}
use Rattle.rules.specs.Search.{Taking, takings, behind, Halves, cons_halves, start}
use Rattle.rules.specs.Review.{leaf_steps, cons_factor, formula}
use Rattle.forms.specs.Lists.{Mem}
use Rattle.forms.specs.Origins.{plain_placed}
use Rattle.forms.specs.Tests.{is_true}
use Rattle.forms.specs.Readers.{then_ok}
use Rattle.forms.specs.Numbering.{demand_ok}
use Rattle.forms.specs.Pairing.{same_refl}
use Rattle.promises.specs.Sums.{sum_inside}
use Rattle.promises.specs.Trace.{found, Met, taken, pass, only_if, visit, met, close, trace}
use Rattle.promises.specs.Bound.{horner}
use Rattle.promises.proofs.Bound.{horner_formula}
use Rattle.promises.specs.Exact.{Chain, First, Passes, again, copies, ends, link, more, named, none, wild}

-- Elements that are so many, each the integer x, whatever their origins.
unfoldable Alike : ℤ → ℕ → Valuesᵒ → Type 0
Alike x zero emptyᵒ = Unit {0}
Alike x zero (v ▸ᵒ vs) = ⊥
Alike x (suc n) emptyᵒ = ⊥
Alike x (suc n) (v ▸ᵒ vs) = (plain v ≡ int x) × Alike x n vs

copies_alike : (x : ℤ) (n at k : ℕ) → Alike x n (placed_all at k (copies n (int x)))
unfolding Alike copies placed_all
copies_alike x zero at k = tt
copies_alike x (suc n) at k = (plain_placed at k (int x), copies_alike x n (at + 2) (suc k))

-- ---- The choices of a cons on equal values: as many as they are, each with one fewer left.

takings_many : (x : ℤ) (n : ℕ) (vs : Valuesᵒ) → Alike x n vs → length (takings vs) ≡ n
unfolding Alike takings
takings_many x zero emptyᵒ a = refl
takings_many x zero (v ▸ᵒ vs) a = absurd a
takings_many x (suc n) emptyᵒ a = absurd a
takings_many x (suc n) (v ▸ᵒ vs) a = ap suc (length-map (takings vs) (behind v) ∙ takings_many x n vs a.1)

taking_alike : (x : ℤ) (n : ℕ) (vs : Valuesᵒ) → Alike x (suc n) vs → (t : Taking) → Mem t (takings vs) → (plain t.one ≡ int x) × Alike x n t.others
unfolding Alike takings behind
taking_alike x n emptyᵒ a t i = absurd a
taking_alike x zero (v ▸ᵒ emptyᵒ) a t i = ⊎_elim
    (λ e. subst (λ (t : Taking). (plain t.one ≡ int x) × Alike x 0 t.others) (sym e) a)
    (λ j. absurd (Memᴰ.not-nil j)) (Memᴰ.cases_cons i)
taking_alike x zero (v ▸ᵒ (w ▸ᵒ vs)) a t i = absurd a.1
taking_alike x (suc n) (v ▸ᵒ vs) a t i = ⊎_elim
    (λ e. subst (λ (t : Taking). (plain t.one ≡ int x) × Alike x (suc n) t.others) (sym e) a)
    (λ j. let r = Memᴰ.of_map (behind v) (takings vs) j in
    let k = taking_alike x n vs a.1 r.0 r.1 in
    subst (λ (t : Taking). (plain t.one ≡ int x) × Alike x (suc n) t.others) r.2 (k.0, (a.0, k.1)))
    (Memᴰ.cases_cons i)

counts : {ms : List Met} {a b : ℕ} → a ≡ b → Passes ms a → Passes ms b
counts {ms} e h = subst (Passes ms) e h

passes_append : {ms ns : List Met} {a b : ℕ} → Passes ms a → Passes ns b → Passes (ms ++ ns) (a + b)
passes_append none k = counts (omega arith) k
passes_append (more h) k = counts (omega arith) (more (passes_append h k))

passes_each : {A : Type 0} (f : A → List Met) (n : ℕ) (xs : List A) → ((x : A) → Mem x xs → Passes (f x) n) → Passes (flat_map f xs) (length xs * n)
unfolding flat_map
passes_each f n [] h = counts (omega arith) none
passes_each f n (x ∷ xs) h = counts (omega arith) (passes_append (h x (Memᴰ.head refl)) (passes_each f n xs (λ y i. h y (Memᴰ.tail i))))

-- A cons on so many equal integers.
passes_cons : (x : ℤ) (f : Halves → List Met) (o : Origin) (vs : Valuesᵒ) (n j c : ℕ) → suc n ≡ j → Alike x (suc n) vs
    → ((a : Valueᵒ) (us : Valuesᵒ) → plain a ≡ int x → Alike x n us → Passes (f (record { first = a; second = collectionᵒ o us })) c)
    → Passes (pass ∷ flat_map f (cons_halves (multiset integer) (collectionᵒ o vs))) (1 + j * c)
unfolding cons_halves
passes_cons x f o vs n j c e a h =
    let hs : List Halves = map (λ (t : Taking). record { first = t.one; second = collectionᵒ o t.others }) (takings vs) in
    let l : length hs ≡ j = length-map (takings vs) _ ∙ takings_many x (suc n) vs a ∙ e in
    counts (ap (λ i. 1 + i * c) l) (counts (omega arith) (more (passes_each f c hs (λ b i.
    let r = Memᴰ.of_map _ (takings vs) i in
    let k = taking_alike x n vs a r.0 r.1 in
    subst (λ (b : Halves). Passes (f b) c) r.2 (h r.0.one r.0.others k.0 k.1)))))

passes_close : {ms : List Met} {n : ℕ} → Passes ms n → length (close ms) ≡ n
unfolding close
passes_close none = refl
passes_close (more h) = ap suc (passes_close h)

-- ---- The bindings are equal integers too, so a tag 3 holds.

replicate_last : (n : ℕ) (v : Value) → replicate n v ++ (v ∷ []) ≡ replicate (suc n) v
replicate_last n v = let k : n + 1 ≡ suc n = omega arith in replicate-append-replicate n 1 v ∙ ap (λ i. replicate i v) k

entry_replicate : (n : ℕ) (v : Value) (x : ℕ) → x < n → get_elem? (replicate n v) x ≡ some v
entry_replicate zero v x h = absurd (not-suc-le-zero h)
entry_replicate (suc n) v zero h = refl
entry_replicate (suc n) v (suc x) h = entry_replicate n v x (le_of_suc-le-suc h)

plain_last : (e : Bindings) (v : Valueᵒ) → map plain (e ++ (v ∷ [])) ≡ map plain e ++ (plain v ∷ [])
plain_last [] v = refl
plain_last (w ∷ e) v = ap {B = List Value} (λ l. plain w ∷ l) (plain_last e v)

module _ (x : ℤ) (inside : in_range x ≡ true) where
  value_holds : (n : ℕ) (y : ℤ) → T (is_left y n) → is_value integer (replicate n (int x)) y (pos 0) (int x) ≡ true
  unfolding is_left entry
  value_holds n (pos y) h = sum_inside (replicate n (int x)) (pos y) x (pos 0) (entry_replicate n (int x) y (ltb→lt y n h)) (ap in_range (+ℤ_idr x) ∙ inside) x
      ∙ ap (λ z. same z x) (+ℤ_idr x) ∙ is_true (same x x) (same_refl x)
  value_holds n (negsuc y) h = absurd h

  -- So many bindings, each to the integer x.
  abbrev Bound : ℕ → Bindings → Type 0
  Bound n e = map plain e ≡ replicate n (int x)

  -- n variables stand to the left of the first part, and i to the left of what follows it: these are bound to equal integers before it and after it.
  first_exact : {p : Pattern} → First p → (cap at n i : ℕ) → variables p true at n ≡ ok i → (v : Valueᵒ) (e : Bindings) → plain v ≡ int x → Bound n e
      → (k : Bindings → List Met) (c : ℕ) → ((d : Bindings) → Bound i d → Passes (k d) c) → Passes (visit every_place p integer v e k) (horner cap 0 p integer c)
  unfolding visit horner variables only_if is_something leaf_steps
  first_exact wild cap at n i g v e a b k c h =
      let q : n ≡ i = cc in counts (omega arith) (more (more (h e (b ∙ ap (λ j. replicate j (int x)) q))))
  first_exact (named {x = y}) cap at n i g v e a b k c h =
      let q = (demand_ok (is_next y n) at (suc n) i g).1 in
      counts (omega arith) (more (more (h (e ++ (v ∷ [])) (plain_last e v ∙ ap₂ {C = List Value} (λ l w. l ++ (w ∷ [])) b a ∙ replicate_last n (int x)
      ∙ ap (λ j. replicate j (int x)) q))))
  first_exact (again {x = y}) cap at n i g v e a b k c h =
      let q = demand_ok (is_left y n) at n i g in
      counts (omega arith) (more (subst (λ t. Passes (only_if t (k e)) c)
      (sym (ap₂ (λ l w. is_value integer l y (pos 0) w) b a ∙ value_holds n y q.0))
      (h e (b ∙ ap (λ j. replicate j (int x)) q.1))))

  -- `gone` conses were taken, and `left` elements are left.
  chain_exact : {p : Pattern} → Chain p → (cap gone left at n i : ℕ) → left + gone ≡ cap → variables p true at n ≡ ok i
      → (o : Origin) (vs : Valuesᵒ) (e : Bindings) → Alike x left vs → Bound n e
      → (k : Bindings → List Met) (c : ℕ) → ((d : Bindings) → Passes (k d) c)
      → Passes (visit every_place p (multiset integer) (collectionᵒ o vs) e k) (horner cap gone p (multiset integer) c)
  unfolding visit horner variables Alike cons_halves cons_factor takings flat_map element is_something leaf_steps
  chain_exact (ends wild) cap gone left at n i l g o vs e a b k c h = counts (omega arith) (more (more (h _)))
  chain_exact (ends named) cap gone left at n i l g o vs e a b k c h = counts (omega arith) (more (more (h _)))
  chain_exact (link {p = p} {q = q} f r) cap gone zero at n i l g o emptyᵒ e a b k c h =
      let z : 0 ≡ cap - gone = omega arith in
      counts (ap (λ j. 1 + j * horner cap 0 p integer (horner cap (suc gone) q (multiset integer) c)) z) (counts (omega arith) (more none))
  chain_exact (link {p = p} {q = q} f r) cap gone zero at n i l g o (v ▸ᵒ vs) e a b k c h = absurd a
  chain_exact (link {p = p} {q = q} f r) cap gone (suc left) at n i l g o vs e a b k c h =
      let t = then_ok (variables p true (at + 1) n) (λ j. variables q true (at + 1 + span p) j) i g in
      passes_cons x (λ y. visit every_place p integer y.first e (λ d. visit every_place q (multiset integer) y.second d k)) o vs left _ _ (omega arith) a
      (λ u us s m. first_exact f cap (at + 1) n t.0 t.1 u e s b (λ d. visit every_place q (multiset integer) (collectionᵒ o us) d k) _
      (λ d w. chain_exact r cap (suc gone) left (at + 1 + span p) t.0 i (omega arith) t.2 o us d m w k c h))

  -- EXACT: where the variables are numbered in order and each tag 3 names one to its left.
  pub states_exact : {p : Pattern} → Chain p → (n : ℕ) → variables p true 0 0 ≡ ok n → (cap : ℕ)
      → length (trace every_place (start (multiset integer) p (collection (copies cap (int x))) ∷ [])) ≡ formula cap p (multiset integer)
  unfolding trace met start target
  states_exact {p} r n g cap =
      let z : cap + 0 ≡ cap = omega arith in
      passes_close (chain_exact r cap 0 cap 0 0 n z g (record { at = 0; place = 0 }) (placed_all 2 0 (copies cap (int x))) [] (copies_alike x cap 2 0) refl
      (λ d. taken (found d) ∷ []) 1 (λ d. more none)) ∙ horner_formula cap p (multiset integer)
