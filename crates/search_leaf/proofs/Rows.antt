-- The rows of a leaf are those of its bindings; what is left of its choices are elements. Assumes nothing.
use Prim.Native.Nat.{ℕ, zero, suc, ◌+◌, ◌^◌, ◌%◌, ◌/◌, ◌<◌, ◌≤◌}
use native.Mathlib.Numerals.{add-one}
use lib.Pow.{pow_pos}
use native.Mathlib.Omega.{arith}
use mathlib.Core.Path.{◌≡◌, refl, sym, ap, ap₂, ◌∙◌}
use mathlib.Core.Bool.{Bool, true, false}
use mathlib.Core.List.{List, [], ◌∷◌, ◌++◌, map}
use lib.ListN.{length, get_or, take, drop, set, length-take, length-set}
use lib.Seq.{drop-cons, get_or-take, get_or-set_other, set-get_or}
use lib.Dec.{eqb}
use lib.Count.{count_trailing_zeros}
use lib.IntN.{ℤ, pos}
use borrow.Author.Tests.{eq-eqb, ne_eqb, eqb-true, eqb-false}
use Rattle.rules.specs.Forms.{words}
use Rattle.rules.specs.Rows.{bits, told, row}
use Rattle.words.specs.Words.{tag_at}
use Rattle.words.specs.Marks.{clear}
use Rattle.value_places.specs.Places.{Target, element_at, marks_at}
use Rattle.value_places.specs.Held.{Held}
use Rattle.value_places.proofs.Held.{held_int, held_clear, next_tag}
use Rattle.value_places.proofs.Origins.{plain_origin, origin_index, origin_marks}
use Rattle.value_rows.specs.Row.{form_by, told_at, origin_of, bound, bound_from, Bound, nothing}
use Rattle.value_rows.specs.declared.Binding.{Binding}
use Rattle.search_atom.specs.Leaves.{when}
use Rattle.search_seek.specs.Passed.{later}
use Rattle.search_leaf.specs.Told.{word_of, entry_of, row_of, Tells, but_of}
use Rattle.search_leaf.specs.Leaf.{lowest_of, bound_to, passed_by, wrote_by, Leaf, stays, fails, sums, any, binds, Parts}
use Rattle.search_leaf.specs.declared.Tally.{Tally}
use Rattle.search_leaf.specs.declared.Part.{Part}
use Rattle.search_leaf.proofs.Words.{row_from, row_begins, row_step_lem, row_ends}

-- ---- An entry.

module _ (s : List ℤ) (at m : ℕ) (g : Target s) (w : Held s at m) (z : tag_at s at ≡ 0) where
  no_marks : m ≡ 0
  unfolding marks_at
  no_marks = let h = w.marks in let e : marks_at s at ≡ 0 = rw z in let k : m < 2 ^ 0 = rw e at h in omega arith

  entry_is : (o : Bool) → entry_of o (word_of o s at) ≡ told_at (form_by o) s at m
  unfolding entry_of word_of told_at form_by told words bits
  entry_is true = sym (ap₂ (λ (a k : ℕ). pos a ∷ bits (k % 2 ^ 32) ∷ bits (k / 2 ^ 32) ∷ []) (origin_index s at m 0) (origin_marks s at m 0 g w ∙ no_marks))
  entry_is false = sym (ap words (plain_origin s at m 0 ∙ held_int s at m g w.tag z))

-- ---- The row.

module _ (o : Bool) (s : List ℤ) (b : List Binding) (n : ℕ) (l : List ℤ) (g : Target s) (q : Bound s b n) (t : Tells o s b n 16 l) where
  few : n ≤ length l
  few = omega (arith, t.long, q.most)

  bound_step : (v : ℕ) → v < n → row (form_by o) (bound_from s b v n) ≡ told_at (form_by o) s (get_or b v nothing).at (get_or b v nothing).marks ++ row (form_by o) (bound_from s b (v + 1) n)
  unfolding bound_from origin_of told_at row
  bound_step v h =
      let k : v < length (take n b) = rw length-take (omega (arith, q.most, q.long)) in
      rw (drop-cons (take n b) v nothing k, get_or-take n b v nothing h, add-one v)

  bound_ends : (v : ℕ) → n ≤ v → row (form_by o) (bound_from s b v n) ≡ []
  unfolding bound_from row
  bound_ends v h = ap (λ (l : List Binding). row (form_by o) (map (origin_of s) l)) (all_dropped (take n b) v (rw length-take (omega (arith, q.most, q.long))))
    where
      all_dropped : (l : List Binding) (k : ℕ) → length l ≤ k → drop k l ≡ []
      all_dropped [] zero h = refl
      all_dropped [] (suc k) h = refl
      all_dropped (x ∷ l) zero h = absurd (omega arith)
      all_dropped (x ∷ l) (suc k) h = all_dropped l k (omega arith)

  entry_at : (v : ℕ) → v < n → entry_of o (get_or l v (pos 0)) ≡ told_at (form_by o) s (get_or b v nothing).at (get_or b v nothing).marks
  entry_at v h =
      let d : v ≡ 16 → ⊥ = λ e. absurd (omega (arith, q.most, e)) in
      ap (entry_of o) (t.words v h d) ∙ entry_is s (get_or b v nothing).at (get_or b v nothing).marks g (q.are v h) (t.tags v h d) o

  rows_from : (k v : ℕ) → v + k ≡ n → row_from o l n v ≡ row (form_by o) (bound_from s b v n)
  rows_from zero v e = row_ends o l n few v (omega arith) ∙ sym (bound_ends v (omega arith))
  rows_from (suc k) v e =
      let h : v < n = omega arith in
      row_step_lem o l n few v h ∙ ap₂ ◌++◌ (entry_at v h) (rows_from k (v + 1) (omega arith)) ∙ sym (bound_step v h)

  pub row_is : row_of o n l ≡ row (form_by o) (bound s b n)
  unfolding bound bound_from
  row_is = row_begins o l n ∙ rows_from n 0 (omega arith)

-- ---- The choices that are left, the variable's value, and the words told.

module _ (s : List ℤ) (o : Bool) (n : ℕ) (p : Part) (first : Tally) (told₀ room₀ : List ℤ) (g : Target s) (h : Parts s p first.left) where
  pub leaf_some : (t : Tally) (l : List ℤ) (y : Binding) (room : List ℤ) → Leaf s o n p first told₀ room₀ t l y room → 0 < t.left
  unfolding passed_by wrote_by
  leaf_some t l y room stays = h.choice
  leaf_some t l y room (fails u m z r c k f i) = k
  leaf_some t l y room (sums u m z r c k f i j) = k
  leaf_some t l y room (any u m z r c k f i) = k
  leaf_some t l y room (binds u m z r m' c k f i j q) = k

  later_held : (c : ℕ) → Held s p.at c → Held s p.at (later c)
  unfolding later
  later_held c w = held_clear s p.at c (count_trailing_zeros 64 c) (clear (count_trailing_zeros 64 c) c) w refl

  pub leaf_held : (t : Tally) (l : List ℤ) (y : Binding) (room : List ℤ) → Leaf s o n p first told₀ room₀ t l y room → Held s p.at t.left
  unfolding passed_by wrote_by
  leaf_held t l y room stays = h.held
  leaf_held t l y room (fails u m z r c k f i) = later_held u.left (leaf_held u m z r c)
  leaf_held t l y room (sums u m z r c k f i j) = later_held u.left (leaf_held u m z r c)
  leaf_held t l y room (any u m z r c k f i) = later_held u.left (leaf_held u m z r c)
  leaf_held t l y room (binds u m z r m' c k f i j q) = later_held u.left (leaf_held u m z r c)

  -- An integer that a variable is bound to is held.
  lowest_held : (c : ℕ) → Held s p.at c → 0 < c → Held s (lowest_of s p.at c) 0
  unfolding lowest_of
  lowest_held c w k = record {
    tag = next_tag s p.at c (count_trailing_zeros 64 c) g w refl k (element_at s p.at (count_trailing_zeros 64 c)) refl;
    marks = (let k = pow_pos (marks_at s (element_at s p.at (count_trailing_zeros 64 c))) in omega arith);
  }

  pub leaf_value : (t : Tally) (l : List ℤ) (y : Binding) (room : List ℤ) → Held s p.value.at p.value.marks → Leaf s o n p first told₀ room₀ t l y room → Held s y.at y.marks
  unfolding bound_to
  leaf_value t l y room w stays = w
  leaf_value t l y room w (fails u m z r c k f i) = leaf_value u m z r w c
  leaf_value t l y room w (sums u m z r c k f i j) = leaf_value u m z r w c
  leaf_value t l y room w (any u m z r c k f i) = leaf_value u m z r w c
  leaf_value t l y room w (binds u m z r m' c k f i j q) = lowest_held u.left (leaf_held u m z r c) (leaf_some u m z r c)

  module _ (b : List Binding) (long : length b ≡ 16) (at-var : p.value ≡ get_or b p.var nothing) (begun : Tells o s b n (but_of p.op p.var) told₀) where
    but_var : p.op ≡ 3 → but_of p.op p.var ≡ p.var
    unfolding but_of when
    but_var e = rw (eq-eqb p.op 3 e)

    -- The words of all variables but the one that is bound, whatever it is bound to.
    others : (m m' : List ℤ) (z z' : Binding) (x : ℤ) → p.op ≡ 3 → m' ≡ set m p.var x → Tells o s (set b p.var z) n (but_of p.op p.var) m
        → Tells o s (set b p.var z') n (but_of p.op p.var) m'
    others m m' z z' x e d t = record {
      long = ap length d ∙ length-set m p.var x ∙ t.long;
      tags = λ v k f. ap (λ (y : Binding). tag_at s y.at) (same v f) ∙ t.tags v k f;
      words = λ v k f. ap (λ (w : List ℤ). get_or w v (pos 0)) d ∙ get_or-set_other m p.var v x (pos 0) (λ i. f (i ∙ sym (but_var e))) ∙ t.words v k f ∙ ap (λ (y : Binding). word_of o s y.at) (sym (same v f));
    }
      where
        same : (v : ℕ) → (v ≡ but_of p.op p.var → ⊥) → get_or (set b p.var z') v nothing ≡ get_or (set b p.var z) v nothing
        same v f = let k : v ≡ p.var → ⊥ = λ i. f (i ∙ sym (but_var e)) in get_or-set_other b p.var v z' nothing k ∙ sym (get_or-set_other b p.var v z nothing k)

    pub leaf_tells : (t : Tally) (l : List ℤ) (y : Binding) (room : List ℤ) → Leaf s o n p first told₀ room₀ t l y room → Tells o s (set b p.var y) n (but_of p.op p.var) l
    leaf_tells t l y room stays = rw (at-var, set-get_or b p.var nothing) begun
    leaf_tells t l y room (fails u m z r c k f i) = leaf_tells u m z r c
    leaf_tells t l y room (sums u m z r c k f i j) = leaf_tells u m z r c
    leaf_tells t l y room (any u m z r c k f i) = leaf_tells u m z r c
    leaf_tells t l y room (binds u m z r m' c k f i j q) = others m m' z (bound_to (lowest_of s p.at u.left)) (word_of o s (lowest_of s p.at u.left)) f j (leaf_tells u m z r c)

    -- Where no variable is bound, or the one that is bound has its word, all words are told.
    pub tells_full : (c : List Binding) (l : List ℤ) → (p.op ≡ 3 → ⊥) → Tells o s c n (but_of p.op p.var) l → Tells o s c n 16 l
    unfolding but_of when
    tells_full c l f t = let e : but_of p.op p.var ≡ 16 = rw (ne_eqb p.op 3 f) in rw e at t

    pub tells_bound : (c : List Binding) (l : List ℤ) → p.op ≡ 3 → Tells o s c n (but_of p.op p.var) l → tag_at s (get_or c p.var nothing).at ≡ 0
        → get_or l p.var (pos 0) ≡ word_of o s (get_or c p.var nothing).at → Tells o s c n 16 l
    tells_bound c l f t a d = record {
      long = t.long;
      tags = λ v k i. by_var v (λ e. ap (λ (x : ℕ). tag_at s (get_or c x nothing).at) e ∙ a) (λ j. t.tags v k (λ e. j (e ∙ but_var f)));
      words = λ v k i. by_var v (λ e. ap (λ (x : ℕ). get_or l x (pos 0)) e ∙ d ∙ ap (λ (x : ℕ). word_of o s (get_or c x nothing).at) (sym e)) (λ j. t.words v k (λ e. j (e ∙ but_var f)));
    }
      where
        by_var : {X : Type 0} (v : ℕ) → (v ≡ p.var → X) → ((v ≡ p.var → ⊥) → X) → X
        by_var {X} v f k = go (eqb v p.var) refl
          where
            go : (c : Bool) → eqb v p.var ≡ c → X
            go true e = f (eqb-true v p.var e)
            go false e = k (eqb-false v p.var e)
