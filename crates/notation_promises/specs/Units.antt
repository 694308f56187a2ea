-- The words of a matcher and of a target are walked as they are written.
use Prim.Native.Nat.{ℕ, zero, suc, ◌+◌, ◌%◌, ◌≤◌, ◌<◌}
use native.Mathlib.Omega.{arith}
use Rattle.std.proofs.Common.{add-one, sym, ◌∙◌, of_z}
use Rattle.std.specs.Prelude.{◌≡◌, Bool, Option, Some, None, T, ℤ, pos}
use Rattle.std.proofs.Math.Path.{refl, ap}
use Rattle.std.proofs.Math.Bool.{true, false}
use mathlib.Core.List.{List, [], ◌∷◌, ◌++◌, append_assoc}
use Rattle.std.proofs.Math.ListN.{length, drop, length-append}
use Rattle.std.specs.Int.{w32}
use Rattle.rules.specs.Numbers.{in_range}
use Rattle.rules.specs.Forms.{Matcher, something, integer, list, multiset, tuple_of, Matchers, no_matchers, ◌▸ᵐ◌, countᵐ}
use Rattle.rules.specs.Forms.{Value, int, collection, tupled, Values, empty, ◌▸◌, count, words, words_all}
use Rattle.forms.specs.Written.{matcher_words, matcher_words_all, levels, levels_all, deepest, deepest_of, largest, largest_of}
use Rattle.notation_rules.specs.Tokens.{Mark, opening, closing, left, right, anything, integers, list_of, multiset_of, Token, mark, code}
use Rattle.notation_rules.specs.Matchers as M
use Rattle.notation_rules.specs.Targets as U
use Rattle.notation_rules.specs.PatternsBack.{width, at_most}
use Rattle.notation_print.specs.Kinds.{number_of}
use Rattle.notation_print.specs.declared.Kind.{Kind}
use Rattle.notation_print.specs.declared.Kind.TheVariants.{Comma, Opening, Closing, Left, Right, List as List', Multiset}
use Rattle.notation_write.specs.Written.{node_of, bits_at, head_of, Ink, ink, optional, signed, leaf, bracket, parts, within, written}
use Rattle.notation_write.specs.declared.Operands.TheVariants.{Nothing, OneNumber}
use Rattle.notation_promises.specs.Printed.{ink_of, inks_of}
use Rattle.notation_promises.specs.Numbers.{number_written}
use Rattle.notation_promises.specs.Patterns.{Writes, flat_word, flat_many, no_more}
use Rattle.notation_promises.specs.Walked.{Head, head_of_lem, past, tag_is, bits_is, step_is, leaf_node, word_node, many_node}

module _ (ws : List ℤ) where
  row : (what d at t : ℕ) (rest : List ℤ) → drop at ws ≡ pos t ∷ rest → written ws (suc d) at what ≡ within ws (written ws d) at what (node_of what t)
  row what d at t rest e = step_is ws d at what (node_of what t) (ap (node_of what) (tag_is ws at t rest (head_of_lem ws at (pos t) rest e)))

  next_at : (at : ℕ) (w : ℤ) (rest : List ℤ) → drop at ws ≡ w ∷ rest → drop (at + 1) ws ≡ rest
  next_at at w rest e = ap (λ i. drop i ws) (add-one at) ∙ (head_of_lem ws at w rest e).tail

  second_at : (at : ℕ) (w v : ℤ) (rest : List ℤ) → drop at ws ≡ w ∷ v ∷ rest → Head ws (at + 1) v rest
  second_at at w v rest e = head_of_lem ws (at + 1) v rest (next_at at w (v ∷ rest) e)

  operand_is : (at : ℕ) (w v : ℤ) (rest : List ℤ) → drop at ws ≡ w ∷ v ∷ rest → bits_at ws at 1 ≡ of_z w32 v
  operand_is at w v rest e = bits_is ws at 1 v rest (head_of_lem ws at w (v ∷ rest) e).in' (second_at at w v rest e)

  third_at : (at : ℕ) (w v : ℤ) (rest : List ℤ) → drop at ws ≡ w ∷ v ∷ rest → drop (at + 2) ws ≡ rest
  third_at at w v rest e = let i : suc (at + 1) ≡ at + 2 = omega arith in ap (λ k. drop k ws) (sym i) ∙ (second_at at w v rest e).tail

  -- ---- Targets.
  abbrev pub WalksValue : Value → Type 0
  WalksValue v = (d at : ℕ) (rest : List ℤ) → drop at ws ≡ words v ++ rest → largest v ≤ 64 → deepest v < d → Writes ws d at 17 (words v) (U.write v)

  unfoldable AllValues : Values → Type 0
  AllValues empty = T true
  AllValues (v ▸ vs) = WalksValue v × AllValues vs

  rest_values : (m : Mark) (vs : Values) → AllValues vs → (d at : ℕ) (rest : List ℤ) → drop at ws ≡ words_all vs ++ rest → largest_of vs ≤ 64 → deepest_of vs < d
      → (parts (written ws d) 17 (Some Comma) (count vs) at 17 (Some Comma)).end ≡ at + length (words_all vs)
      × ((ts : List Token) → (parts (written ws d) 17 (Some Comma) (count vs) at 17 (Some Comma)).inks ++ inks_of (mark m ∷ ts) ≡ inks_of (U.write_rest m vs ts))
  unfolding AllValues Writes parts count words_all U.write_rest U.write_items inks_of ink_of code optional largest_of deepest_of number_of
  rest_values m empty x d at rest e n o = (omega arith, λ ts. refl)
  rest_values m (v ▸ vs) x d at rest e n o =
      let len = length-append (words v) (words_all vs) in
      let dp : drop at ws ≡ words v ++ (words_all vs ++ rest) = e ∙ append_assoc (words v) (words_all vs) rest in
      let wp = x.0 d at (words_all vs ++ rest) dp (omega arith) (omega arith) in
      let i : ℕ = (written ws d at 17).end in
      let ip : i ≡ at + length (words v) = wp.0 in
      let wq = rest_values m vs x.1 d i rest (ap (λ k. drop k ws) ip ∙ past ws at (words v) (words_all vs ++ rest) dp) (omega arith) (omega arith) in
      let iq : (parts (written ws d) 17 (Some Comma) (count vs) i 17 (Some Comma)).end ≡ i + length (words_all vs) = wq.0 in (
        iq ∙ (omega arith),
        λ ts. ap (λ z. ink 5 0 ∷ z) (append_assoc (written ws d at 17).inks (parts (written ws d) 17 (Some Comma) (count vs) i 17 (Some Comma)).inks (inks_of (mark m ∷ ts))
            ∙ ap (λ z. (written ws d at 17).inks ++ z) (wq.1 ts) ∙ wp.1 (U.write_rest m vs ts)),
      )

  items_walk : (m : Mark) (vs : Values) → AllValues vs → (d at : ℕ) (rest : List ℤ) → drop at ws ≡ words_all vs ++ rest → largest_of vs ≤ 64 → deepest_of vs < d
      → (parts (written ws d) 17 (Some Comma) (count vs) at 17 None).end ≡ at + length (words_all vs)
      × ((ts : List Token) → (parts (written ws d) 17 (Some Comma) (count vs) at 17 None).inks ++ inks_of (mark m ∷ ts) ≡ inks_of (U.write_items m vs ts))
  unfolding AllValues Writes parts count words_all U.write_rest U.write_items inks_of ink_of code optional largest_of deepest_of number_of
  items_walk m empty x d at rest e n o = (omega arith, λ ts. refl)
  items_walk m (v ▸ vs) x d at rest e n o =
      let len = length-append (words v) (words_all vs) in
      let dp : drop at ws ≡ words v ++ (words_all vs ++ rest) = e ∙ append_assoc (words v) (words_all vs) rest in
      let wp = x.0 d at (words_all vs ++ rest) dp (omega arith) (omega arith) in
      let i : ℕ = (written ws d at 17).end in
      let ip : i ≡ at + length (words v) = wp.0 in
      let wq = rest_values m vs x.1 d i rest (ap (λ k. drop k ws) ip ∙ past ws at (words v) (words_all vs ++ rest) dp) (omega arith) (omega arith) in
      let iq : (parts (written ws d) 17 (Some Comma) (count vs) i 17 (Some Comma)).end ≡ i + length (words_all vs) = wq.0 in (
        iq ∙ (omega arith),
        λ ts. append_assoc (written ws d at 17).inks (parts (written ws d) 17 (Some Comma) (count vs) i 17 (Some Comma)).inks (inks_of (mark m ∷ ts))
            ∙ ap (λ z. (written ws d at 17).inks ++ z) (wq.1 ts) ∙ wp.1 (U.write_rest m vs ts),
      )

  int_walks : (x : ℤ) (d at : ℕ) (rest : List ℤ) → T (in_range x) → drop at ws ≡ pos 0 ∷ x ∷ rest → 0 < d → Writes ws d at 17 (pos 0 ∷ x ∷ []) (U.write (int x))
  unfolding Writes U.write optional leaf head_of node_of number_of
  int_walks x zero at rest r e n = absurd (omega arith)
  int_walks x (suc d) at rest r e n =
      let hd = head_of_lem ws at (pos 0) (x ∷ rest) e in
      let all = row 17 d at 0 (x ∷ rest) e ∙ leaf_node ws (written ws d) at 17 (node_of 17 0) hd.in' OneNumber refl (omega arith) refl refl in (
        ap (λ z. z.end) all,
        λ ts. ap (λ z. z.inks ++ inks_of ts) all
            ∙ ap (λ is. is ++ inks_of ts) (sym (no_more (signed (bits_at ws at 1))) ∙ ap signed (operand_is at (pos 0) x rest e)) ∙ number_written x ts r,
      )

  module _ (t : ℕ) (w c : Option Kind) (open' shut : Mark) (f₁ : (node_of 17 t).level ≡ 7) (f₂ : (node_of 17 t).begins ≡ w) (f₃ : (node_of 17 t).operands ≡ Nothing) (f₄ : (node_of 17 t).parts ≡ None)
      (f₅ : (node_of 17 t).first ≡ 17) (f₆ : (node_of 17 t).others ≡ 17) (f₇ : (node_of 17 t).between ≡ Some Comma) (f₈ : (node_of 17 t).ends ≡ c)
      (k : optional w ≡ ink_of (mark open') ∷ []) (k' : optional c ≡ ink_of (mark shut) ∷ []) where
    many_values : (vs : Values) → AllValues vs → count vs < 256 → (d at : ℕ) (rest : List ℤ) → drop at ws ≡ pos t ∷ pos (count vs) ∷ (words_all vs ++ rest) → largest_of vs ≤ 64 → suc (deepest_of vs) < d
        → Writes ws d at 17 (pos t ∷ pos (count vs) ∷ words_all vs) (λ ts. mark open' ∷ U.write_items shut vs ts)
    unfolding Writes inks_of
    many_values vs x m zero at rest e n o = absurd (omega arith)
    many_values vs x m (suc d) at rest e n o =
        let hd = head_of_lem ws at (pos t) (pos (count vs) ∷ (words_all vs ++ rest)) e in
        let wq = items_walk shut vs x d (at + 2) rest (third_at at (pos t) (pos (count vs)) (words_all vs ++ rest) e) n (omega arith) in
        let all = row 17 d at t (pos (count vs) ∷ (words_all vs ++ rest)) e
        ∙ many_node ws (written ws d) at 17 (node_of 17 t) hd.in' w 17 c (count vs) f₁ (omega arith) f₂ f₃ f₄ f₅ f₆ f₇ f₈ (operand_is at (pos t) (pos (count vs)) (words_all vs ++ rest) e) m in (
          ap (λ z. z.end) all ∙ wq.0 ∙ (omega arith),
          λ ts. ap (λ z. z.inks ++ inks_of ts) all
              ∙ flat_many (optional w) (parts (written ws d) 17 (Some Comma) (count vs) (at + 2) 17 None).inks (optional c) (inks_of ts)
              ∙ ap (λ z. z ++ ((parts (written ws d) 17 (Some Comma) (count vs) (at + 2) 17 None).inks ++ (optional c ++ inks_of ts))) k
              ∙ ap (λ z. ink_of (mark open') ∷ ((parts (written ws d) 17 (Some Comma) (count vs) (at + 2) 17 None).inks ++ (z ++ inks_of ts))) k'
              ∙ ap (λ z. ink_of (mark open') ∷ z) (wq.1 ts),
        )

  mutual
    unfolding U.Fine U.FineAll AllValues width words words_all count largest largest_of deepest deepest_of U.write node_of optional ink_of code number_of

    pub walks_value : (v : Value) → U.Fine v → WalksValue v
    walks_value (int x) f = λ d at rest e n o. int_walks x d at rest f e o
    walks_value (collection vs) f = λ d at rest e n o. many_values 1 (Some Left) (Some Right) left right refl refl refl refl refl refl refl refl refl refl vs (walks_all vs f) (omega arith) d at rest e (omega arith) o
    walks_value (tupled vs) f = λ d at rest e n o. let m = at_most (count vs) f.0 in
        many_values 2 (Some Opening) (Some Closing) opening closing refl refl refl refl refl refl refl refl refl refl vs (walks_all vs f.1) (omega arith) d at rest e n o

    walks_all : (vs : Values) → U.FineAll vs → AllValues vs
    walks_all empty f = tt
    walks_all (v ▸ vs) f = (walks_value v f.0, walks_all vs f.1)

  -- ---- Matchers: 9 where a matcher may stand bare, 10 behind `list` and `multiset`.
  unfoldable pub asked : Bool → ℕ
  asked false = 9
  asked true = 10

  abbrev pub WalksMatcher : Matcher → Type 0
  WalksMatcher m = (b : Bool) (d at : ℕ) (rest : List ℤ) → drop at ws ≡ matcher_words m ++ rest → levels m < d → Writes ws d at (asked b) (matcher_words m) (M.write b m)

  unfoldable AllMatchers : Matchers → Type 0
  AllMatchers no_matchers = T true
  AllMatchers (m ▸ᵐ ms) = WalksMatcher m × AllMatchers ms

  rest_matchers : (vs : Matchers) → AllMatchers vs → (d at : ℕ) (rest : List ℤ) → drop at ws ≡ matcher_words_all vs ++ rest → levels_all vs < d
      → (parts (written ws d) 9 (Some Comma) (countᵐ vs) at 9 (Some Comma)).end ≡ at + length (matcher_words_all vs)
      × ((ts : List Token) → (parts (written ws d) 9 (Some Comma) (countᵐ vs) at 9 (Some Comma)).inks ++ inks_of (mark closing ∷ ts) ≡ inks_of (M.write_rest vs ts))
  unfolding AllMatchers Writes parts countᵐ matcher_words_all M.write_rest M.write_parts inks_of ink_of code optional levels_all asked number_of
  rest_matchers no_matchers x d at rest e o = (omega arith, λ ts. refl)
  rest_matchers (v ▸ᵐ vs) x d at rest e o =
      let len = length-append (matcher_words v) (matcher_words_all vs) in
      let dp : drop at ws ≡ matcher_words v ++ (matcher_words_all vs ++ rest) = e ∙ append_assoc (matcher_words v) (matcher_words_all vs) rest in
      let wp = x.0 false d at (matcher_words_all vs ++ rest) dp (omega arith) in
      let i : ℕ = (written ws d at 9).end in
      let ip : i ≡ at + length (matcher_words v) = wp.0 in
      let wq = rest_matchers vs x.1 d i rest (ap (λ k. drop k ws) ip ∙ past ws at (matcher_words v) (matcher_words_all vs ++ rest) dp) (omega arith) in
      let iq : (parts (written ws d) 9 (Some Comma) (countᵐ vs) i 9 (Some Comma)).end ≡ i + length (matcher_words_all vs) = wq.0 in (
        iq ∙ (omega arith),
        λ ts. ap (λ z. ink 5 0 ∷ z) (append_assoc (written ws d at 9).inks (parts (written ws d) 9 (Some Comma) (countᵐ vs) i 9 (Some Comma)).inks (inks_of (mark closing ∷ ts))
            ∙ ap (λ z. (written ws d at 9).inks ++ z) (wq.1 ts) ∙ wp.1 (M.write_rest vs ts)),
      )

  parts_matchers : (vs : Matchers) → AllMatchers vs → (d at : ℕ) (rest : List ℤ) → drop at ws ≡ matcher_words_all vs ++ rest → levels_all vs < d
      → (parts (written ws d) 9 (Some Comma) (countᵐ vs) at 9 None).end ≡ at + length (matcher_words_all vs)
      × ((ts : List Token) → (parts (written ws d) 9 (Some Comma) (countᵐ vs) at 9 None).inks ++ inks_of (mark closing ∷ ts) ≡ inks_of (M.write_parts vs ts))
  unfolding AllMatchers Writes parts countᵐ matcher_words_all M.write_rest M.write_parts inks_of ink_of code optional levels_all asked number_of
  parts_matchers no_matchers x d at rest e o = (omega arith, λ ts. refl)
  parts_matchers (v ▸ᵐ vs) x d at rest e o =
      let len = length-append (matcher_words v) (matcher_words_all vs) in
      let dp : drop at ws ≡ matcher_words v ++ (matcher_words_all vs ++ rest) = e ∙ append_assoc (matcher_words v) (matcher_words_all vs) rest in
      let wp = x.0 false d at (matcher_words_all vs ++ rest) dp (omega arith) in
      let i : ℕ = (written ws d at 9).end in
      let ip : i ≡ at + length (matcher_words v) = wp.0 in
      let wq = rest_matchers vs x.1 d i rest (ap (λ k. drop k ws) ip ∙ past ws at (matcher_words v) (matcher_words_all vs ++ rest) dp) (omega arith) in
      let iq : (parts (written ws d) 9 (Some Comma) (countᵐ vs) i 9 (Some Comma)).end ≡ i + length (matcher_words_all vs) = wq.0 in (
        iq ∙ (omega arith),
        λ ts. append_assoc (written ws d at 9).inks (parts (written ws d) 9 (Some Comma) (countᵐ vs) i 9 (Some Comma)).inks (inks_of (mark closing ∷ ts))
            ∙ ap (λ z. (written ws d at 9).inks ++ z) (wq.1 ts) ∙ wp.1 (M.write_rest vs ts),
      )

  bare_walks : (t : ℕ) (k : Mark) (what d at : ℕ) (rest : List ℤ) → what % 8 ≤ 7 → (node_of what t).level ≡ 7 → (node_of what t).operands ≡ Nothing → (node_of what t).parts ≡ Some 0
      → optional ((node_of what t).begins) ≡ ink_of (mark k) ∷ [] → optional ((node_of what t).ends) ≡ []
      → drop at ws ≡ pos t ∷ rest → 0 < d → Writes ws d at what (pos t ∷ []) (λ ts. mark k ∷ ts)
  unfolding Writes inks_of leaf head_of
  bare_walks t k what zero at rest l a b c i j e n = absurd (omega arith)
  bare_walks t k what (suc d) at rest l a b c i j e n =
      let hd = head_of_lem ws at (pos t) rest e in
      let all = row what d at t rest e ∙ leaf_node ws (written ws d) at what (node_of what t) hd.in' Nothing a l b c in (
        ap (λ z. z.end) all,
        λ ts. ap (λ z. z.inks ++ inks_of ts) all
            ∙ ap (λ z. ((z ++ []) ++ (optional ((node_of what t).ends) ++ [])) ++ inks_of ts) i ∙ ap (λ z. ink_of (mark k) ∷ ((z ++ []) ++ inks_of ts)) j,
      )

  wrapped : (k : Mark) (m : Matcher) (f : List Ink) (ts : List Token) → ((us : List Token) → f ++ inks_of us ≡ inks_of (M.write true m us)) → (b : Bool)
      → bracket 1 (asked b) 6 ++ ((ink_of (mark k) ∷ []) ++ (f ++ (bracket 1 (asked b) 7 ++ inks_of ts))) ≡ inks_of (M.wrap b (λ us. mark k ∷ M.write true m us) ts)
  unfolding bracket asked M.wrap inks_of ink_of code
  wrapped k m f ts h true = ap (λ z. ink 6 0 ∷ ink_of (mark k) ∷ z) (h (mark closing ∷ ts))
  wrapped k m f ts h false = ap (λ z. ink_of (mark k) ∷ z) (h ts)

  of_walks : (t : ℕ) (w : Option Kind) (k : Mark) (m : Matcher) (b : Bool) → (node_of (asked b) t).level ≡ 1 → (node_of (asked b) t).begins ≡ w → (node_of (asked b) t).operands ≡ Nothing
      → (node_of (asked b) t).parts ≡ Some 1 → (node_of (asked b) t).first ≡ 10 → (node_of (asked b) t).ends ≡ None → optional w ≡ ink_of (mark k) ∷ [] → WalksMatcher m
      → (d at : ℕ) (rest : List ℤ) → drop at ws ≡ pos t ∷ (matcher_words m ++ rest) → suc (levels m) < d → Writes ws d at (asked b) (pos t ∷ matcher_words m) (M.wrap b (λ us. mark k ∷ M.write true m us))
  unfolding Writes asked
  of_walks t w k m b f₁ f₂ f₃ f₄ f₅ f₆ j x zero at rest e n = absurd (omega arith)
  of_walks t w k m b f₁ f₂ f₃ f₄ f₅ f₆ j x (suc d) at rest e n =
      let hd = head_of_lem ws at (pos t) (matcher_words m ++ rest) e in
      let wp = x true d (at + 1) rest (next_at at (pos t) (matcher_words m ++ rest) e) (omega arith) in
      let all = row (asked b) d at t (matcher_words m ++ rest) e ∙ word_node ws (written ws d) at (asked b) (node_of (asked b) t) hd.in' 1 w 10 f₁ f₂ f₃ f₄ f₅ f₆ in (
        ap (λ z. z.end) all ∙ wp.0 ∙ (omega arith),
        λ ts. ap (λ z. z.inks ++ inks_of ts) all
            ∙ flat_word (bracket 1 (asked b) 6) (optional w) (written ws d (at + 1) 10).inks (bracket 1 (asked b) 7) (inks_of ts)
            ∙ ap (λ z. bracket 1 (asked b) 6 ++ (z ++ ((written ws d (at + 1) 10).inks ++ (bracket 1 (asked b) 7 ++ inks_of ts)))) j
            ∙ wrapped k m (written ws d (at + 1) 10).inks ts wp.1 b,
      )

  something_walks : WalksMatcher something
  unfolding matcher_words levels M.write node_of optional ink_of code asked number_of
  something_walks true d at rest e o = bare_walks 0 anything 10 d at rest (omega arith) refl refl refl refl refl e o
  something_walks false d at rest e o = bare_walks 0 anything 9 d at rest (omega arith) refl refl refl refl refl e o

  integer_walks : WalksMatcher integer
  unfolding matcher_words levels M.write node_of optional ink_of code asked number_of
  integer_walks true d at rest e o = bare_walks 1 integers 10 d at rest (omega arith) refl refl refl refl refl e o
  integer_walks false d at rest e o = bare_walks 1 integers 9 d at rest (omega arith) refl refl refl refl refl e o

  list_walks : (m : Matcher) → WalksMatcher m → WalksMatcher (list m)
  unfolding matcher_words levels M.write node_of optional ink_of code asked number_of
  list_walks m x true d at rest e o = of_walks 2 (Some List') list_of m true refl refl refl refl refl refl refl x d at rest e o
  list_walks m x false d at rest e o = of_walks 2 (Some List') list_of m false refl refl refl refl refl refl refl x d at rest e o

  multiset_walks : (m : Matcher) → WalksMatcher m → WalksMatcher (multiset m)
  unfolding matcher_words levels M.write node_of optional ink_of code asked number_of
  multiset_walks m x true d at rest e o = of_walks 3 (Some Multiset) multiset_of m true refl refl refl refl refl refl refl x d at rest e o
  multiset_walks m x false d at rest e o = of_walks 3 (Some Multiset) multiset_of m false refl refl refl refl refl refl refl x d at rest e o

  many_matchers : (ms : Matchers) (what : ℕ) → what % 8 ≤ 7 → (node_of what 4).level ≡ 7 → (node_of what 4).begins ≡ Some Opening → (node_of what 4).operands ≡ Nothing → (node_of what 4).parts ≡ None
      → (node_of what 4).first ≡ 9 → (node_of what 4).others ≡ 9 → (node_of what 4).between ≡ Some Comma → (node_of what 4).ends ≡ Some Closing
      → AllMatchers ms → countᵐ ms < 256 → (d at : ℕ) (rest : List ℤ) → drop at ws ≡ pos 4 ∷ pos (countᵐ ms) ∷ (matcher_words_all ms ++ rest) → suc (levels_all ms) < d
      → Writes ws d at what (pos 4 ∷ pos (countᵐ ms) ∷ matcher_words_all ms) (λ ts. mark opening ∷ M.write_parts ms ts)
  unfolding Writes inks_of ink_of code optional number_of
  many_matchers ms what l f₁ f₂ f₃ f₄ f₅ f₆ f₇ f₈ x m zero at rest e o = absurd (omega arith)
  many_matchers ms what l f₁ f₂ f₃ f₄ f₅ f₆ f₇ f₈ x m (suc d) at rest e o =
      let hd = head_of_lem ws at (pos 4) (pos (countᵐ ms) ∷ (matcher_words_all ms ++ rest)) e in
      let wq = parts_matchers ms x d (at + 2) rest (third_at at (pos 4) (pos (countᵐ ms)) (matcher_words_all ms ++ rest) e) (omega arith) in
      let all = row what d at 4 (pos (countᵐ ms) ∷ (matcher_words_all ms ++ rest)) e
      ∙ many_node ws (written ws d) at what (node_of what 4) hd.in' (Some Opening) 9 (Some Closing) (countᵐ ms) f₁ l f₂ f₃ f₄ f₅ f₆ f₇ f₈ (operand_is at (pos 4) (pos (countᵐ ms)) (matcher_words_all ms ++ rest) e) m in (
        ap (λ z. z.end) all ∙ wq.0 ∙ (omega arith),
        λ ts. ap (λ z. z.inks ++ inks_of ts) all
            ∙ flat_many (optional (Some Opening)) (parts (written ws d) 9 (Some Comma) (countᵐ ms) (at + 2) 9 None).inks (optional (Some Closing)) (inks_of ts)
            ∙ ap (λ z. ink 6 0 ∷ z) (wq.1 ts),
      )

  tuple_walks : (ms : Matchers) → AllMatchers ms → countᵐ ms < 256 → WalksMatcher (tuple_of ms)
  unfolding matcher_words levels M.write node_of asked
  tuple_walks ms x m true d at rest e o = many_matchers ms 10 (omega arith) refl refl refl refl refl refl refl refl x m d at rest e o
  tuple_walks ms x m false d at rest e o = many_matchers ms 9 (omega arith) refl refl refl refl refl refl refl refl x m d at rest e o

  mutual
    unfolding M.Fine M.FineAll AllMatchers width countᵐ

    pub walks_matcher : (m : Matcher) → M.Fine m → WalksMatcher m
    walks_matcher something f = something_walks
    walks_matcher integer f = integer_walks
    walks_matcher (list m) f = list_walks m (walks_matcher m f)
    walks_matcher (multiset m) f = multiset_walks m (walks_matcher m f)
    walks_matcher (tuple_of ms) f = let k = at_most (countᵐ ms) f.0 in tuple_walks ms (walks_matchers ms f.1) (omega arith)

    walks_matchers : (ms : Matchers) → M.FineAll ms → AllMatchers ms
    walks_matchers no_matchers f = tt
    walks_matchers (m ▸ᵐ ms) f = (walks_matcher m f.0, walks_matchers ms f.1)
