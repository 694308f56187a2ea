-- Laws of what specs/Patterns.antt defines.
use Prim.Native.Nat.{ℕ, zero, suc, ◌+◌, ◌%◌, ◌≤◌, ◌<◌}
use native.Mathlib.Omega.{arith}
use Rattle.std.proofs.Common.{add-one, sym, ◌∙◌, le-ltb, of_z}
use Rattle.std.specs.Prelude.{◌≡◌, Bool, Option, Some, None, ltb, T, get_or, ℤ, pos}
use Rattle.std.proofs.Math.Path.{refl, ap}
use Rattle.std.proofs.Math.Bool.{true, false, cond}
use mathlib.Core.List.{List, [], ◌∷◌, ◌++◌, append_assoc}
use Rattle.std.proofs.Math.ListN.{length, drop, length-append}
use mir.Syntax.{w32}
use Rattle.rules.specs.Numbers.{in_range}
use Rattle.rules.specs.Forms.{Pattern, wildcard, variable, constant, value, nil, cons, join, tuple, both, either, never, Patterns, no_patterns, ◌▸ᵖ◌, countᵖ}
use Rattle.forms.specs.Written.{pattern_words, pattern_words_all}
use Rattle.notation_rules.specs.Tokens.{Sign, consing, joining, anding, oring, bang, opening, closing, Token, mark, sign, code}
use Rattle.notation_rules.specs.Patterns as P
use Rattle.notation_rules.specs.PatternsBack.{Fine, FineAll, width, at_most}
use Rattle.notation_print.specs.Kinds.{number_of}
use Rattle.notation_print.specs.declared.Kind.{Kind}
use Rattle.notation_print.specs.declared.Kind.TheVariants.{Bang, Comma, Opening, Closing, Cons, Join, And, Or}
use Rattle.notation_write.specs.Written.{no_tag, nodes, node_of, bits_at, head_of, Ink, ink, optional, signed, valued, leaf, bracket, parts, within, written}
use Rattle.notation_write.specs.declared.Operands.{Operands}
use Rattle.notation_write.specs.declared.Operands.TheVariants.{Nothing, OneNumber, OneVariable, VariableAndNumber}
use Rattle.notation_promises.specs.Printed.{sign_code, ink_of, inks_of}
use Rattle.notation_promises.specs.Numbers.{constant_written, value_written}
use Rattle.notation_promises.specs.Walked.{Head, head_of_lem, past, tag_is, bits_is, pattern_node, step_is, no_bracket, leaf_node, pair_node, word_node, many_node}
use Rattle.notation_promises.specs.Patterns.{Writes, flat_many, flat_pair, flat_word, no_more}

bracket_is : (own l k : ℕ) → l < 8 → bracket own l k ≡ cond (ltb own l) (ink k 0 ∷ []) []
unfolding bracket
bracket_is own l k h = let e : l % 8 ≡ l = omega arith in ap (λ m. cond (ltb own m) (ink k 0 ∷ []) []) e

module _ (ws : List ℤ) where
  -- At every level, depth and index where its words stand.
  abbrev pub Walks : Pattern → Type 0
  Walks p = (l d at : ℕ) (rest : List ℤ) → l < 5 → drop at ws ≡ pattern_words p ++ rest → length (pattern_words p) ≤ d → Writes ws d at l (pattern_words p) (P.write l p)

  row : (l d at t : ℕ) (rest : List ℤ) → l < 5 → t < 11 → drop at ws ≡ pos t ∷ rest → written ws (suc d) at l ≡ within ws (written ws d) at l (get_or nodes t no_tag)
  row l d at t rest h g e = step_is ws d at l (get_or nodes t no_tag) (ap (node_of l) (tag_is ws at t rest (head_of_lem ws at (pos t) rest e)) ∙ pattern_node l t (omega arith) g)

  next_at : (at : ℕ) (w : ℤ) (rest : List ℤ) → drop at ws ≡ w ∷ rest → drop (at + 1) ws ≡ rest
  next_at at w rest e = ap (λ i. drop i ws) (add-one at) ∙ (head_of_lem ws at w rest e).tail

  second_at : (at : ℕ) (w v : ℤ) (rest : List ℤ) → drop at ws ≡ w ∷ v ∷ rest → Head ws (at + 1) v rest
  second_at at w v rest e = head_of_lem ws (at + 1) v rest (next_at at w (v ∷ rest) e)

  -- ---- Two parts.
  module _ (t own : ℕ) (sc : Option Kind) (s : Sign) (p q : Pattern) (g : t < 11) (o : 0 < own) (o' : own < 4)
      (f₁ : (get_or nodes t no_tag).level ≡ own) (f₂ : (get_or nodes t no_tag).begins ≡ None) (f₃ : (get_or nodes t no_tag).operands ≡ Nothing) (f₄ : (get_or nodes t no_tag).parts ≡ Some 2)
      (f₅ : (get_or nodes t no_tag).first ≡ suc own) (f₆ : (get_or nodes t no_tag).others ≡ own) (f₇ : (get_or nodes t no_tag).between ≡ sc)
      (f₈ : (get_or nodes t no_tag).ends ≡ None) (k : optional sc ≡ ink_of (sign s) ∷ []) (x : Walks p) (y : Walks q) where
    both_tokens : (l : ℕ) (ts : List Token) (f g : List Ink) → l < 5 → ((us : List Token) → f ++ inks_of us ≡ inks_of (P.write (suc own) p us)) → ((us : List Token) → g ++ inks_of us ≡ inks_of (P.write own q us))
        → bracket own l 6 ++ (f ++ (optional sc ++ (g ++ (bracket own l 7 ++ inks_of ts)))) ≡ inks_of (P.wrap own l (λ us. P.write (suc own) p (sign s ∷ P.write own q us)) ts)
    unfolding P.wrap inks_of ink_of code
    both_tokens l ts f g h i j =
        ap (λ b. b ++ (f ++ (optional sc ++ (g ++ (bracket own l 7 ++ inks_of ts))))) (bracket_is own l 6 (omega arith))
        ∙ ap (λ b. cond (ltb own l) (ink 6 0 ∷ []) [] ++ (f ++ (optional sc ++ (g ++ (b ++ inks_of ts))))) (bracket_is own l 7 (omega arith))
        ∙ ap (λ b. cond (ltb own l) (ink 6 0 ∷ []) [] ++ (f ++ (b ++ (g ++ (cond (ltb own l) (ink 7 0 ∷ []) [] ++ inks_of ts))))) k
        ∙ go (ltb own l)
      where
        go : (b : Bool) → cond b (ink 6 0 ∷ []) [] ++ (f ++ (ink_of (sign s) ∷ (g ++ (cond b (ink 7 0 ∷ []) [] ++ inks_of ts))))
            ≡ inks_of (elim b as (λ _. List Token) [ true ↦ mark opening ∷ P.write (suc own) p (sign s ∷ P.write own q (mark closing ∷ ts)) | false ↦ P.write (suc own) p (sign s ∷ P.write own q ts) ])
        go true = ap (λ z. ink 6 0 ∷ z) (ap (λ z. f ++ (ink_of (sign s) ∷ z)) (j (mark closing ∷ ts)) ∙ i (sign s ∷ P.write own q (mark closing ∷ ts)))
        go false = ap (λ z. f ++ (ink_of (sign s) ∷ z)) (j ts) ∙ i (sign s ∷ P.write own q ts)

    pair_walks : (l d at : ℕ) (rest : List ℤ) → l < 5 → drop at ws ≡ (pos t ∷ (pattern_words p ++ pattern_words q)) ++ rest → length (pos t ∷ (pattern_words p ++ pattern_words q)) ≤ d
        → Writes ws d at l (pos t ∷ (pattern_words p ++ pattern_words q)) (P.wrap own l (λ us. P.write (suc own) p (sign s ∷ P.write own q us)))
    unfolding Writes
    pair_walks l zero at rest h e n = absurd (omega arith)
    pair_walks l (suc d) at rest h e n =
        let hd = head_of_lem ws at (pos t) ((pattern_words p ++ pattern_words q) ++ rest) e in
        let len = length-append (pattern_words p) (pattern_words q) in
        let dp : drop (at + 1) ws ≡ pattern_words p ++ (pattern_words q ++ rest) = next_at at (pos t) ((pattern_words p ++ pattern_words q) ++ rest) e ∙ append_assoc (pattern_words p) (pattern_words q) rest in
        let wp = x (suc own) d (at + 1) (pattern_words q ++ rest) (omega arith) dp (omega arith) in
        let i : ℕ = (written ws d (at + 1) (suc own)).end in
        let ip : i ≡ at + 1 + length (pattern_words p) = wp.0 in
        let dq : drop i ws ≡ pattern_words q ++ rest = ap (λ k. drop k ws) ip ∙ past ws (at + 1) (pattern_words p) (pattern_words q ++ rest) dp in
        let wq = y own d i rest (omega arith) dq (omega arith) in
        let iq : (written ws d i own).end ≡ i + length (pattern_words q) = wq.0 in
        let all = row l d at t ((pattern_words p ++ pattern_words q) ++ rest) h g e ∙ pair_node ws (written ws d) at l (get_or nodes t no_tag) hd.in' own (suc own) own sc f₁ f₂ f₃ f₄ f₅ f₆ f₇ f₈ in (
          ap (λ z. z.end) all ∙ iq ∙ (omega arith),
          λ ts. ap (λ z. z.inks ++ inks_of ts) all
              ∙ flat_pair (bracket own l 6) (written ws d (at + 1) (suc own)).inks (optional sc) (written ws d i own).inks (bracket own l 7) (inks_of ts)
              ∙ both_tokens l ts (written ws d (at + 1) (suc own)).inks (written ws d i own).inks h wp.1 wq.1,
        )

  -- ---- No parts.
  leaf_walks : (t : ℕ) (lc : Operands) (l d at : ℕ) (us rest : List ℤ) (w : List Token → List Token) → l < 5 → t < 11 → (get_or nodes t no_tag).level ≡ 7 → (get_or nodes t no_tag).operands ≡ lc → (get_or nodes t no_tag).parts ≡ Some 0
      → drop at ws ≡ pos t ∷ rest → 0 < d → head_of lc (Some 0) ≡ length us
      → ((ts : List Token) → ((optional ((get_or nodes t no_tag).begins) ++ leaf ws at lc) ++ (optional ((get_or nodes t no_tag).ends) ++ [])) ++ inks_of ts ≡ inks_of (w ts))
      → Writes ws d at l us w
  unfolding Writes
  leaf_walks t lc l zero at us rest w h g a b c e n k f = absurd (omega arith)
  leaf_walks t lc l (suc d) at us rest w h g a b c e n k f =
      let hd = head_of_lem ws at (pos t) rest e in
      let all = row l d at t rest h g e ∙ leaf_node ws (written ws d) at l (get_or nodes t no_tag) hd.in' lc a (omega arith) b c in
      (ap (λ z. z.end) all ∙ ap (λ i. at + i) k, λ ts. ap (λ z. z.inks ++ inks_of ts) all ∙ f ts)

  operand_is : (at : ℕ) (w v : ℤ) (rest : List ℤ) → drop at ws ≡ w ∷ v ∷ rest → bits_at ws at 1 ≡ of_z w32 v
  operand_is at w v rest e = bits_is ws at 1 v rest (head_of_lem ws at w (v ∷ rest) e).in' (second_at at w v rest e)

  further_is : (at : ℕ) (w v c : ℤ) (rest : List ℤ) → drop at ws ≡ w ∷ v ∷ c ∷ rest → bits_at ws at 2 ≡ of_z w32 c
  further_is at w v c rest e =
      let i : suc (at + 1) ≡ at + 2 = omega arith in
      bits_is ws at 2 c rest (head_of_lem ws at w (v ∷ c ∷ rest) e).in' (head_of_lem ws (at + 2) c rest (ap (λ k. drop k ws) (sym i) ∙ (second_at at w v (c ∷ rest) e).tail))

  -- ---- `!`.
  never_walks : (p : Pattern) → Walks p → (l d at : ℕ) (rest : List ℤ) → l < 5 → drop at ws ≡ pos 10 ∷ (pattern_words p ++ rest) → length (pos 10 ∷ pattern_words p) ≤ d
      → Writes ws d at l (pos 10 ∷ pattern_words p) (P.wrap 4 l (λ us. mark bang ∷ P.write 4 p us))
  unfolding Writes P.wrap inks_of ink_of code optional number_of
  never_walks p x l zero at rest h e n = absurd (omega arith)
  never_walks p x l (suc d) at rest h e n =
      let hd = head_of_lem ws at (pos 10) (pattern_words p ++ rest) e in
      let wp = x 4 d (at + 1) rest (omega arith) (next_at at (pos 10) (pattern_words p ++ rest) e) (omega arith) in
      let all = row l d at 10 (pattern_words p ++ rest) h (omega arith) e ∙ word_node ws (written ws d) at l (get_or nodes 10 no_tag) hd.in' 7 (Some Bang) 4 refl refl refl refl refl refl in (
        ap (λ z. z.end) all ∙ wp.0 ∙ (omega arith),
        λ ts. ap (λ z. z.inks ++ inks_of ts) all
            ∙ flat_word (bracket 7 l 6) (optional (Some Bang)) (written ws d (at + 1) 4).inks (bracket 7 l 7) (inks_of ts)
            ∙ ap (λ b. b ++ (optional (Some Bang) ++ ((written ws d (at + 1) 4).inks ++ (bracket 7 l 7 ++ inks_of ts)))) (no_bracket 7 l 6 (omega arith))
            ∙ ap (λ b. ink 2 0 ∷ ((written ws d (at + 1) 4).inks ++ (b ++ inks_of ts))) (no_bracket 7 l 7 (omega arith))
            ∙ ap (λ z. ink 2 0 ∷ z) (wp.1 ts)
            ∙ ap (λ b. inks_of (elim b as (λ _. List Token) [ true ↦ mark opening ∷ mark bang ∷ P.write 4 p (mark closing ∷ ts) | false ↦ mark bang ∷ P.write 4 p ts ])) (sym (le-ltb 4 l (omega arith))),
      )

  -- ---- Tuples.
  unfoldable AllWalk : Patterns → Type 0
  AllWalk no_patterns = T true
  AllWalk (p ▸ᵖ ps) = Walks p × AllWalk ps

  rest_walks : (ps : Patterns) → AllWalk ps → (d at : ℕ) (rest : List ℤ) → drop at ws ≡ pattern_words_all ps ++ rest → length (pattern_words_all ps) ≤ d
      → (parts (written ws d) 1 (Some Comma) (countᵖ ps) at 1 (Some Comma)).end ≡ at + length (pattern_words_all ps)
      × ((ts : List Token) → (parts (written ws d) 1 (Some Comma) (countᵖ ps) at 1 (Some Comma)).inks ++ inks_of (mark closing ∷ ts) ≡ inks_of (P.write_rest ps ts))
  unfolding AllWalk Writes parts countᵖ pattern_words_all P.write_rest inks_of ink_of code optional number_of
  rest_walks no_patterns x d at rest e n = (omega arith, λ ts. refl)
  rest_walks (p ▸ᵖ ps) x d at rest e n =
      let len = length-append (pattern_words p) (pattern_words_all ps) in
      let dp : drop at ws ≡ pattern_words p ++ (pattern_words_all ps ++ rest) = e ∙ append_assoc (pattern_words p) (pattern_words_all ps) rest in
      let wp = x.0 1 d at (pattern_words_all ps ++ rest) (omega arith) dp (omega arith) in
      let i : ℕ = (written ws d at 1).end in
      let ip : i ≡ at + length (pattern_words p) = wp.0 in
      let dq : drop i ws ≡ pattern_words_all ps ++ rest = ap (λ k. drop k ws) ip ∙ past ws at (pattern_words p) (pattern_words_all ps ++ rest) dp in
      let wq = rest_walks ps x.1 d i rest dq (omega arith) in
      let iq : (parts (written ws d) 1 (Some Comma) (countᵖ ps) i 1 (Some Comma)).end ≡ i + length (pattern_words_all ps) = wq.0 in (
        iq ∙ (omega arith),
        λ ts. ap (λ z. ink 5 0 ∷ z) (append_assoc (written ws d at 1).inks (parts (written ws d) 1 (Some Comma) (countᵖ ps) i 1 (Some Comma)).inks (inks_of (mark closing ∷ ts))
            ∙ ap (λ z. (written ws d at 1).inks ++ z) (wq.1 ts) ∙ wp.1 (P.write_rest ps ts)),
      )

  parts_walk : (ps : Patterns) → AllWalk ps → (d at : ℕ) (rest : List ℤ) → drop at ws ≡ pattern_words_all ps ++ rest → length (pattern_words_all ps) ≤ d
      → (parts (written ws d) 1 (Some Comma) (countᵖ ps) at 1 None).end ≡ at + length (pattern_words_all ps)
      × ((ts : List Token) → (parts (written ws d) 1 (Some Comma) (countᵖ ps) at 1 None).inks ++ inks_of (mark closing ∷ ts) ≡ inks_of (P.write_parts ps ts))
  unfolding AllWalk Writes parts countᵖ pattern_words_all P.write_parts inks_of ink_of code optional number_of
  parts_walk no_patterns x d at rest e n = (omega arith, λ ts. refl)
  parts_walk (p ▸ᵖ ps) x d at rest e n =
      let len = length-append (pattern_words p) (pattern_words_all ps) in
      let dp : drop at ws ≡ pattern_words p ++ (pattern_words_all ps ++ rest) = e ∙ append_assoc (pattern_words p) (pattern_words_all ps) rest in
      let wp = x.0 1 d at (pattern_words_all ps ++ rest) (omega arith) dp (omega arith) in
      let i : ℕ = (written ws d at 1).end in
      let ip : i ≡ at + length (pattern_words p) = wp.0 in
      let dq : drop i ws ≡ pattern_words_all ps ++ rest = ap (λ k. drop k ws) ip ∙ past ws at (pattern_words p) (pattern_words_all ps ++ rest) dp in
      let wq = rest_walks ps x.1 d i rest dq (omega arith) in
      let iq : (parts (written ws d) 1 (Some Comma) (countᵖ ps) i 1 (Some Comma)).end ≡ i + length (pattern_words_all ps) = wq.0 in (
        iq ∙ (omega arith),
        λ ts. append_assoc (written ws d at 1).inks (parts (written ws d) 1 (Some Comma) (countᵖ ps) i 1 (Some Comma)).inks (inks_of (mark closing ∷ ts))
            ∙ ap (λ z. (written ws d at 1).inks ++ z) (wq.1 ts) ∙ wp.1 (P.write_rest ps ts),
      )

  tuple_walks : (ps : Patterns) → AllWalk ps → countᵖ ps < 256 → (l d at : ℕ) (rest : List ℤ) → l < 5 → drop at ws ≡ pos 7 ∷ pos (countᵖ ps) ∷ (pattern_words_all ps ++ rest)
      → length (pos 7 ∷ pos (countᵖ ps) ∷ pattern_words_all ps) ≤ d → Writes ws d at l (pos 7 ∷ pos (countᵖ ps) ∷ pattern_words_all ps) (λ ts. mark opening ∷ P.write_parts ps ts)
  unfolding Writes inks_of ink_of code optional number_of
  tuple_walks ps x m l zero at rest h e n = absurd (omega arith)
  tuple_walks ps x m l (suc d) at rest h e n =
      let hd = head_of_lem ws at (pos 7) (pos (countᵖ ps) ∷ (pattern_words_all ps ++ rest)) e in
      let i : suc (at + 1) ≡ at + 2 = omega arith in
      let dq : drop (at + 2) ws ≡ pattern_words_all ps ++ rest = ap (λ k. drop k ws) (sym i) ∙ (second_at at (pos 7) (pos (countᵖ ps)) (pattern_words_all ps ++ rest) e).tail in
      let wq = parts_walk ps x d (at + 2) rest dq (omega arith) in
      let all = row l d at 7 (pos (countᵖ ps) ∷ (pattern_words_all ps ++ rest)) h (omega arith) e
      ∙ many_node ws (written ws d) at l (get_or nodes 7 no_tag) hd.in' (Some Opening) 1 (Some Closing) (countᵖ ps) refl (omega arith) refl refl refl refl refl refl refl (operand_is at (pos 7) (pos (countᵖ ps)) (pattern_words_all ps ++ rest) e) m in (
        ap (λ z. z.end) all ∙ wq.0 ∙ (omega arith),
        λ ts. ap (λ z. z.inks ++ inks_of ts) all
            ∙ flat_many (optional (Some Opening)) (parts (written ws d) 1 (Some Comma) (countᵖ ps) (at + 2) 1 None).inks (optional (Some Closing)) (inks_of ts)
            ∙ ap (λ z. ink 6 0 ∷ z) (wq.1 ts),
      )

  -- ---- All.
  value_walks : (v c : ℤ) (l d at : ℕ) (rest : List ℤ) → T (in_range c) → l < 5 → drop at ws ≡ pos 3 ∷ v ∷ c ∷ rest → 3 ≤ d → Writes ws d at l (pos 3 ∷ v ∷ c ∷ []) (P.write l (value v c))
  unfolding P.write optional leaf head_of number_of
  value_walks v c l d at rest r h e n = leaf_walks 3 VariableAndNumber l d at (pos 3 ∷ v ∷ c ∷ []) (v ∷ c ∷ rest) (P.write l (value v c)) h (omega arith) refl refl refl e (omega arith) refl
      (λ ts. ap (λ is. ink 1 0 ∷ (is ++ inks_of ts)) (sym (no_more (valued (bits_at ws at 1) (bits_at ws at 2)))
      ∙ ap (λ u. valued u (bits_at ws at 2)) (operand_is at (pos 3) v (c ∷ rest) e) ∙ ap (valued (of_z w32 v)) (further_is at (pos 3) v c rest e))
      ∙ value_written v c ts r)

  constant_walks : (c : ℤ) (l d at : ℕ) (rest : List ℤ) → T (in_range c) → l < 5 → drop at ws ≡ pos 2 ∷ c ∷ rest → 2 ≤ d → Writes ws d at l (pos 2 ∷ c ∷ []) (P.write l (constant c))
  unfolding P.write optional leaf head_of number_of
  constant_walks c l d at rest r h e n = leaf_walks 2 OneNumber l d at (pos 2 ∷ c ∷ []) (c ∷ rest) (P.write l (constant c)) h (omega arith) refl refl refl e (omega arith) refl
      (λ ts. ap (λ is. ink 1 0 ∷ (is ++ inks_of ts)) (sym (no_more (signed (bits_at ws at 1))) ∙ ap signed (operand_is at (pos 2) c rest e))
      ∙ constant_written c ts r)

  variable_walks : (v : ℤ) (l d at : ℕ) (rest : List ℤ) → l < 5 → drop at ws ≡ pos 1 ∷ v ∷ rest → 2 ≤ d → Writes ws d at l (pos 1 ∷ v ∷ []) (P.write l (variable v))
  unfolding P.write optional leaf head_of inks_of ink_of number_of
  variable_walks v l d at rest h e n = leaf_walks 1 OneVariable l d at (pos 1 ∷ v ∷ []) (v ∷ rest) (P.write l (variable v)) h (omega arith) refl refl refl e (omega arith) refl
      (λ ts. ap (λ u. ink 21 u ∷ inks_of ts) (operand_is at (pos 1) v rest e))

  mutual
    unfolding Fine FineAll AllWalk width pattern_words pattern_words_all countᵖ P.write P.level optional leaf head_of inks_of ink_of code sign_code number_of

    pub walks : (p : Pattern) → Fine p → Walks p
    walks wildcard f = λ l d at rest h e n. leaf_walks 0 Nothing l d at (pos 0 ∷ []) rest (P.write l wildcard) h (omega arith) refl refl refl e n refl (λ ts. refl)
    walks nil f = λ l d at rest h e n. leaf_walks 4 Nothing l d at (pos 4 ∷ []) rest (P.write l nil) h (omega arith) refl refl refl e n refl (λ ts. refl)
    walks (variable v) f = λ l d at rest h e n. variable_walks v l d at rest h e n
    walks (constant c) f = λ l d at rest h e n. constant_walks c l d at rest f h e n
    walks (value v c) f = λ l d at rest h e n. value_walks v c l d at rest f h e n
    walks (cons p q) f = λ l d at rest h e n. pair_walks 5 3 (Some Cons) consing p q (omega arith) (omega arith) (omega arith) refl refl refl refl refl refl refl refl refl (walks p f.0) (walks q f.1) l d at rest h e n
    walks (join p q) f = λ l d at rest h e n. pair_walks 6 3 (Some Join) joining p q (omega arith) (omega arith) (omega arith) refl refl refl refl refl refl refl refl refl (walks p f.0) (walks q f.1) l d at rest h e n
    walks (both p q) f = λ l d at rest h e n. pair_walks 8 2 (Some And) anding p q (omega arith) (omega arith) (omega arith) refl refl refl refl refl refl refl refl refl (walks p f.0) (walks q f.1) l d at rest h e n
    walks (either p q) f = λ l d at rest h e n. pair_walks 9 1 (Some Or) oring p q (omega arith) (omega arith) (omega arith) refl refl refl refl refl refl refl refl refl (walks p f.0) (walks q f.1) l d at rest h e n
    walks (never p) f = λ l d at rest h e n. never_walks p (walks p f) l d at rest h e n
    walks (tuple ps) f = λ l d at rest h e n. let m = at_most (countᵖ ps) f.0 in tuple_walks ps (all_walk ps f.1) (omega arith) l d at rest h e n

    all_walk : (ps : Patterns) → FineAll ps → AllWalk ps
    all_walk no_patterns f = tt
    all_walk (p ▸ᵖ ps) f = (walks p f.0, all_walk ps f.1)
