-- Matchers: `something`, `integer`, `list M`, `multiset M`, `(M, N)`; their writing, their reading, and that what is written is read back.
use Rattle.std.specs.Prelude.{suc, ◌+◌, ◌≤◌, ◌<◌, ◌≡◌, refl, Bool, true, false, List, [], ◌∷◌, length, ltb, T}
use Rattle.std.proofs.Common.{arith, ◌∙◌}
use Rattle.rules.specs.Limits.{largest_width}
use Rattle.rules.specs.Forms.{Matcher, something, integer, list, multiset, tuple_of, Matchers, no_matchers, ◌▸ᵐ◌, countᵐ}
use Rattle.notation_rules.specs.Tokens.{Cause, cut_short, bracket_open, over_limit, Outcome}
use Rattle.notation_rules.specs.Tokens.{comma, opening, closing, anything, integers, list_of, multiset_of, Token, mark, sign, binds, uses, number, wrong}
use Rattle.notation_rules.specs.Tokens.{Step, next, no, Entry, ◌⇒◌, ◌refuses◌, code, look, Ended, is, lacks, Machine, run, run_next}
use Rattle.notation_rules.specs.PatternsBack.{width, at_most, test}

-- ---- Writing, in front of the tokens that follow. After `list` and `multiset` (true) stands one word or a bracket.
unfoldable pub wrap : Bool → (List Token → List Token) → List Token → List Token
wrap true w ts = mark opening ∷ w (mark closing ∷ ts)
wrap false w ts = w ts

unfoldable mutual
  unfolding wrap

  pub write : Bool → Matcher → List Token → List Token
  write b something ts = mark anything ∷ ts
  write b integer ts = mark integers ∷ ts
  write b (list m) ts = wrap b (λ us. mark list_of ∷ write true m us) ts
  write b (multiset m) ts = wrap b (λ us. mark multiset_of ∷ write true m us) ts
  write b (tuple_of ms) ts = mark opening ∷ write_parts ms ts

  pub write_parts : Matchers → List Token → List Token
  write_parts no_matchers ts = mark closing ∷ ts
  write_parts (m ▸ᵐ ms) ts = write false m (write_rest ms ts)

  pub write_rest : Matchers → List Token → List Token
  write_rest no_matchers ts = mark closing ∷ ts
  write_rest (m ▸ᵐ ms) ts = mark comma ∷ write false m (write_rest ms ts)

-- ---- Reading. `list` and `multiset` that wait for their matcher; a bracket with the parts before, the last one first.
pub data Frame : Type 0 where
  lists multisets : Frame
  opened : List Matcher → Frame

pub data Mode : Type 0 where
  want : Bool → List Frame → Mode
  have : Matcher → List Frame → Mode

-- A matcher ends the words that wait for it.
unfoldable pub ended : Matcher → List Frame → Mode
ended m [] = have m []
ended m (lists ∷ fs) = ended (list m) fs
ended m (multisets ∷ fs) = ended (multiset m) fs
ended m (opened ms ∷ fs) = have m (opened ms ∷ fs)

unfoldable pub onto : List Matcher → Matchers → Matchers
onto [] ms = ms
onto (k ∷ ks) ms = onto ks (k ▸ᵐ ms)

-- What a bracket holds at its end: one matcher is that matcher.
unfoldable pub grouped : List Matcher → Matcher → Matcher
unfolding onto
grouped [] m = m
grouped (k ∷ ks) m = tuple_of (onto (k ∷ ks) (m ▸ᵐ no_matchers))

unfoldable pub parts : Matcher → List Matcher → List Frame → Entry Mode
parts m ks fs = elim (ltb (suc (length ks)) largest_width) [ true ↦ comma ⇒ want false (opened (m ∷ ks) ∷ fs) | false ↦ comma refuses over_limit ]

unfoldable pub parted : Matcher → List Frame → List (Entry Mode)
unfolding ended grouped parts
parted m [] = []
parted m (lists ∷ fs) = []
parted m (multisets ∷ fs) = []
parted m (opened ks ∷ fs) = closing ⇒ ended (grouped ks m) fs ∷ parts m ks fs ∷ []

unfoldable pub at_mark : Mode → List (Entry Mode)
unfolding ended parted
at_mark (want true fs) = anything ⇒ ended something fs ∷ integers ⇒ ended integer fs ∷ opening ⇒ want false (opened [] ∷ fs) ∷ []
at_mark (want false fs) =
    anything ⇒ ended something fs
    ∷ integers ⇒ ended integer fs
    ∷ opening ⇒ want false (opened [] ∷ fs)
    ∷ list_of ⇒ want true (lists ∷ fs)
    ∷ multiset_of ⇒ want true (multisets ∷ fs)
    ∷ []
at_mark (have m fs) = parted m fs

unfoldable pub take : Mode → Token → Step Mode
unfolding look at_mark
take x (mark m) = look (at_mark x) m
take x (sign s) = no
take x (binds v) = no
take x (uses v) = no
take x (number n) = no
take x (wrong c) = no

unfoldable pub lacking : List Frame → Cause
lacking [] = cut_short
lacking (lists ∷ fs) = lacking fs
lacking (multisets ∷ fs) = lacking fs
lacking (opened ks ∷ fs) = bracket_open

unfoldable pub ending : Mode → Ended Matcher
unfolding lacking
ending (want b fs) = lacks (lacking fs)
ending (have m []) = is m
ending (have m (f ∷ fs)) = lacks (lacking (f ∷ fs))

unfoldable pub matchers : Machine Mode Matcher
unfolding take ending
matchers = record { step = take; end = ending }

-- ---- What can be written: tuples of two to four parts.
unfoldable mutual
  unfolding width countᵐ

  pub Fine : Matcher → Type 0
  Fine something = T true
  Fine integer = T true
  Fine (list m) = Fine m
  Fine (multiset m) = Fine m
  Fine (tuple_of ms) = T (width (countᵐ ms)) × FineAll ms

  pub FineAll : Matchers → Type 0
  FineAll no_matchers = T true
  FineAll (m ▸ᵐ ms) = Fine m × FineAll ms

-- ---- What is written is read back.
comma_next : (m : Matcher) (ks : List Matcher) (fs : List Frame) → suc (length ks) < 4 → look (parted m (opened ks ∷ fs)) comma ≡ next (want false (opened (m ∷ ks) ∷ fs))
unfolding parted parts look code
comma_next m ks fs h = test (λ e. look (closing ⇒ ended (grouped ks m) fs ∷ e ∷ []) comma ≡ next (want false (opened (m ∷ ks) ∷ fs))) (suc (length ks)) 4
    (λ g. refl) (λ g. absurd (omega arith))

module _ {B : Type 0} (go : Matcher → List Token → Outcome B) where
  mutual
    unfolding Fine FineAll width wrap write write_parts write_rest run matchers take look code at_mark ended parted onto grouped countᵐ

    pub back : (m : Matcher) (b : Bool) (fs : List Frame) (ts : List Token) → Fine m → run matchers go (want b fs) (write b m ts) ≡ run matchers go (ended m fs) ts
    back something true fs ts h = refl
    back something false fs ts h = refl
    back integer true fs ts h = refl
    back integer false fs ts h = refl
    back (list m) true fs ts h = back m true (lists ∷ (opened [] ∷ fs)) (mark closing ∷ ts) h
    back (list m) false fs ts h = back m true (lists ∷ fs) ts h
    back (multiset m) true fs ts h = back m true (multisets ∷ (opened [] ∷ fs)) (mark closing ∷ ts) h
    back (multiset m) false fs ts h = back m true (multisets ∷ fs) ts h
    back (tuple_of ms) true fs ts h = back_parts ms fs ts h.0 h.1
    back (tuple_of ms) false fs ts h = back_parts ms fs ts h.0 h.1

    back_parts : (ms : Matchers) (fs : List Frame) (ts : List Token) → T (width (countᵐ ms)) → FineAll ms
        → run matchers go (want false (opened [] ∷ fs)) (write_parts ms ts) ≡ run matchers go (ended (tuple_of ms) fs) ts
    back_parts no_matchers fs ts l h = absurd l
    back_parts (m ▸ᵐ ms) fs ts l h = back m false (opened [] ∷ fs) (write_rest ms ts) h.0 ∙ back_second ms m fs ts l h.1

    back_second : (ms : Matchers) (k : Matcher) (fs : List Frame) (ts : List Token) → T (width (suc (countᵐ ms))) → FineAll ms
        → run matchers go (have k (opened [] ∷ fs)) (write_rest ms ts) ≡ run matchers go (ended (tuple_of (k ▸ᵐ ms)) fs) ts
    back_second no_matchers k fs ts l h = absurd l
    back_second (m ▸ᵐ ms) k fs ts l h =
        let most = at_most (suc (suc (countᵐ ms))) l in
        run_next matchers go (have k (opened [] ∷ fs)) (want false (opened (k ∷ []) ∷ fs)) (mark comma) (write false m (write_rest ms ts)) (comma_next k [] fs (omega arith))
        ∙ back m false (opened (k ∷ []) ∷ fs) (write_rest ms ts) h.0 ∙ back_rest ms m k [] fs ts (omega arith) h.1

    back_rest : (ms : Matchers) (k l : Matcher) (ks : List Matcher) (fs : List Frame) (ts : List Token) → 2 + length ks + countᵐ ms ≤ 4 → FineAll ms
        → run matchers go (have k (opened (l ∷ ks) ∷ fs)) (write_rest ms ts) ≡ run matchers go (ended (tuple_of (onto (l ∷ ks) (k ▸ᵐ ms))) fs) ts
    back_rest no_matchers k l ks fs ts b h = refl
    back_rest (m ▸ᵐ ms) k l ks fs ts b h =
        run_next matchers go (have k (opened (l ∷ ks) ∷ fs)) (want false (opened (k ∷ (l ∷ ks)) ∷ fs)) (mark comma) (write false m (write_rest ms ts)) (comma_next k (l ∷ ks) fs (omega arith))
        ∙ back m false (opened (k ∷ (l ∷ ks)) ∷ fs) (write_rest ms ts) h.0 ∙ back_rest ms m k (l ∷ ks) fs ts (omega arith) h.1
