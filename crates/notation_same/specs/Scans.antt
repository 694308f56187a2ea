-- The tokens that the scanner's code gives, with their places, are the notation's.
use Prim.Native.Nat.{ℕ, ◌+◌, ◌-◌, ◌≤◌, ◌<◌}
use native.Mathlib.Omega.{arith}
use Rattle.std.proofs.Common.{add-one, ◌∙◌, take-suc, length-take-le}
use Rattle.std.specs.Prelude.{◌≡◌, Bool, unwrap_or, is_some, option_map, position, get_or, drop, take, eqb, ltb}
use Rattle.std.specs.Prelude.{Option as Option'}
use Rattle.std.proofs.Math.Path.{refl, ap}
use Rattle.std.proofs.Math.Bool.{true, false, cond}
use Rattle.std.proofs.Math.Option.{Option, none, some}
use mathlib.Core.List.{List, [], ◌∷◌, ◌++◌}
use Rattle.std.proofs.Math.ListN.{length}
use Rattle.std.proofs.Math.Seq.{slice}
use Rattle.std.proofs.lemmas.List.{drop-append-le}
use Rattle.notation_rules.specs.Tokens.{Mark, anything, integers, list_of, multiset_of, matching, by, with', Raw, mark, binds, uses, wrong, unknown_sign}
use Rattle.notation_rules.specs.Letters.{Begun, full, digits, huge, same_word, spell_mark, mark_of, reserved, bound, tokens}
use Rattle.notation_rules.specs.Places.{Spot, ◌from◌, spots}
use Rattle.notation_scan.specs.Scanned.{final_of, reserved_of, word_kind, name_kind}
use Rattle.notation_scan.specs.declared.Begun.{Begun as Code}
use Rattle.notation_scan.specs.declared.Token.{Token}
use Rattle.notation_same.specs.Chars.{token_of}
use Rattle.notation_same.specs.Steps.{number_of, begun_by, State, blank, comments, digiting, wording, bare, naming, one_plus, one_colon, one_dash, whole}

-- ---- What was begun, as a token.
abbrev word_token : (v : ℕ) (b w : List ℕ) → (k : ℕ) → List Raw
word_token v b w k = token_of k v b w ∷ []

chain : (a b c d e f g : Bool) → Option' ℕ
chain a b c d e f g = option_map (λ k. 10 + k) (position (λ x. x) (a ∷ b ∷ c ∷ d ∷ e ∷ f ∷ g ∷ []))

marks : (a b c d e f g : Bool) → Option Mark
marks a b c d e f g =
    elim a as (λ _. Option Mark) [
      | true ↦ some anything
      | false ↦ elim b as (λ _. Option Mark) [
        | true ↦ some integers
        | false ↦ elim c as (λ _. Option Mark) [
          | true ↦ some list_of
          | false
              ↦ elim d as (λ _. Option Mark) [
                | true ↦ some multiset_of
                | false ↦ elim e as (λ _. Option Mark) [
                  | true ↦ some matching
                  | false ↦ elim f as (λ _. Option Mark) [
                    | true ↦ some by
                    | false
                        ↦ elim g as (λ _. Option Mark) [ true ↦ some with' | false ↦ none ]
                  ]
                ]
              ]
        ]
      ]
    ]

module _ (v : ℕ) (n w : List ℕ) where
  word_go : (a b c d e f g : Bool)
      → (◌≡◌ {A = List Raw} (elim (marks a b c d e f g) as (λ _. List Raw) [ none ↦ uses w ∷ [] | some m ↦ mark m ∷ [] ])
      (token_of (unwrap_or (chain a b c d e f g) 22) v n w ∷ []))
      × (eqb (unwrap_or (chain a b c d e f g) 22) 24 ≡ false)
  unfolding marks chain token_of
  word_go true b c d e f g = (refl, refl)
  word_go false true c d e f g = (refl, refl)
  word_go false false true d e f g = (refl, refl)
  word_go false false false true e f g = (refl, refl)
  word_go false false false false true f g = (refl, refl)
  word_go false false false false false true g = (refl, refl)
  word_go false false false false false false true = (refl, refl)
  word_go false false false false false false false = (refl, refl)

  name_go : (d' : ℕ) (n' : List ℕ) (a b c d e f g : Bool)
      → (◌≡◌ {A = List Raw} ((elim (marks a b c d e f g) as (λ _. Raw) [ none ↦ binds (d' ∷ n') | some m ↦ wrong unknown_sign ]) ∷ [])
      (token_of (cond (is_some (chain a b c d e f g)) 25 21) v (d' ∷ n') w ∷ []))
      × (eqb (cond (is_some (chain a b c d e f g)) 25 21) 24 ≡ false)
  unfolding marks chain token_of
  name_go d' n' true b c d e f g = (refl, refl)
  name_go d' n' false true c d e f g = (refl, refl)
  name_go d' n' false false true d e f g = (refl, refl)
  name_go d' n' false false false true e f g = (refl, refl)
  name_go d' n' false false false false true f g = (refl, refl)
  name_go d' n' false false false false false true g = (refl, refl)
  name_go d' n' false false false false false false true = (refl, refl)
  name_go d' n' false false false false false false false = (refl, refl)

  number_go : (t : Bool) → (◌≡◌ {A = List Raw} (tokens (cond t huge (digits v))) (token_of (cond t 32 23) v n w ∷ [])) × (eqb (cond t 32 23) 24 ≡ false)
  unfolding tokens token_of
  number_go true = (refl, refl)
  number_go false = (refl, refl)

-- The code's number of what was begun.
unfoldable pub finished_by : (s value k : ℕ) → (w n : List ℕ) → ℕ
unfolding word_kind name_kind final_of
finished_by s value k w n = cond (eqb s 10) k
    (cond (eqb s 2) (cond (ltb 2147483648 value) 32 23)
    (cond (eqb s 4) (word_kind w)
    (cond (eqb s 6) (name_kind n)
    (final_of s))))

pub tokens_are : {s k : ℕ} {n : List ℕ} (value : ℕ) (w : List ℕ) → State s k n → 1 < s
    → (tokens (begun_by s value k w n) ≡ token_of (finished_by s value k w n) value n w ∷ []) × (eqb (finished_by s value k w n) 24 ≡ false)
unfolding tokens bound begun_by number_of finished_by final_of word_kind name_kind reserved_of reserved mark_of token_of marks chain
tokens_are value w blank h = absurd (omega arith)
tokens_are value w comments h = absurd (omega arith)
tokens_are value w (digiting {k} {n}) h = number_go value n w (ltb 2147483648 value)
tokens_are value w (wording {k} {n}) h =
    word_go value n w (same_word (spell_mark anything) w) (same_word (spell_mark integers) w) (same_word (spell_mark list_of) w) (same_word (spell_mark multiset_of) w) (same_word (spell_mark matching) w)
    (same_word (spell_mark by) w) (same_word (spell_mark with') w)
tokens_are value w bare h = (refl, refl)
tokens_are value w (naming {k} {d} {n}) h =
    name_go value [] w d n (same_word (spell_mark anything) (d ∷ n)) (same_word (spell_mark integers) (d ∷ n)) (same_word (spell_mark list_of) (d ∷ n)) (same_word (spell_mark multiset_of) (d ∷ n))
    (same_word (spell_mark matching) (d ∷ n)) (same_word (spell_mark by) (d ∷ n)) (same_word (spell_mark with') (d ∷ n))
tokens_are value w one_plus h = (refl, refl)
tokens_are value w one_colon h = (refl, refl)
tokens_are value w one_dash h = (refl, refl)
tokens_are value w (whole {k} {n} p r) h = (ap (λ t. t ∷ []) (p value n w), r)

pub no_tokens : {s k : ℕ} {n : List ℕ} (value : ℕ) (w : List ℕ) → State s k n → s ≤ 1 → (tokens (begun_by s value k w n) ≡ []) × (finished_by s value k w n ≡ 24)
unfolding tokens begun_by finished_by final_of
no_tokens value w blank h = (refl, refl)
no_tokens value w comments h = (refl, refl)
no_tokens value w digiting h = absurd (omega arith)
no_tokens value w wording h = absurd (omega arith)
no_tokens value w bare h = absurd (omega arith)
no_tokens value w naming h = absurd (omega arith)
no_tokens value w one_plus h = absurd (omega arith)
no_tokens value w one_colon h = absurd (omega arith)
no_tokens value w one_dash h = absurd (omega arith)
no_tokens value w (whole p r) h = absurd (omega arith)

-- ---- Parts of a text.
pub snoc : (text : List ℕ) (f i : ℕ) → f ≤ i → i < length text → slice f (i + 1) text ≡ slice f i text ++ (get_or text i 0 ∷ [])
snoc text f i h l =
    ap (λ k. slice f k text) (add-one i) ∙ ap (drop f) (take-suc text i 0 l)
    ∙ drop-append-le f (take i text) (get_or text i 0 ∷ []) (rw (length-take-le i text (omega arith)) h)

-- What was begun with b, up to index i.
unfoldable pub begun_of : List ℕ → Code → (i : ℕ) → Begun
unfolding begun_by
begun_of text b i = begun_by b.state b.value b.kind (slice b.from i text) (slice b.name i text)

-- The tokens from a token of the code on.
unfoldable pub raw_of : List ℕ → Token → Raw
unfolding token_of
raw_of text t = token_of t.kind t.value (slice t.name t.to text) (slice t.from t.to text)

unfoldable pub spotted : List ℕ → Token → List Spot
unfolding raw_of spots
spotted text t = cond (eqb t.kind 24) [] (raw_of text t from (length text - t.from) ∷ spots (full []) 0 (drop t.to text))

unfoldable pub Bytes : List ℕ → Type 0
Bytes text = (i : ℕ) → get_or text i 0 < 256
