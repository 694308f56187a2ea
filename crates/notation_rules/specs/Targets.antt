-- Targets: `7`, `-7`, `[1, 2]`, `(1, 4)`; their writing, their reading, and that what is written is read back.
use Rattle.std.specs.Prelude.{ℕ, suc, ◌+◌, ◌≤◌, ◌<◌, ◌≡◌, refl, true, false, List, [], ◌∷◌, length, ltb, T, ℤ, pos, negsuc}
use Rattle.std.proofs.Common.{arith, ◌∙◌}
use Rattle.rules.specs.Limits.{largest_width}
use Rattle.rules.specs.Forms.{Value, int, collection, tupled, Values, empty, ◌▸◌, count}
use Rattle.rules.specs.Numbers.{in_range}
use Rattle.notation_rules.specs.Tokens.{Cause, cut_short, bracket_open, over_limit, Outcome}
use Rattle.notation_rules.specs.Tokens.{Mark, minus, comma, opening, closing, left, right, Token, mark, sign, binds, uses, number, wrong}
use Rattle.notation_rules.specs.Tokens.{Step, next, no, Entry, ◌⇒◌, ◌refuses◌, code, look, minus', numeral, ranged, ranged_in}
use Rattle.notation_rules.specs.Tokens.{Ended, is, lacks, Machine, run, run_next}
use Rattle.notation_rules.specs.PatternsBack.{width, at_most, test}

-- ---- Writing, in front of the tokens that follow.
unfoldable pub write_int : ℤ → List Token → List Token
write_int (pos n) ts = number n ∷ ts
write_int (negsuc n) ts = mark minus ∷ number (suc n) ∷ ts

unfoldable mutual
  unfolding write_int

  pub write : Value → List Token → List Token
  write (int x) ts = write_int x ts
  write (collection vs) ts = mark left ∷ write_items right vs ts
  write (tupled vs) ts = mark opening ∷ write_items closing vs ts

  pub write_items : Mark → Values → List Token → List Token
  write_items m empty ts = mark m ∷ ts
  write_items m (v ▸ vs) ts = write v (write_rest m vs ts)

  pub write_rest : Mark → Values → List Token → List Token
  write_rest m empty ts = mark m ∷ ts
  write_rest m (v ▸ vs) ts = mark comma ∷ write v (write_rest m vs ts)

-- ---- Reading. A bracket with the values before, the last one first.
pub data Frame : Type 0 where
  square round : List Value → Frame

pub data Mode : Type 0 where
  want negative : List Frame → Mode
  have : Value → List Frame → Mode

unfoldable pub onto : List Value → Values → Values
onto [] vs = vs
onto (u ∷ us) vs = onto us (u ▸ vs)

-- What a round bracket holds at its end: one value is that value.
unfoldable pub grouped : List Value → Value → Value
unfolding onto
grouped [] v = v
grouped (u ∷ us) v = tupled (onto (u ∷ us) (v ▸ empty))

unfoldable pub emptied : List Frame → List (Entry Mode)
emptied [] = []
emptied (square [] ∷ fs) = right ⇒ have (collection empty) fs ∷ []
emptied (square (u ∷ us) ∷ fs) = []
emptied (round us ∷ fs) = []

unfoldable pub parts : Value → List Value → List Frame → Entry Mode
parts v us fs = elim (ltb (suc (length us)) largest_width) [ true ↦ comma ⇒ want (round (v ∷ us) ∷ fs) | false ↦ comma refuses over_limit ]

unfoldable pub parted : Value → List Frame → List (Entry Mode)
unfolding onto grouped parts
parted v [] = []
parted v (square us ∷ fs) = right ⇒ have (collection (onto us (v ▸ empty))) fs ∷ comma ⇒ want (square (v ∷ us) ∷ fs) ∷ []
parted v (round us ∷ fs) = closing ⇒ have (grouped us v) fs ∷ parts v us fs ∷ []

unfoldable pub at_mark : Mode → List (Entry Mode)
unfolding emptied parted
at_mark (want fs) = minus ⇒ negative fs ∷ left ⇒ want (square [] ∷ fs) ∷ opening ⇒ want (round [] ∷ fs) ∷ emptied fs
at_mark (negative fs) = []
at_mark (have v fs) = parted v fs

unfoldable pub at_number : Mode → ℕ → Step Mode
unfolding numeral ranged
at_number (want fs) n = ranged (pos n) (have (int (pos n)) fs)
at_number (negative fs) n = ranged (numeral true n) (have (int (numeral true n)) fs)
at_number (have v fs) n = no

unfoldable pub take : Mode → Token → Step Mode
unfolding look at_mark at_number
take x (mark m) = look (at_mark x) m
take x (sign s) = no
take x (binds v) = no
take x (uses v) = no
take x (number n) = at_number x n
take x (wrong c) = no

unfoldable pub lacking : List Frame → Cause
lacking [] = cut_short
lacking (f ∷ fs) = bracket_open

unfoldable pub ending : Mode → Ended Value
unfolding lacking
ending (want fs) = lacks (lacking fs)
ending (negative fs) = lacks (lacking fs)
ending (have v []) = is v
ending (have v (f ∷ fs)) = lacks bracket_open

unfoldable pub targets : Machine Mode Value
unfolding take ending
targets = record { step = take; end = ending }

-- ---- What can be written: numbers of 32 bits, tuples of two to four parts.
unfoldable mutual
  unfolding width in_range count

  pub Fine : Value → Type 0
  Fine (int x) = T (in_range x)
  Fine (collection vs) = FineAll vs
  Fine (tupled vs) = T (width (count vs)) × FineAll vs

  pub FineAll : Values → Type 0
  FineAll empty = T true
  FineAll (v ▸ vs) = Fine v × FineAll vs

-- ---- What is written is read back.
comma_next : (v : Value) (us : List Value) (fs : List Frame) → suc (length us) < 4 → look (parted v (round us ∷ fs)) comma ≡ next (want (round (v ∷ us) ∷ fs))
unfolding parted parts look code
comma_next v us fs h = test (λ e. look (closing ⇒ have (grouped us v) fs ∷ e ∷ []) comma ≡ next (want (round (v ∷ us) ∷ fs))) (suc (length us)) 4
    (λ g. refl) (λ g. absurd (omega arith))

module _ {B : Type 0} (k : Value → List Token → Outcome B) where
  mutual
    unfolding Fine FineAll width write write_int write_items write_rest run targets take look code at_mark at_number numeral minus' emptied parted onto grouped count

    pub back : (v : Value) (fs : List Frame) (ts : List Token) → Fine v → run targets k (want fs) (write v ts) ≡ run targets k (have v fs) ts
    back (int (pos n)) fs ts h = run_next targets k (want fs) (have (int (pos n)) fs) (number n) ts (ranged_in (pos n) _ h)
    back (int (negsuc n)) fs ts h = run_next targets k (negative fs) (have (int (negsuc n)) fs) (number (suc n)) ts (ranged_in (negsuc n) _ h)
    back (collection vs) fs ts h = back_items vs fs ts h
    back (tupled vs) fs ts h = back_parts vs fs ts h.0 h.1

    back_items : (vs : Values) (fs : List Frame) (ts : List Token) → FineAll vs
        → run targets k (want (square [] ∷ fs)) (write_items right vs ts) ≡ run targets k (have (collection vs) fs) ts
    back_items empty fs ts h = refl
    back_items (v ▸ vs) fs ts h = back v (square [] ∷ fs) (write_rest right vs ts) h.0 ∙ back_square vs v [] fs ts h.1

    back_square : (vs : Values) (u : Value) (us : List Value) (fs : List Frame) (ts : List Token) → FineAll vs
        → run targets k (have u (square us ∷ fs)) (write_rest right vs ts) ≡ run targets k (have (collection (onto us (u ▸ vs))) fs) ts
    back_square empty u us fs ts h = refl
    back_square (v ▸ vs) u us fs ts h = back v (square (u ∷ us) ∷ fs) (write_rest right vs ts) h.0 ∙ back_square vs v (u ∷ us) fs ts h.1

    back_parts : (vs : Values) (fs : List Frame) (ts : List Token) → T (width (count vs)) → FineAll vs
        → run targets k (want (round [] ∷ fs)) (write_items closing vs ts) ≡ run targets k (have (tupled vs) fs) ts
    back_parts empty fs ts l h = absurd l
    back_parts (v ▸ vs) fs ts l h = back v (round [] ∷ fs) (write_rest closing vs ts) h.0 ∙ back_second vs v fs ts l h.1

    back_second : (vs : Values) (u : Value) (fs : List Frame) (ts : List Token) → T (width (suc (count vs))) → FineAll vs
        → run targets k (have u (round [] ∷ fs)) (write_rest closing vs ts) ≡ run targets k (have (tupled (u ▸ vs)) fs) ts
    back_second empty u fs ts l h = absurd l
    back_second (v ▸ vs) u fs ts l h =
        let most = at_most (suc (suc (count vs))) l in
        run_next targets k (have u (round [] ∷ fs)) (want (round (u ∷ []) ∷ fs)) (mark comma) (write v (write_rest closing vs ts)) (comma_next u [] fs (omega arith))
        ∙ back v (round (u ∷ []) ∷ fs) (write_rest closing vs ts) h.0 ∙ back_round vs v u [] fs ts (omega arith) h.1

    back_round : (vs : Values) (u v : Value) (us : List Value) (fs : List Frame) (ts : List Token) → 2 + length us + count vs ≤ 4 → FineAll vs
        → run targets k (have u (round (v ∷ us) ∷ fs)) (write_rest closing vs ts) ≡ run targets k (have (tupled (onto (v ∷ us) (u ▸ vs))) fs) ts
    back_round empty u v us fs ts l h = refl
    back_round (w ▸ vs) u v us fs ts l h =
        run_next targets k (have u (round (v ∷ us) ∷ fs)) (want (round (u ∷ (v ∷ us)) ∷ fs)) (mark comma) (write w (write_rest closing vs ts)) (comma_next u (v ∷ us) fs (omega arith))
        ∙ back w (round (u ∷ (v ∷ us)) ∷ fs) (write_rest closing vs ts) h.0 ∙ back_round vs w u (v ∷ us) fs ts (omega arith) h.1
