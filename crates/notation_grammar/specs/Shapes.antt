-- What the notation's reader has at each of its modes is what the code has: the place, what waits, and the words of all of it.
use Rattle.std.specs.Prelude.{ℕ, suc, ◌+◌, ◌<◌, ◌≡◌, refl, Bool, cond, length, ℤ, pos}
use Rattle.std.proofs.Common.{arith, ◌∙◌, to_z}
use Rattle.std.proofs.Math.Path.{sym, ap}
use Rattle.std.proofs.Math.Bool.{true, false}
use Rattle.std.proofs.Math.Option.{Option, none, some}
use mathlib.Core.List.{List, [], ◌∷◌, ◌++◌, append_assoc}
use Rattle.std.specs.Int.{w32}
use Rattle.rules.specs.Forms.{Matcher, no_matchers, ◌▸ᵐ◌, countᵐ, Pattern, no_patterns, ◌▸ᵖ◌, countᵖ, Value, empty, ◌▸◌, count, words, words_all}
use Rattle.forms.specs.Written.{matcher_words, matcher_words_all, pattern_words, pattern_words_all}
use Rattle.notation_rules.specs.Tokens.{Cause, unknown_sign, misplaced, cut_short, bracket_open, unknown_name, bound_twice, used_before, out_of_range, over_limit, Sign, consing, joining, anding, oring}
use Rattle.notation_rules.specs.Targets as U
use Rattle.notation_rules.specs.Matchers as M
use Rattle.notation_rules.specs.Patterns as P
use Rattle.notation_rules.specs.Patterns.{want, bracket, hashed, negative, inner, named, signed, shutting, ◌on◌, have}
use Rattle.notation_step.specs.Stepped.{bits_of, View}
use Rattle.notation_grammar.specs.Over.{nothing_behind}
use Rattle.notation_grammar.specs.Waits.{Wait, wait}
use Rattle.notation_grammar.specs.Acts.{At}
use Rattle.notation_grammar.specs.Closes.{head_by}
use Rattle.notation_grammar.specs.One.{Mode, begins, in_units, in_matcher, in_pattern, Next, goes, stops}
use Rattle.notation_grammar.specs.Figures.{word_plain}

-- The code's numbers of the causes.
unfoldable pub cause_of : Cause → ℕ
cause_of unknown_sign = 1
cause_of misplaced = 2
cause_of cut_short = 3
cause_of bracket_open = 4
cause_of unknown_name = 5
cause_of bound_twice = 6
cause_of used_before = 7
cause_of out_of_range = 8
cause_of over_limit = 9

-- ---- The words of what stands in a bracket so far, the last one first.
unfoldable pub listed : {A : Type 0} → (A → List ℤ) → List A → List ℤ
listed w [] = []
listed w (a ∷ xs) = listed w xs ++ w a

module _ {A As : Type 0} (nil : As) (more : A → As → As) (W : A → List ℤ) (Ws : As → List ℤ) (number : As → ℕ) (onto : List A → As → As) (w0 : Ws nil ≡ [])
    (w1 : (a : A) (l : As) → Ws (more a l) ≡ W a ++ Ws l) (n0 : number nil ≡ 0) (n1 : (a : A) (l : As) → number (more a l) ≡ suc (number l)) (o0 : (l : As) → onto [] l ≡ l)
    (o1 : (a : A) (xs : List A) (l : As) → onto (a ∷ xs) l ≡ onto xs (more a l)) where
  onto_words : (xs : List A) (l : As) → Ws (onto xs l) ≡ listed W xs ++ Ws l
  unfolding listed
  onto_words [] l = ap Ws (o0 l)
  onto_words (a ∷ xs) l = ap Ws (o1 a xs l) ∙ onto_words xs (more a l) ∙ ap (λ x. listed W xs ++ x) (w1 a l) ∙ sym (append_assoc (listed W xs) (W a) (Ws l))

  onto_number : (xs : List A) (l : As) → number (onto xs l) ≡ length xs + number l
  onto_number [] l = let e = ap number (o0 l) in omega arith
  onto_number (a ∷ xs) l = let e = ap number (o1 a xs l) in let f = onto_number xs (more a l) in let g = n1 a l in omega arith

  -- With the tag and the number of parts before them, they are the words of the whole.
  pub closed : (tag : ℕ) (xs : List A) (a : A) → length xs < 16384
      → head_by false tag (bits_of 0 (length xs + 1)) (listed W xs ++ W a) ≡ to_z w32 tag ∷ (pos (number (onto xs (more a nil))) ∷ Ws (onto xs (more a nil)))
  closed tag xs a l =
      let e : length xs + 1 ≡ number (onto xs (more a nil)) = let f = onto_number xs (more a nil) in let g = n1 a nil in omega arith in
      ap (λ x. to_z w32 tag ∷ (x ∷ (listed W xs ++ W a))) (word_plain 0 (length xs + 1) refl (omega arith) ∙ ap pos e)
      ∙ ap (λ x. to_z w32 tag ∷ (pos (number (onto xs (more a nil))) ∷ x)) (ap (λ x. listed W xs ++ x) (sym (nothing_behind (W a)) ∙ ap (λ x. W a ++ x) (sym w0) ∙ sym (w1 a nil)) ∙ sym (onto_words xs (more a nil)))

pub units_closed : (tag : ℕ) (us : List Value) (v : Value) → length us < 16384
    → head_by false tag (bits_of 0 (length us + 1)) (listed words us ++ words v) ≡ to_z w32 tag ∷ (pos (count (U.onto us (v ▸ empty))) ∷ words_all (U.onto us (v ▸ empty)))
unfolding words_all count U.onto
units_closed = closed empty ◌▸◌ words words_all count U.onto refl (λ a l. refl) refl (λ a l. refl) (λ l. refl) (λ a xs l. refl)

pub matchers_closed : (tag : ℕ) (ks : List Matcher) (m : Matcher) → length ks < 16384
    → head_by false tag (bits_of 0 (length ks + 1)) (listed matcher_words ks ++ matcher_words m) ≡ to_z w32 tag ∷ (pos (countᵐ (M.onto ks (m ▸ᵐ no_matchers))) ∷ matcher_words_all (M.onto ks (m ▸ᵐ no_matchers)))
unfolding matcher_words_all countᵐ M.onto
matchers_closed = closed no_matchers ◌▸ᵐ◌ matcher_words matcher_words_all countᵐ M.onto refl (λ a l. refl) refl (λ a l. refl) (λ l. refl) (λ a xs l. refl)

pub patterns_closed : (tag : ℕ) (qs : List Pattern) (p : Pattern) → length qs < 16384
    → head_by false tag (bits_of 0 (length qs + 1)) (listed pattern_words qs ++ pattern_words p) ≡ to_z w32 tag ∷ (pos (countᵖ (P.onto qs (p ▸ᵖ no_patterns))) ∷ pattern_words_all (P.onto qs (p ▸ᵖ no_patterns)))
unfolding pattern_words_all countᵖ P.onto
patterns_closed = closed no_patterns ◌▸ᵖ◌ pattern_words pattern_words_all countᵖ P.onto refl (λ a l. refl) refl (λ a l. refl) (λ l. refl) (λ a xs l. refl)

-- ---- What waits.
unfoldable pub all : {A : Type 0} → (A → Wait) → List A → List Wait
all f [] = []
all f (a ∷ xs) = f a ∷ all f xs

unfoldable pub unit_wait : U.Frame → Wait
unfolding listed words
unit_wait (U.square us) = wait 8 (length us) (listed words us)
unit_wait (U.round us) = wait 0 (length us) (listed words us)

unfoldable pub matcher_wait : M.Frame → Wait
unfolding listed matcher_words
matcher_wait M.lists = wait 5 0 (pos 2 ∷ [])
matcher_wait M.multisets = wait 5 0 (pos 3 ∷ [])
matcher_wait (M.opened ks) = wait 0 (length ks) (listed matcher_words ks)

unfoldable pub sign_tag : Sign → ℕ
sign_tag consing = 5
sign_tag joining = 6
sign_tag anding = 8
sign_tag oring = 9

unfoldable pub pattern_wait : P.Frame → Wait
unfolding listed pattern_words sign_tag P.level
pattern_wait (P.waiting s p) = wait (P.level s) 0 (pos (sign_tag s) ∷ pattern_words p)
pattern_wait P.denied = wait 4 0 (pos 10 ∷ [])
pattern_wait (P.opened qs) = wait 0 (length qs) (listed pattern_words qs)

-- The words of the parts that were read.
unfoldable pub units_words : Option Value → List ℤ
unfolding words
units_words none = []
units_words (some v) = words v

unfoldable pub both_words : Option Value → Matcher → List ℤ
unfolding units_words matcher_words
both_words u m = units_words u ++ matcher_words m

-- ---- A view of the code stands for a mode.
module _ (is : List ℤ) (n : ℕ) where
  abbrev pub AtUnits : (place : ℕ) → List U.Frame → List ℤ → Bool → View → Type 0
  AtUnits place fs item b = At is n place 0 0 [] (all unit_wait fs) item b

  abbrev pub AtMatcher : Option Value → (place : ℕ) → List M.Frame → List ℤ → Bool → View → Type 0
  AtMatcher u place fs item b = At is n place 0 (length (units_words u)) (units_words u) (all matcher_wait fs) item b

  abbrev pub AtPattern : Option Value → Matcher → (place : ℕ) → List P.Frame → List ℤ → Bool → View → Type 0
  AtPattern u m place fs item b = At is n place (length (units_words u)) (length (both_words u m)) (both_words u m) (all pattern_wait fs) item b

  -- A matcher that is read still has the words before it waiting.
  pub data InMatcher (u : Option Value) (x : M.Mode) (v : View) : Type 0 where
    wants : (b : Bool) (fs : List M.Frame) → x ≡ M.want b fs → AtMatcher u (cond b 8 7) fs [] false v → InMatcher u x v
    has : (m : Matcher) (fs : List M.Frame) → x ≡ M.ended m fs → AtMatcher u 9 fs (matcher_words m) true v → InMatcher u x v

  unfoldable pub InUnits : U.Mode → View → Type 0
  unfolding all unit_wait words
  InUnits (U.want fs) v = AtUnits 1 fs [] false v
  InUnits (U.negative fs) v = AtUnits 3 fs [] false v
  InUnits (U.have x fs) v = AtUnits 4 fs (words x) true v

  unfoldable pub InPattern : Option Value → Matcher → P.Mode → View → Type 0
  unfolding all pattern_wait units_words both_words pattern_words
  InPattern u m (want on fs) v = AtPattern u m 11 fs [] false v
  InPattern u m (bracket on fs) v = AtPattern u m 12 fs [] false v
  InPattern u m (hashed on fs) v = AtPattern u m 13 fs [] false v
  InPattern u m (negative on fs) v = AtPattern u m 14 fs [] false v
  InPattern u m (inner on fs) v = AtPattern u m 15 fs [] false v
  InPattern u m (named x on fs) v = AtPattern u m 16 fs (pos 3 ∷ x ∷ []) true v
  InPattern u m (signed x b on fs) v = AtPattern u m (cond b 18 17) fs (pos 3 ∷ x ∷ []) true v
  InPattern u m (shutting p on fs) v = AtPattern u m 19 fs (pattern_words p) true v
  InPattern u m (have p fs) v = AtPattern u m 20 fs (pattern_words p) true v

  unfoldable pub Stands : Mode → View → Type 0
  unfolding InUnits InPattern
  Stands begins v = AtUnits 0 [] [] false v
  Stands (in_units x) v = InUnits x v
  Stands (in_matcher u x) v = InMatcher u x v
  Stands (in_pattern u m x) v = InPattern u m x v

  -- After a step: the next mode's, or the cause.
  unfoldable pub Follows : Next → View → Type 0
  unfolding Stands cause_of
  Follows (goes x) v = Stands x v
  Follows (stops c) v = v.stand.cause ≡ cause_of c
