-- What the numbers of a line mean: an instruction.
use Rattle.std.specs.Prelude.{ℕ, ◌+◌, ◌≤◌, ◌≡◌, false, List, [], ◌∷◌, ◌++◌, get_or, drop, ℤ, negsuc}
use Rattle.std.proofs.Common.{arith, sym, ap, ◌∙◌, append-nil, append_assoc, drop-drop, get_or-drop}
use Rattle.rules.specs.Forms.{Matcher, something, integer, list, multiset, tuple_of, Matchers, ◌▸ᵐ◌}
use Rattle.rules.specs.Fit.{is_integer}
use Rattle.forms.specs.Written.{matcher_words, matcher_words_all, Widthsᵐ, WidthsAllᵐ}
use Rattle.words.specs.Words.{tag_z, tag_at}
use Rattle.matchers.specs.Places.{matcher_end}
use Rattle.matchers.proofs.Matchers.{end_drop}
use Rattle.program_rules.specs.Points.{list_cons, multiset_cons, joins, as_constant, as_value, as_nil, Instr, strip, keep, other, close, drop as drops, bind, test, split, apart, choice, deny, cut_at, end}
use Rattle.tables.specs.declared.line.Line.{Line}

-- The words of the matcher m stand at the index i.
pub record MatcherAt (ms : List ℤ) (i : ℕ) (m : Matcher) : Type 0 where
  pub rest : List ℤ
  pub words : drop i ms ≡ matcher_words m ++ rest
  pub widths : Widthsᵐ m

-- The words of the matchers ks stand one after the other from the index i on.
pub record MatchersAt (ms : List ℤ) (i : ℕ) (ks : Matchers) : Type 0 where
  pub rest : List ℤ
  pub words : drop i ms ≡ matcher_words_all ks ++ rest
  pub widths : WidthsAllᵐ ks

unfoldable pub tag_of : Matcher → ℕ
tag_of something = 0
tag_of integer = 1
tag_of (list m) = 2
tag_of (multiset m) = 3
tag_of (tuple_of ks) = 4

tail_at : (ms : List ℤ) (i : ℕ) (w : ℤ) (ws : List ℤ) → drop i ms ≡ w ∷ ws → drop (i + 1) ms ≡ ws
tail_at ms i w ws e = sym (drop-drop 1 i ms) ∙ ap (drop 1) e

head_at : (ms : List ℤ) (i : ℕ) (w : ℤ) (ws : List ℤ) → drop i ms ≡ w ∷ ws → tag_z w ≡ tag_at ms i
unfolding tag_at
head_at ms i w ws e =
    let z : i + 0 ≡ i = omega arith in
    ap (λ l. tag_z (get_or l 0 (negsuc 0))) (sym e) ∙ ap tag_z (get_or-drop i ms 0 (negsuc 0) ∙ ap (λ j. get_or ms j (negsuc 0)) z)

pub matcher_tag : {ms : List ℤ} {i : ℕ} (m : Matcher) → MatcherAt ms i m → tag_of m ≡ tag_at ms i
unfolding tag_of matcher_words
matcher_tag {ms} {i} something a = head_at ms i _ _ a.words
matcher_tag {ms} {i} integer a = head_at ms i _ _ a.words
matcher_tag {ms} {i} (list m) a = head_at ms i _ _ a.words
matcher_tag {ms} {i} (multiset m) a = head_at ms i _ _ a.words
matcher_tag {ms} {i} (tuple_of ks) a = head_at ms i _ _ a.words

-- "List of M": the words of M follow the tag.
pub list_inner : {ms : List ℤ} {i : ℕ} {m : Matcher} → MatcherAt ms i (list m) → MatcherAt ms (i + 1) m
unfolding matcher_words Widthsᵐ
list_inner {ms} {i} a = record { rest = a.rest; words = tail_at ms i _ _ a.words; widths = a.widths }

pub multiset_inner : {ms : List ℤ} {i : ℕ} {m : Matcher} → MatcherAt ms i (multiset m) → MatcherAt ms (i + 1) m
unfolding matcher_words Widthsᵐ
multiset_inner {ms} {i} a = record { rest = a.rest; words = tail_at ms i _ _ a.words; widths = a.widths }

-- A tuple's matchers follow its width, each after the words of the one before.
pub tuple_inner : {ms : List ℤ} {i : ℕ} {ks : Matchers} → MatcherAt ms i (tuple_of ks) → MatchersAt ms (i + 2) ks
unfolding matcher_words Widthsᵐ
tuple_inner {ms} {i} {ks} a =
    let z : i + 1 + 1 ≡ i + 2 = omega arith in
    record { rest = a.rest; words = rw z at (tail_at ms (i + 1) _ _ (tail_at ms i _ _ a.words)); widths = a.widths.1 }

pub matchers_first : {ms : List ℤ} {i : ℕ} {k : Matcher} {ks : Matchers} → MatchersAt ms i (k ▸ᵐ ks) → MatcherAt ms i k
unfolding matcher_words WidthsAllᵐ
matchers_first {k = k} {ks = ks} a =
    record { rest = matcher_words_all ks ++ a.rest; words = a.words ∙ append_assoc (matcher_words k) (matcher_words_all ks) a.rest; widths = a.widths.0 }

pub matchers_others : {ms : List ℤ} {i : ℕ} {k : Matcher} {ks : Matchers} → MatchersAt ms i (k ▸ᵐ ks) → MatchersAt ms (matcher_end ms i) ks
unfolding matcher_words WidthsAllᵐ
matchers_others {ms} {i} {k} {ks} a = record {
  rest = a.rest;
  words = end_drop ms i k a.widths.0 (matcher_words_all ks ++ a.rest) (a.words ∙ append_assoc (matcher_words k) (matcher_words_all ks) a.rest);
  widths = a.widths.1;
}

pub whole_matcher : (m : Matcher) → Widthsᵐ m → MatcherAt (matcher_words m) 0 m
whole_matcher m w = record { rest = []; words = sym (append-nil (matcher_words m)); widths = w }

-- The instruction of a line, `to` being the place where the next state stands, and `vars` the number of the rule's variables.
pub data Means (ms : List ℤ) (vars : ℕ) (l : Line) (to : ℕ) : Instr → Type 0 where
  means_end : l.op ≡ 0 → Means ms vars l to (end vars)
  means_strip : l.op ≡ 1 → Means ms vars l to strip
  means_drop : l.op ≡ 2 → Means ms vars l to (drops l.from to)
  means_bind : l.op ≡ 3 → Means ms vars l to (bind l.arg l.from to)
  means_constant : l.op ≡ 4 → Means ms vars l to (test (as_constant l.con) l.from to)
  means_integer : l.op ≡ 5 → Means ms vars l to (test (as_value integer l.arg l.con) l.from to)
  means_value : (m : Matcher) → l.op ≡ 6 → is_integer m ≡ false → MatcherAt ms l.mat m → Means ms vars l to (test (as_value m l.arg l.con) l.from to)
  means_nil : (m : Matcher) → l.op ≡ 7 → Means ms vars l to (test (as_nil m) l.from to)
  means_list : (m : Matcher) → l.op ≡ 8 → Means ms vars l to (split (list_cons m))
  means_multiset : (m : Matcher) → l.op ≡ 9 → MatcherAt ms (l.mat + 1) m → Means ms vars l to (split (multiset_cons m))
  means_join : (m : Matcher) → l.op ≡ 10 → Means ms vars l to (split (joins m))
  means_tuple : (n : ℕ) → l.op ≡ 11 + n → n ≤ 2 → Means ms vars l to (apart n)
  means_keep : l.op ≡ 14 → Means ms vars l to keep
  means_choice : l.op ≡ 15 → Means ms vars l to (choice to)
  means_deny : l.op ≡ 16 → Means ms vars l to (deny l.from to)
  means_cut : l.op ≡ 17 → Means ms vars l to (cut_at l.from)
  means_other : l.op ≡ 18 → Means ms vars l to other
  means_close : l.op ≡ 19 → Means ms vars l to close

-- The place that an instruction names.
unfoldable pub Leads : (to : ℕ) → Instr → Type 0
Leads to strip = Unit {0}
Leads to keep = Unit {0}
Leads to other = Unit {0}
Leads to close = Unit {0}
Leads to (drops f t) = t ≡ to
Leads to (bind n f t) = t ≡ to
Leads to (test s f t) = t ≡ to
Leads to (split k) = Unit {0}
Leads to (apart n) = Unit {0}
Leads to (choice t) = t ≡ to
Leads to (deny f t) = t ≡ to
Leads to (cut_at j) = Unit {0}
Leads to (end n) = Unit {0}
