-- A matcher at an index of a matcher's words, and the matchers inside it. Assumes nothing.
use mathlib.Core.Path.{◌≡◌, refl, sym, ◌∙◌, ap}
use mathlib.Core.Bool.{true}
use mathlib.Core.List.{List, [], ◌∷◌, ◌++◌, append_assoc, append-nil}
use Prim.Native.Nat.{ℕ, ◌+◌}
use native.Mathlib.Omega.{arith}
use lib.ListN.{length, get_or, drop}
use lib.Seq.{drop-drop, drop-append_seam, get_or-drop}
use lib.IntN.{ℤ, pos, negsuc}
use Rattle.rules.specs.Forms.{Matcher, something, integer, list, multiset, tuple_of, Matchers, ◌▸ᵐ◌, countᵐ}
use Rattle.rules.specs.Reading.{ok, read_matcher}
use Rattle.rules.specs.Fit.{takes, tags_of, among, element, members}
use Rattle.forms.specs.Written.{matcher_words, matcher_words_all, Widthsᵐ, WidthsAllᵐ}
use Rattle.forms.specs.ReadMatcher.{matcher_read}
use Rattle.words.specs.Words.{tag_z, tag_at}
use Rattle.matchers.specs.Places.{matcher_end}
use Rattle.matchers.proofs.Matchers.{end_words}

-- ---- Words from an index on.

pub tag_drop : (s : List ℤ) (at i j : ℕ) (us : List ℤ) → drop at s ≡ us → at + i ≡ j → tag_at s j ≡ tag_z (get_or us i (negsuc 0))
unfolding tag_at
tag_drop s at i j us e h = rw (← h, ← e) (ap tag_z (sym (get_or-drop at s i (negsuc 0))))

pub after_words : (s : List ℤ) (at n : ℕ) (us vs : List ℤ) → drop at s ≡ us ++ vs → length us ≡ n → drop (at + n) s ≡ vs
after_words s at n us vs e h = rw (← h) (sym (drop-drop (length us) at s) ∙ ap (drop (length us)) e ∙ drop-append_seam us vs)

-- ---- A matcher, and matchers one after the other, each tuple's width in the limits.

pub record At (s : List ℤ) (i : ℕ) (k : Matcher) : Type 0 where
  pub rest : List ℤ
  pub here : drop i s ≡ matcher_words k ++ rest
  pub wide : Widthsᵐ k

pub record AtAll (s : List ℤ) (i : ℕ) (ks : Matchers) : Type 0 where
  pub rest : List ℤ
  pub here : drop i s ≡ matcher_words_all ks ++ rest
  pub wide : WidthsAllᵐ ks

pub at_whole : (ms : List ℤ) (m : Matcher) → read_matcher ms ≡ ok m → At ms 0 m
at_whole ms m e =
    let r = (matcher_read ms m).0 e in
    record { rest = []; here = r.0 ∙ sym (append-nil (matcher_words m)); wide = r.3 }

unfoldable pub tag_of : Matcher → ℕ
tag_of something = 0
tag_of integer = 1
tag_of (list m) = 2
tag_of (multiset m) = 3
tag_of (tuple_of ms) = 4

module _ (s : List ℤ) (i : ℕ) where
  pub at_tag : (k : Matcher) → At s i k → tag_at s i ≡ tag_of k
  unfolding matcher_words tag_of
  at_tag something a = tag_drop s i 0 i _ a.here (omega arith)
  at_tag integer a = tag_drop s i 0 i _ a.here (omega arith)
  at_tag (list k) a = tag_drop s i 0 i _ a.here (omega arith)
  at_tag (multiset k) a = tag_drop s i 0 i _ a.here (omega arith)
  at_tag (tuple_of ks) a = tag_drop s i 0 i _ a.here (omega arith)

  pub at_end : (k : Matcher) → At s i k → matcher_end s i ≡ i + length (matcher_words k)
  at_end k a = end_words s i k a.wide a.rest a.here

  -- What a list or a multiset is of.
  pub at_list : (k : Matcher) → At s i (list k) → At s (i + 1) k
  unfolding matcher_words Widthsᵐ
  at_list k a = record {
    rest = a.rest;
    here = after_words s i 1 (pos 2 ∷ []) (matcher_words k ++ a.rest) a.here refl;
    wide = a.wide;
  }

  pub at_multiset : (k : Matcher) → At s i (multiset k) → At s (i + 1) k
  unfolding matcher_words Widthsᵐ
  at_multiset k a = record {
    rest = a.rest;
    here = after_words s i 1 (pos 3 ∷ []) (matcher_words k ++ a.rest) a.here refl;
    wide = a.wide;
  }

  -- What takes a cons has an element.
  pub at_element : (k : Matcher) → At s i k → takes k 5 ≡ true → At s (i + 1) (element k)
  unfolding takes tags_of among element
  at_element something a e = let z : ◌≡◌ {A = ℕ} 0 1 = cc in absurd (omega arith)
  at_element integer a e = let z : ◌≡◌ {A = ℕ} 0 1 = cc in absurd (omega arith)
  at_element (list k) a e = at_list k a
  at_element (multiset k) a e = at_multiset k a
  at_element (tuple_of ks) a e = let z : ◌≡◌ {A = ℕ} 0 1 = cc in absurd (omega arith)

  -- What a tuple is of.
  pub at_width : (ks : Matchers) → At s i (tuple_of ks) → tag_at s (i + 1) ≡ countᵐ ks
  unfolding matcher_words
  at_width ks a = tag_drop s i 1 (i + 1) _ a.here refl

  pub at_parts : (ks : Matchers) → At s i (tuple_of ks) → AtAll s (i + 2) ks
  unfolding matcher_words Widthsᵐ
  at_parts ks a = record {
    rest = a.rest;
    here = after_words s i 2 (pos 4 ∷ pos (countᵐ ks) ∷ []) (matcher_words_all ks ++ a.rest) a.here refl;
    wide = a.wide.1;
  }

  -- What takes a tuple has members.
  pub at_members : (k : Matcher) → At s i k → takes k 7 ≡ true → AtAll s (i + 2) (members k)
  unfolding takes tags_of among members
  at_members something a e = let z : ◌≡◌ {A = ℕ} 0 1 = cc in absurd (omega arith)
  at_members integer a e = let z : ◌≡◌ {A = ℕ} 0 1 = cc in absurd (omega arith)
  at_members (list k) a e = let z : ◌≡◌ {A = ℕ} 0 1 = cc in absurd (omega arith)
  at_members (multiset k) a e = let z : ◌≡◌ {A = ℕ} 0 1 = cc in absurd (omega arith)
  at_members (tuple_of ks) a e = at_parts ks a

  module _ (k : Matcher) (ks : Matchers) (a : AtAll s i (k ▸ᵐ ks)) where
    both : drop i s ≡ matcher_words k ++ (matcher_words_all ks ++ a.rest)
    unfolding matcher_words_all
    both = a.here ∙ append_assoc (matcher_words k) (matcher_words_all ks) a.rest

    pub at_first : At s i k
    unfolding WidthsAllᵐ
    at_first = record { rest = matcher_words_all ks ++ a.rest; here = both; wide = a.wide.0 }

    pub at_others : AtAll s (i + length (matcher_words k)) ks
    unfolding WidthsAllᵐ
    at_others = record {
      rest = a.rest;
      here = after_words s i (length (matcher_words k)) (matcher_words k) (matcher_words_all ks ++ a.rest) both refl;
      wide = a.wide.1;
    }
