-- The look for the cause at an index, by the tags there; and the value at an index with its cause, from where it ends and from the look. Assumes
-- nothing.
use mathlib.Core.Path.{◌≡◌, refl, sym, ◌∙◌, ap}
use mathlib.Core.Bool.{Bool, true, false, cond}
use mathlib.Core.Option.{Option, none, some}
use mathlib.Core.List.{List, [], ◌∷◌}
use Prim.Native.Nat.{ℕ, zero, suc, ◌+◌, ◌-◌, ◌<◌, ◌≤◌}
use native.Mathlib.Numerals.{add-one}
use native.Mathlib.Omega.{arith}
use borrow.Author.Tests.{ltb-true, ltb-false}
use lib.Dec.{ltb, leb}
use lib.ListN.{length, get_elem?, get_or, drop, drop_of_length-le}
use lib.Seq.{drop-cons}
use lib.IntN.{ℤ, negsuc}
use Rattle.rules.specs.Forms.{Value}
use Rattle.rules.specs.Reading.{Verdict, ok, fault, Got, entry, at_most64, width, target}
use Rattle.rules.specs.Causes.{Cause, unknown_tag, bad_count, too_deep, cut_short, bad_width, cause_number}
use Rattle.rules.specs.Causes.{told as looked}
use Rattle.rules.specs.Causes.{Look, well, wrong, ◌thence◌, in_turn, see, Kind, integer, kinds, any_word, innermost, opened, value}
use Rattle.forms.proofs.Together.{Agree, target_agrees, value_well}
use Rattle.words.specs.Words.{tag_at}
use Rattle.words.proofs.Signed as signed
use Rattle.test_forms.specs.Ends.{end_of, onward, in_row, within}
use Rattle.test_target.specs.Targets.{cause_at, count_cause, count_fits, value_from, valued, valued_from, further, in_line, Numbers, numbers_of, told}
use Rattle.test_target.specs.declared.Fault.{Fault}
use Rattle.std.specs.Prelude.{Result, Ok, Err}
use Rattle.std.specs.Result.{result_map_both, MatchResult, IsErrAnd}
use Rattle.test_forms.proofs.Known.{past, entry_tag}
use Rattle.test_forms.proofs.Rows.{Along, Takes, width_takes}
use Rattle.test_target.proofs.Values.{target_along, at_most_takes, one_or_two, row}

-- ---- One word.

-- What comes of a word, by its meaning.
unfoldable seen : {A : Type 0} → Cause → (A → List ℤ → Look) → List ℤ → Option A → Look
seen c k us none = wrong c
seen c k us (some a) = k a us

module _ {A : Type 0} (c : Cause) (f : ℤ → Option A) (k : A → List ℤ → Look) where
  see_word : (w : ℤ) (us : List ℤ) → see c f k (w ∷ us) ≡ seen c k us (f w)
  unfolding see seen
  see_word w us = go (f w)
    where
      go : (o : Option A) → elim o as (λ _. Look) [ none ↦ wrong c | some a ↦ k a us ] ≡ seen c k us o
      go none = refl
      go (some a) = refl

  see_at : (s : List ℤ) (at : ℕ) → at < length s → see c f k (drop at s) ≡ seen c k (drop (suc at) s) (f (get_or s at (negsuc 0)))
  see_at s at h = ap (see c f k) (drop-cons s at (negsuc 0) h) ∙ see_word (get_or s at (negsuc 0)) (drop (suc at) s)

  see_past : (s : List ℤ) (at : ℕ) → length s ≤ at → see c f k (drop at s) ≡ wrong cut_short
  unfolding see
  see_past s at h = ap (see c f k) (drop_of_length-le s h)

-- ---- A value, by the tag at an index.

after : ℕ → Kind → List ℤ → Look
after zero = innermost
after (suc d) = opened λ us. value d us

value_is : (d : ℕ) (ws : List ℤ) → value d ws ≡ see unknown_tag (entry kinds) (after d) ws
unfolding value after
value_is zero ws = refl
value_is (suc d) ws = refl

module _ (s : List ℤ) (at t : ℕ) (e : t ≡ tag_at s at) (d : ℕ) where
  by_kind : at < length s → value d (drop at s) ≡ seen unknown_tag (after d) (drop (suc at) s) (get_elem? kinds t)
  unfolding tag_at kinds
  by_kind h = value_is d (drop at s) ∙ see_at unknown_tag (entry kinds) (after d) s at h
      ∙ ap (seen unknown_tag (after d) (drop (suc at) s)) (entry_tag kinds (get_or s at (negsuc 0)) (omega arith) ∙ ap (get_elem? kinds) (sym e))

  pub other_cause : 2 < t → looked (value d (drop at s)) ≡ cause_at s at 2
  unfolding cause_at looked cause_number seen kinds
  other_cause h = go (ltb at (length s)) refl
    where
      go : (b : Bool) → ltb at (length s) ≡ b → looked (value d (drop at s)) ≡ cond b 2 (cause_number cut_short)
      go true q = ap looked (by_kind (ltb-true at (length s) q) ∙ ap (seen unknown_tag (after d) (drop (suc at) s)) (past kinds t h))
      go false q = ap looked (value_is d (drop at s) ∙ see_past unknown_tag (entry kinds) (after d) s at (ltb-false at (length s) q))

  pub integer_cut : t ≡ 0 → length s ≤ at + 1 → value d (drop at s) ≡ wrong cut_short
  unfolding seen kinds after any_word innermost opened
  integer_cut z h = by_kind (signed.within s at t e (omega arith)) ∙ rw z (go d)
    where
      nothing : drop (suc at) s ≡ []
      nothing = let l : length s ≤ suc at = omega arith in drop_of_length-le s l

      go : (k : ℕ) → after k integer (drop (suc at) s) ≡ wrong cut_short
      go zero = ap any_word nothing
      go (suc k) = ap any_word nothing

  pub deep_cause : d ≡ 0 → 1 ≤ t → t ≤ 2 → value d (drop at s) ≡ wrong too_deep
  unfolding seen kinds after innermost
  deep_cause z a b = by_kind (signed.within s at t e (omega arith)) ∙ rw z (one_or_two s at t e _ a b (λ h. rw h) (λ h. rw h))

-- ---- A count or a width at an index.

past_tag : (s : List ℤ) (at : ℕ) → length s ≤ at → tag_at s at ≡ 2147483648
unfolding tag_at
past_tag [] at h = refl
past_tag (w ∷ s) zero h = absurd (omega arith)
past_tag (w ∷ s) (suc at) h = past_tag s at (omega arith)

module _ (c : Cause) (number : ℤ → Option ℕ) (fits : ℕ → Bool) (takes : Takes number fits) (k : ℕ → List ℤ → Look) (s : List ℤ) (at n : ℕ) (e : n ≡ tag_at s at) where
  by_number : at < length s → see c number k (drop at s) ≡ seen c k (drop (suc at) s) (cond (fits n) (some n) none)
  unfolding tag_at
  by_number h = see_at c number k s at h ∙ ap (seen c k (drop (suc at) s)) (takes.by_tag (get_or s at (negsuc 0)) ∙ ap (λ m. cond (fits m) (some m) none) (sym e))

  number_cause : fits n ≡ false → looked (see c number k (drop at s)) ≡ cause_at s at (cause_number c)
  unfolding cause_at looked seen
  number_cause f = go (ltb at (length s)) refl
    where
      go : (b : Bool) → ltb at (length s) ≡ b → looked (see c number k (drop at s)) ≡ cond b (cause_number c) (cause_number cut_short)
      go true q = ap looked (by_number (ltb-true at (length s) q) ∙ ap (λ x. seen c k (drop (suc at) s) (cond x (some n) none)) f)
      go false q = ap looked (see_past c number k s at (ltb-false at (length s) q))

  number_on : fits n ≡ true → see c number k (drop at s) ≡ k n (drop (suc at) s)
  unfolding seen
  number_on f = go (ltb at (length s)) refl
    where
      go : (b : Bool) → ltb at (length s) ≡ b → see c number k (drop at s) ≡ k n (drop (suc at) s)
      go true q = by_number (ltb-true at (length s) q) ∙ ap (λ x. seen c k (drop (suc at) s) (cond x (some n) none)) f
      go false q =
          let p : fits n ≡ false = ap fits (e ∙ past_tag s at (ltb-false at (length s) q)) ∙ takes.not_past in
          let z : ◌≡◌ {A = ℕ} 0 1 = cc (p, f) in absurd (omega arith)

module _ (s : List ℤ) (at t : ℕ) (e : t ≡ tag_at s at) (n : ℕ) (q : n ≡ tag_at s (at + 1)) where
  -- A collection with d levels left inside it, and a tuple.
  in_collection : (d : ℕ) → t ≡ 1 → value (suc d) (drop at s) ≡ see bad_count at_most64 (in_turn λ us. value d us) (drop (at + 1) s)
  unfolding seen kinds after opened
  in_collection d h = by_kind s at t e (suc d) (signed.within s at t e (omega arith)) ∙ rw (h, add-one at)

  in_tuple : (d : ℕ) → t ≡ 2 → value (suc d) (drop at s) ≡ see bad_width width (in_turn λ us. value d us) (drop (at + 1) s)
  unfolding seen kinds after opened
  in_tuple d h = by_kind s at t e (suc d) (signed.within s at t e (omega arith)) ∙ rw (h, add-one at)

  pub count_cause_lem : (d : ℕ) → (d ≡ 0 → ⊥) → 1 ≤ t → t ≤ 2 → count_fits t n ≡ false → looked (value d (drop at s)) ≡ cause_at s (at + 1) (count_cause t)
  unfolding count_fits count_cause
  count_cause_lem zero z a b f = absurd (z refl)
  count_cause_lem (suc d) z a b f = one_or_two s at t e _ a b
      (λ h. ap looked (in_collection d h) ∙ number_cause bad_count at_most64 (λ m. leb m 64) at_most_takes (in_turn λ us. value d us) s (at + 1) n q (rw h at f) ∙ rw h)
      (λ h. ap looked (in_tuple d h) ∙ number_cause bad_width width (λ m. within 2 m 4) width_takes (in_turn λ us. value d us) s (at + 1) n q (rw h at f) ∙ rw h)

  count_on : (d : ℕ) → (d ≡ 0 → ⊥) → 1 ≤ t → t ≤ 2 → count_fits t n ≡ true → value d (drop at s) ≡ in_turn (λ us. value (d - 1) us) n (drop (at + 2) s)
  unfolding count_fits
  count_on zero z a b f = absurd (z refl)
  count_on (suc d) z a b f =
      let p : suc d - 1 ≡ d = omega arith in
      let l : suc (at + 1) ≡ at + 2 = omega arith in
      rw (p, ← l) (one_or_two s at t e _ a b
      (λ h. in_collection d h ∙ number_on bad_count at_most64 (λ m. leb m 64) at_most_takes (in_turn λ us. value d us) s (at + 1) n q (rw h at f))
      (λ h. in_tuple d h ∙ number_on bad_width width (λ m. within 2 m 4) width_takes (in_turn λ us. value d us) s (at + 1) n q (rw h at f)))

-- ---- The value at an index with its cause.

abbrev pub bad : (place cause : ℕ) → Result ℕ Numbers
bad i c = Err (record { place = i; cause = c })

ended_bad : (x : Verdict (Got Value)) (l : Look) (i : ℕ) → end_of x ≡ Err i → valued x l ≡ bad i (looked l)
unfolding end_of valued
ended_bad (ok g) l i e = let z : ◌≡◌ {A = ℕ} 0 1 = cc in absurd (omega arith)
ended_bad (fault j) l i e = let q : j ≡ i = cc in rw q

ended_end : (x : Verdict (Got Value)) (l : Look) (i : ℕ) → end_of x ≡ Ok i → valued x l ≡ Ok i
unfolding end_of valued
ended_end (ok g) l i e = let q : g.next ≡ i = cc in rw q
ended_end (fault j) l i e = let z : ◌≡◌ {A = ℕ} 0 1 = cc in absurd (omega arith)

module _ (s : List ℤ) (d at : ℕ) where
  pub valued_bad : (i c : ℕ) → value_from s d at ≡ Err i → looked (value d (drop at s)) ≡ c → valued_from s d at ≡ bad i c
  unfolding value_from valued_from
  valued_bad i c e q = ended_bad (target d at (drop at s)) (value d (drop at s)) i e ∙ rw q

  pub valued_end : (i : ℕ) → value_from s d at ≡ Ok i → valued_from s d at ≡ Ok i
  unfolding value_from valued_from
  valued_end i e = ended_end (target d at (drop at s)) (value d (drop at s)) i e

-- The place alone.
module _ (s : List ℤ) (d at : ℕ) (v : Result ℕ Fault) (e : told v ≡ valued_from s d at) where
  pub place_alone : result_map_both (λ (i : ℕ). i) (λ (f : Fault). f.place) v ≡ value_from s d at
  unfolding valued_from value_from valued end_of
  place_alone = go v (target d at (drop at s)) e
    where
      go : (r : Result ℕ Fault) (x : Verdict (Got Value)) → told r ≡ valued x (value d (drop at s)) → result_map_both (λ (i : ℕ). i) (λ (f : Fault). f.place) r ≡ end_of x
      go (Ok i) (ok g) r = let p : i ≡ g.next = cc in ap Ok p
      go (Ok i) (fault j) r = let z : ◌≡◌ {A = ℕ} 0 1 = cc in absurd (omega arith)
      go (Err f) (ok g) r = let z : ◌≡◌ {A = ℕ} 0 1 = cc in absurd (omega arith)
      go (Err f) (fault j) r = let p : numbers_of f ≡ record { place = j; cause = looked (value d (drop at s)) } = cc in ap (λ (n : Numbers). Err n.place) p

-- What `map_err` gives, where its closure gives the place.
pub mapped : (v : Result ℕ Fault) (x : Result ℕ ℕ) (P : Fault → ℕ → Type 0) → MatchResult v (λ i. x ≡ Ok i) (λ f. IsErrAnd x (λ r. P f r))
    → ((f : Fault) (r : ℕ) → P f r → r ≡ f.place) → x ≡ result_map_both (λ (i : ℕ). i) (λ (f : Fault). f.place) v
mapped (Ok i) x P h k = h
mapped (Err f) (Ok i) P h k = elim h [ ]
mapped (Err f) (Err r) P h k = ap Err (k f r h)

look_wrong : (d at : ℕ) (ws : List ℤ) (i : ℕ) → target d at ws ≡ fault i → (c : Cause) × (value d ws ≡ wrong c)
unfolding Agree
look_wrong d at ws i e = go (target d at ws) e (value d ws) (target_agrees d at ws)
  where
    go : (x : Verdict (Got Value)) → x ≡ fault i → (y : Look) → Agree d at ws x y → (c : Cause) × (y ≡ wrong c)
    go (ok g) q y a = let z : ◌≡◌ {A = ℕ} 0 1 = cc in absurd (omega arith)
    go (fault j) q (wrong c) a = (c, refl)
    go (fault j) q (well rest) a = elim a [ ]

module _ (s : List ℤ) (d : ℕ) where
  abbrev looks : ℕ → List ℤ → Look
  looks n ws = in_turn (λ us. value d us) n ws

  -- What was read, x, ends where n values in a row end, and the look at them finds y.
  line : (n e : ℕ) (x : Verdict (Got Value)) (y : Look) → end_of x ≡ in_row (value_from s d) n e → y ≡ looks n (drop e s) → valued x y ≡ in_line (valued_from s d) n e
  unfolding in_row in_line in_turn onward further ◌thence◌ value_from end_of Along
  line zero e x y p q = ended_end x y e p
  line (suc n) e x y p q = go (line n) (target d e (drop e s)) refl
    where
      go : ((j : ℕ) (u : Verdict (Got Value)) (v : Look) → end_of u ≡ in_row (value_from s d) n j → v ≡ looks n (drop j s) → valued u v ≡ in_line (valued_from s d) n j)
          → (z : Verdict (Got Value)) → target d e (drop e s) ≡ z → valued x y ≡ further (valued_from s d e) (in_line (valued_from s d) n)
      go f (ok g) r =
          let a = p ∙ ap (λ v. onward (end_of v) (in_row (value_from s d) n)) r in
          let b = q ∙ ap (λ l. l thence looks n) (value_well d e (drop e s) g r) ∙ ap (looks n) (target_along s d e g r) in
          f g.next x y a b ∙ sym (ap (λ v. further v (in_line (valued_from s d) n)) (valued_end s d e g.next (ap end_of r)))
      go f (fault i) r =
          let w = look_wrong d e (drop e s) i r in
          let a = p ∙ ap (λ v. onward (end_of v) (in_row (value_from s d) n)) r in
          let b = q ∙ ap (λ l. l thence looks n) w.1 in
          ended_bad x y i a ∙ sym (ap (λ v. further v (in_line (valued_from s d) n)) (valued_bad s d e i (looked y) (ap end_of r) (ap looked (w.1 ∙ sym b))))

-- A collection or a tuple, and its elements or parts one after the other.
pub valued_row : (s : List ℤ) (at t : ℕ) → t ≡ tag_at s at → (n : ℕ) → n ≡ tag_at s (at + 1) → 1 ≤ t → t ≤ 2 → (d : ℕ) → (d ≡ 0 → ⊥) → count_fits t n ≡ true
    → valued_from s d at ≡ in_line (valued_from s (d - 1)) n (at + 2)
unfolding value_from valued_from
valued_row s at t e n q a b d z f =
    line s (d - 1) n (at + 2) (target d at (drop at s)) (value d (drop at s)) (row s at t e n q a b d z f) (count_on s at t e n q d z a b f)
