-- The reader that tells the place of a fault and the look that tells its cause go on together: both with the same words, or both end at one fault.
use Prim.Native.Nat.{ℕ, zero, suc, ◌+◌, ◌<◌}
use native.Mathlib.Omega.{arith}
use Rattle.std.proofs.Common.{suc-ne-zero, ◌∙◌}
use Rattle.std.specs.Prelude.{◌≡◌, length, ℤ, negsuc}
use Rattle.std.proofs.Math.Path.{refl, sym, ap, subst}
use Rattle.std.proofs.Math.Option.{Option, none, some}
use mathlib.Core.List.{List, [], ◌∷◌, ◌++◌, append_assoc}
use Rattle.std.proofs.Math.ListN.{length-append}
use Rattle.std.proofs.Math.IntN.{pos}
use Rattle.rules.specs.Forms.{Value, collection, tupled, Values, empty, ◌▸◌, count, words, words_all}
use Rattle.rules.specs.Reading.{Verdict, ok, fault, ◌then◌, Got, give, ◌>>=◌, known, word, entry, times}
use Rattle.rules.specs.Reading.{target_tags, target_parts, width, at_most64, target}
use Rattle.rules.specs.Causes.{Cause, bad_count, cut_short, bad_width, Look, well, wrong, ◌thence◌, in_turn, see, kinds, any_word, innermost, opened, value}
use Rattle.forms.specs.Written.{deepest, largest, Widths, IsWidth}
use Rattle.forms.specs.Readers.{got, Sound, not_some}
use Rattle.forms.specs.Counted.{width_only, width_is, at_most_only, at_most_is}
use Rattle.forms.proofs.ReadTarget.{target_sound, target_complete}
use Rattle.forms.specs.Wrong.{Outside, Heads, of_collection, of_tuple, Within, Awaits, outermost, inside, Spot}
use Rattle.forms.specs.Wrong.{not_tag, not_count, deep_collection, deep_tuple, no_tag, no_integer, no_count, no_width, not_width}

-- ---- Words that are no count and no width.

no_some : {A : Type 0} {a : A} → ◌≡◌ {A = Option A} none (some a) → ⊥
no_some e = not_some e

outside_count : (w : ℤ) → at_most64 w ≡ none → Outside 0 64 w
unfolding Outside
outside_count w e n a b q = no_some (sym e ∙ ap at_most64 q ∙ (at_most_is n).1 b)

outside_width : (w : ℤ) → width w ≡ none → Outside 2 4 w
unfolding Outside IsWidth
outside_width w e n a b q = no_some (sym e ∙ ap width q ∙ (width_is n).1 (a, b))

-- ---- The two readers together: both go on with the same words, or both end at one fault.

pub record Bad (d at : ℕ) (ws : List ℤ) (i : ℕ) (c : Cause) : Type 0 where
  pub left : ℕ
  pub k : ℕ
  pub front : List ℤ
  pub rest : List ℤ
  pub split : ws ≡ front ++ rest
  pub awaits : Awaits d left front
  pub spot : Spot left rest k c
  pub place : i ≡ at + (length front + k)

unfoldable pub Agree : (d at : ℕ) → List ℤ → Verdict (Got Value) → Look → Type 0
Agree d at ws (ok g) (well us) = us ≡ g.rest
Agree d at ws (ok g) (wrong c) = ⊥
Agree d at ws (fault i) (well us) = ⊥
Agree d at ws (fault i) (wrong c) = Bad d at ws i c

-- The same for n values in a row: some whole values stand before the fault.
record BadRow (d n at : ℕ) (ws : List ℤ) (i : ℕ) (c : Cause) : Type 0 where
  before : Values
  fewer : count before < n
  within : Within d before
  us : List ℤ
  split : ws ≡ words_all before ++ us
  bad : Bad d (at + length (words_all before)) us i c

unfoldable AgreeRow : (d n at : ℕ) → List ℤ → Verdict (Got Values) → Look → Type 0
AgreeRow d n at ws (ok g) (well us) = us ≡ g.rest
AgreeRow d n at ws (ok g) (wrong c) = ⊥
AgreeRow d n at ws (fault i) (well us) = ⊥
AgreeRow d n at ws (fault i) (wrong c) = BadRow d n at ws i c

here : {d at i k : ℕ} {c : Cause} {ws : List ℤ} → Spot d ws k c → i ≡ at + k → Bad d at ws i c
here {d} {at} {i} {k} {c} {ws} s e = record { left = d; k = k; front = []; rest = ws; split = refl; awaits = outermost; spot = s; place = omega (arith, e) }

-- The words of a value that was read, and where it ends.
pub took : (d at : ℕ) (ws : List ℤ) (g : Got Value) → target d at ws ≡ ok g
    → (ws ≡ words g.it ++ g.rest) × (g.next ≡ at + length (words g.it))
unfolding Sound
took d at ws g e =
    let s = target_sound d at ws g e in
    let q : ok g ≡ ok (got g.it (at + length (words g.it)) g.rest) = sym e ∙ ap (target d at) s.0 ∙ target_complete d g.it s.1 at g.rest in
    let r : g ≡ got g.it (at + length (words g.it)) g.rest = cc in
    (s.0, ap (λ (x : Got Value). x.next) r)

module _ (d : ℕ) (part : (at : ℕ) (ws : List ℤ) → Agree d at ws (target d at ws) (value d ws)) where
  abbrev reads : (n at : ℕ) → List ℤ → Verdict (Got Values)
  reads n at ws = times empty ◌▸◌ (λ i us. target d i us) n at ws

  abbrev looks : (n : ℕ) → List ℤ → Look
  looks n ws = in_turn (λ us. value d us) n ws

  -- After a first value v.
  row_after : (n at : ℕ) (ws : List ℤ) (g : Got Value) → target d at ws ≡ ok g → (x : Verdict (Got Values)) (y : Look)
      → AgreeRow d n g.next g.rest x y
      → AgreeRow d (suc n) at ws (x then λ h. give (g.it ▸ h.it) h.next h.rest) y
  unfolding AgreeRow ◌then◌ give count words deepest largest Widths Within Sound
  row_after n at ws g e (ok h) (well us) a = a
  row_after n at ws g e (fault i) (wrong c) a =
      let s = target_sound d at ws g e in
      let t = took d at ws g e in
      record {
        before = g.it ▸ a.before;
        fewer = omega (arith, a.fewer);
        within = (omega (arith, s.1.0, a.within.0), omega (arith, s.1.1, a.within.1), (s.1.2, a.within.2));
        us = a.us;
        split = t.0 ∙ ap (λ l. words g.it ++ l) a.split ∙ sym (append_assoc (words g.it) (words_all a.before) a.us);
        bad = subst (λ j. Bad d j a.us i c) (omega (arith, t.1, length-append (words g.it) (words_all a.before))) a.bad;
      }
  row_after n at ws g e (ok h) (wrong c) a = elim a [ ]
  row_after n at ws g e (fault i) (well us) a = elim a [ ]

  row_first : (n at : ℕ) (ws : List ℤ) → ((i : ℕ) (us : List ℤ) → AgreeRow d n i us (reads n i us) (looks n us))
      → (x : Verdict (Got Value)) → target d at ws ≡ x → (y : Look) → Agree d at ws x y
      → AgreeRow d (suc n) at ws (x then λ g. reads n g.next g.rest then λ h. give (g.it ▸ h.it) h.next h.rest) (y thence looks n)
  unfolding Agree AgreeRow ◌then◌ ◌thence◌ count words deepest largest Widths Within
  row_first n at ws next (ok g) e (well us) a =
      row_after n at ws g e (reads n g.next g.rest) (looks n us)
      (subst (λ l. AgreeRow d n g.next g.rest (reads n g.next g.rest) (looks n l)) (sym a) (next g.next g.rest))
  row_first n at ws next (fault i) e (wrong c) a = record {
    before = empty;
    fewer = omega arith;
    within = (omega arith, omega arith, tt);
    us = ws;
    split = refl;
    bad = subst (λ j. Bad d j ws i c) (omega arith) a;
  }
  row_first n at ws next (ok g) e (wrong c) a = elim a [ ]
  row_first n at ws next (fault i) e (well us) a = elim a [ ]

  row_agrees : (n at : ℕ) (ws : List ℤ) → AgreeRow d n at ws (reads n at ws) (looks n ws)
  unfolding AgreeRow times in_turn give ◌>>=◌
  row_agrees zero at ws = refl
  row_agrees (suc n) at ws = row_first n at ws (row_agrees n) (target d at ws) refl (value d ws) (part at ws)

  -- A tag t, then a count or a width, then so many values.
  module _ (t : ℕ) (c : Cause) (number : ℤ → Option ℕ) (f : Values → Value)
      (absent : Spot (suc d) (pos t ∷ []) 1 cut_short)
      (unfit : (w : ℤ) (us : List ℤ) → number w ≡ none → Spot (suc d) (pos t ∷ w ∷ us) 1 c)
      (heads : (w : ℤ) (n : ℕ) → number w ≡ some n → (w ≡ pos n) × Heads t n) where
    counted_after : (n at : ℕ) (w : ℤ) (ws : List ℤ) → number w ≡ some n → (x : Verdict (Got Values)) (y : Look) → AgreeRow d n (suc (suc at)) ws x y
        → Agree (suc d) at (pos t ∷ w ∷ ws) (x then λ h. give (f h.it) h.next h.rest) y
    unfolding Agree AgreeRow ◌then◌ give
    counted_after n at w ws e (ok h) (well us) a = a
    counted_after n at w ws e (fault i) (wrong c) a =
        let h = heads w n e in
        let b = a.bad in
        record {
          left = b.left;
          k = b.k;
          front = pos t ∷ pos n ∷ (words_all a.before ++ b.front);
          rest = b.rest;
          split = ap {B = List ℤ} (λ x. pos t ∷ x ∷ ws) h.0 ∙ ap {B = List ℤ} (λ l. pos t ∷ pos n ∷ l)
              (a.split ∙ ap (λ l. words_all a.before ++ l) b.split ∙ sym (append_assoc (words_all a.before) b.front b.rest));
          awaits = inside a.before h.1 (omega (arith, a.fewer)) a.within b.awaits refl;
          spot = b.spot;
          place = omega (arith, b.place, length-append (words_all a.before) b.front);
        }
    counted_after n at w ws e (ok h) (wrong c) a = elim a [ ]
    counted_after n at w ws e (fault i) (well us) a = elim a [ ]

    counted_agrees : (at : ℕ) (ws : List ℤ)
        → Agree (suc d) at (pos t ∷ ws) ((known number >>= λ n. (λ i us. reads n i us) >>= λ vs. give (f vs)) (suc at) ws) (see c number looks ws)
    unfolding Agree known ◌>>=◌ ◌then◌ see
    counted_agrees at [] = here absent (omega arith)
    counted_agrees at (w ∷ ws) = go (number w) refl
      where
        go : (o : Option ℕ) → number w ≡ o
            → Agree (suc d) at (pos t ∷ w ∷ ws)
            (◌then◌ {A = Got ℕ} (elim o as (λ _. Verdict (Got ℕ)) [ none ↦ fault (suc at) | some n ↦ ok (got n (suc (suc at)) ws) ])
            (λ g. reads g.it g.next g.rest then λ h. give (f h.it) h.next h.rest))
            (elim o as (λ _. Look) [ none ↦ wrong c | some n ↦ looks n ws ])
        go none e = here (unfit w ws e) (omega arith)
        go (some n) e = counted_after n at w ws e (reads n (suc (suc at)) ws) (looks n ws) (row_agrees n (suc (suc at)) ws)

count_heads : (w : ℤ) (n : ℕ) → at_most64 w ≡ some n → (w ≡ pos n) × Heads 1 n
count_heads w n e = let p = at_most_only w n e in (p, of_collection ((at_most_is n).0 (sym (ap at_most64 p) ∙ e)))

width_heads : (w : ℤ) (n : ℕ) → width w ≡ some n → (w ≡ pos n) × Heads 2 n
width_heads w n e = let p = width_only w n e in (p, of_tuple ((width_is n).0 (sym (ap width p) ∙ e)))

negative_outside : (low high n : ℕ) → Outside low high (negsuc n)
unfolding Outside
negative_outside low high n k a b e = let z : ◌≡◌ {A = ℕ} 0 1 = cc in absurd (omega arith)

above_outside : (n : ℕ) → Outside 0 2 (pos (suc (suc (suc n))))
unfolding Outside
above_outside n k a b e = let q : suc (suc (suc n)) ≡ k = cc in omega arith

pub target_agrees : (d at : ℕ) (ws : List ℤ) → Agree d at ws (target d at ws) (value d ws)
unfolding Agree target target_tags target_parts known word entry ◌>>=◌ ◌then◌ give value see kinds any_word innermost opened
target_agrees zero at [] = here no_tag (omega arith)
target_agrees zero at (negsuc n ∷ ws) = here (not_tag (negative_outside 0 2 n)) (omega arith)
target_agrees zero at (pos zero ∷ []) = here no_integer (omega arith)
target_agrees zero at (pos zero ∷ x ∷ ws) = refl
target_agrees zero at (pos (suc zero) ∷ ws) = here deep_collection (omega arith)
target_agrees zero at (pos (suc (suc zero)) ∷ ws) = here deep_tuple (omega arith)
target_agrees zero at (pos (suc (suc (suc n))) ∷ ws) = here (not_tag (above_outside n)) (omega arith)
target_agrees (suc d) at [] = here no_tag (omega arith)
target_agrees (suc d) at (negsuc n ∷ ws) = here (not_tag (negative_outside 0 2 n)) (omega arith)
target_agrees (suc d) at (pos zero ∷ []) = here no_integer (omega arith)
target_agrees (suc d) at (pos zero ∷ x ∷ ws) = refl
target_agrees (suc d) at (pos (suc zero) ∷ ws) =
    counted_agrees d (target_agrees d) 1 bad_count at_most64 collection no_count (λ w us e. not_count (outside_count w e)) count_heads at ws
target_agrees (suc d) at (pos (suc (suc zero)) ∷ ws) =
    counted_agrees d (target_agrees d) 2 bad_width width tupled no_width (λ w us e. not_width (outside_width w e)) width_heads at ws
target_agrees (suc d) at (pos (suc (suc (suc n))) ∷ ws) = here (not_tag (above_outside n)) (omega arith)

pub value_well : (d at : ℕ) (ws : List ℤ) (g : Got Value) → target d at ws ≡ ok g → value d ws ≡ well g.rest
unfolding Agree
value_well d at ws g e = go (target d at ws) e (value d ws) (target_agrees d at ws)
  where
    go : (x : Verdict (Got Value)) → x ≡ ok g → (y : Look) → Agree d at ws x y → y ≡ well g.rest
    go (ok h) q (well us) a = let r : h ≡ g = cc in ap well (a ∙ ap (λ (x : Got Value). x.rest) r)
    go (ok h) q (wrong c) a = elim a [ ]
    go (fault i) q y a = let z : ◌≡◌ {A = ℕ} 0 1 = cc in absurd (suc-ne-zero 0 (sym z))
