-- Texts written one behind the other. Assumes nothing.
use mathlib.Core.Path.{◌≡◌, refl, sym, ◌∙◌, ap}
use mathlib.Core.List.{List, [], ◌∷◌, ◌++◌, append_assoc}
use Prim.Native.Nat.{ℕ, suc, ◌+◌, ◌-◌, ◌≤◌}
use native.Mathlib.Nat.{add_assoc, add-zero}
use native.Mathlib.Omega.{arith}
use lib.ListN.{length, take, drop, set, length-append}
use lib.Seq.{length-sets, sets-eq, take_at, drop_at, length-take-le, drop-drop}
use Rattle.text_print.specs.Meaning.{put, Wrote}

pub length_put : (l : List ℕ) (i : ℕ) (bs : List ℕ) → length (put l i bs) ≡ length l
unfolding put
length_put l i bs = length-sets l i bs

pub put_more : (l : List ℕ) (i : ℕ) (bs cs : List ℕ) → put (put l i bs) (i + length bs) cs ≡ put l i (bs ++ cs)
unfolding put
put_more l i [] cs = rw (add-zero i)
put_more l i (b ∷ bs) cs = let e : i + suc (length bs) ≡ suc i + length bs = omega arith in rw e (put_more (set l i b) (suc i) bs cs)

pub same_long : (l m : List ℕ) (at end : ℕ) (text : List ℕ) → Wrote l m at end text → length m ≡ length l
same_long l m at end text w = ap length w.bytes ∙ length_put l at text

-- One text behind another, and one byte behind a text.
pub and_then : (l m n : List ℕ) (i j k : ℕ) (bs cs : List ℕ) → Wrote l m i j bs → Wrote m n j k cs → Wrote l n i k (bs ++ cs)
and_then l m n i j k bs cs u w = record {
  ends = w.ends ∙ ap (λ (x : ℕ). x + length cs) u.ends ∙ rw (length-append bs cs) (add_assoc i (length bs) (length cs));
  bytes = w.bytes ∙ ap (λ (x : List ℕ). put x j cs) u.bytes ∙ ap (λ (x : ℕ). put (put l i bs) x cs) u.ends ∙ put_more l i bs cs;
}

pub one_byte : (l : List ℕ) (i b : ℕ) → Wrote l (set l i b) i (i + 1) (b ∷ [])
unfolding put
one_byte l i b = record { ends = refl; bytes = refl }

-- What was there, then the text, then what was there.
module _ (l m : List ℕ) (i j : ℕ) (text : List ℕ) (w : Wrote l m i j text) (h : i + length text ≤ length l) where
  all : m ≡ take i l ++ text ++ drop (i + length text) l
  unfolding put
  all = w.bytes ∙ sets-eq text l i h

  front : length (take i l ++ text) ≡ j
  front = length-append (take i l) text ∙ ap (λ (x : ℕ). x + length text) (length-take-le i l (omega arith)) ∙ sym w.ends

  pub take_wrote : take j m ≡ take i l ++ text
  take_wrote = rw all (take_at (take i l ++ text) (drop (i + length text) l) j front)

  pub drop_wrote : drop j m ≡ drop j l
  drop_wrote =
      rw all (drop_at (take i l ++ text) (drop (i + length text) l) j front)
      ∙ ap (λ (x : ℕ). drop x l) (sym w.ends)

-- What is left to write of a text.
unfoldable pub Left : (l : List ℕ) (at : ℕ) (text m : List ℕ) (i : ℕ) (rest : List ℕ) → Type 0
Left l at text m i rest = (put m i rest ≡ put l at text) × (i + length rest ≡ at + length text)

pub left_all : (l : List ℕ) (at : ℕ) (text : List ℕ) → Left l at text l at text
unfolding Left
left_all l at text = (refl, refl)

module _ (l m n : List ℕ) (at i j : ℕ) (text bs : List ℕ) (w : Wrote m n i j bs) where
  pub left_some : (cs : List ℕ) → Left l at text m i (bs ++ cs) → Left l at text n j cs
  unfolding Left
  left_some cs h = (
    rw (w.bytes, w.ends) (put_more m i bs cs) ∙ h.0,
    let a = length-append bs cs in let b = w.ends in let c = h.1 in omega arith,
  )

  pub left_none : Left l at text m i bs → Wrote l n at j text
  unfolding Left
  left_none h = record { ends = w.ends ∙ h.1; bytes = w.bytes ∙ h.0 }

-- A text that grows at its end: what is written and what is still to come are what was there and the text; all behind is as it was.
pub record Going (old : List ℕ) (at : ℕ) (text out : List ℕ) (o : ℕ) (rest : List ℕ) : Type 0 where
  pub whole : take o out ++ rest ≡ take at old ++ text
  pub kept : drop o out ≡ drop o old
  pub long : length out ≡ length old

pub going_on : (old : List ℕ) (at : ℕ) (text out m line rest more : List ℕ) (o r : ℕ) → Going old at text out o rest → Wrote out m o r line
    → o + length line ≤ length out → rest ≡ line ++ more → Going old at text m r more
going_on old at text out m line rest more o r g w b e =
    let s : o + (r - o) ≡ r = (let k = w.ends in omega arith) in
    record {
      whole = rw (take_wrote out m o r line w b, append_assoc (take o out) line more, ← e) g.whole;
      kept = drop_wrote out m o r line w b ∙ rw (← s, ← drop-drop (r - o) o out, g.kept, drop-drop (r - o) o old);
      long = same_long out m o r line w ∙ g.long;
    }
