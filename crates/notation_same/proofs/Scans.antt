-- Laws of what specs/Scans.antt defines.
use Prim.Native.Nat.{ℕ, suc, ◌+◌, ◌-◌, ◌/◌, ◌%◌, ◌≤◌, ◌<◌}
use native.Mathlib.Omega.{arith}
use Rattle.std.proofs.Common.{add-one, sym, subst, ◌∙◌, leb-true, leb-false, length-drop, drop-cons}
use Rattle.std.specs.Prelude.{◌≡◌, Bool, get_or, drop, eqb, leb}
use Rattle.std.proofs.Math.Path.{refl, ap}
use Rattle.std.proofs.Math.Bool.{true, false, cond}
use Rattle.std.proofs.Math.Option.{Option, none, some}
use mathlib.Core.List.{List, [], ◌∷◌, ◌++◌}
use Rattle.std.proofs.lemmas.Bool.{eqb-false}
use Rattle.std.proofs.Math.ListN.{length}
use Rattle.std.proofs.Math.Seq.{slice, slice_empty}
use Rattle.notation_rules.specs.Letters.{Kind, gap, dollar, low, digit, letter, twin, symbol, Begun, full, kind, goes_on, begin, takes, is_comment, tokens, by_digit, by_letter, by_low, by_twin}
use Rattle.notation_rules.specs.Places.{Spot, ◌from◌, put, spots}
use Rattle.notation_scan.specs.Scanned.{char_of, next_of, begin_of, more_of, finished, whole_at, advanced, token, scan_from, nothing, scanned}
use Rattle.notation_scan.specs.declared.Begun.{Begun as Code}
use Rattle.notation_same.specs.Chars.{token_of, Told, told}
use Rattle.notation_same.specs.Steps.{begun_by, next_by, State, blank, Class, class_of, goes, begin_by, begun, begun_state, next_state}
use Rattle.notation_same.specs.Scans.{Bytes, begun_of, finished_by, no_tokens, raw_of, snoc, spotted, tokens_are}

unfolds : (c : ℕ) → goes_on (full []) c ≡ none
unfolding goes_on takes is_comment by_digit by_letter by_low by_twin
unfolds c = go (kind c)
  where
    go : (k : Kind) → takes (full []) k ≡ none
    go gap = refl
    go dollar = refl
    go low = refl
    go (digit d) = refl
    go (letter e) = refl
    go (twin t) = refl
    go (symbol t) = refl

after : Begun → ℕ → (c : ℕ) → List ℕ → Option Begun → List Spot
after s f c cs o = elim o as (λ _. List Spot) [ none ↦ put (tokens s) f (spots (begin (kind c)) (suc (length cs)) cs) | some s' ↦ spots s' f cs ]

spots_cons : (s : Begun) (f c : ℕ) (cs : List ℕ) (o : Option Begun) → goes_on s c ≡ o → spots s f (c ∷ cs) ≡ after s f c cs o
unfolding spots after
spots_cons s f c cs o e = ap (after s f c cs) e

anew : (g c : ℕ) (cs : List ℕ) → spots (full []) g (c ∷ cs) ≡ spots (begin (kind c)) (suc (length cs)) cs
unfolding after tokens put
anew g c cs = spots_cons (full []) g c cs none (unfolds c)

module _ (text : List ℕ) (b : Code) (i : ℕ) where
  finish_same : finished text b i ≡ finished_by b.state b.value b.kind (slice b.from i text) (slice b.name i text)
  unfolding finished finished_by
  finish_same = refl

  module _ (st : State b.state b.kind (slice b.name i text)) where
    ends_none : b.state ≤ 1 → spotted text (token text b i) ≡ []
    unfolding spotted token raw_of
    ends_none l = ap (λ k. cond (eqb k 24) [] (token_of k b.value (slice b.name i text) (slice b.from i text) from (length text - b.from) ∷ spots (full []) 0 (drop i text)))
        (finish_same ∙ (no_tokens b.value (slice b.from i text) st l).1)

    ends_one : (xs : List Spot) → 1 < b.state → spots (full []) 0 (drop i text) ≡ xs → put (tokens (begun_of text b i)) (length text - b.from) xs ≡ spotted text (token text b i)
    unfolding spotted token begun_of put raw_of finished finished_by
    ends_one xs l e =
        let p = tokens_are b.value (slice b.from i text) st l in
        ap (λ ts. put ts (length text - b.from) xs) p.0
        ∙ ap (λ ys. token_of (finished_by b.state b.value b.kind (slice b.from i text) (slice b.name i text)) b.value (slice b.name i text) (slice b.from i text) from (length text - b.from) ∷ ys) (sym e)
        ∙ ap (λ t. cond t [] (token_of (finished_by b.state b.value b.kind (slice b.from i text) (slice b.name i text)) b.value (slice b.name i text) (slice b.from i text) from (length text - b.from) ∷ spots (full []) 0 (drop i text)))
        (sym p.1)

head_is : (text : List ℕ) (i c : ℕ) (cs : List ℕ) → drop i text ≡ c ∷ cs → i + suc (length cs) ≡ length text → get_or text i 0 ≡ c
head_is text i c cs d l = let q : get_or text i 0 ∷ drop (suc i) text ≡ c ∷ cs = sym (drop-cons text i 0 (omega arith)) ∙ d in cc

tail_is : (text : List ℕ) (i c : ℕ) (cs : List ℕ) → drop i text ≡ c ∷ cs → i + suc (length cs) ≡ length text → drop (i + 1) text ≡ cs
tail_is text i c cs d l =
    let q : get_or text i 0 ∷ drop (suc i) text ≡ c ∷ cs = sym (drop-cons text i 0 (omega arith)) ∙ d in
    let r : drop (suc i) text ≡ cs = cc in
    ap (λ k. drop k text) (add-one i) ∙ r

-- What the code has begun with a character that begins something, and with one that goes on.
abbrev new : Code → (c i : ℕ) → Code
new b c i = record { state = begin_of (char_of c); kind = char_of c / 16; value = more_of 0 c; from = i; name = i + 1 }

abbrev on : Code → (c : ℕ) → Code
on b c = record { state = next_of b.state (char_of c); kind = b.kind; value = more_of b.value c; from = b.from; name = b.name }

module _ (text : List ℕ) (b : Code) (i c : ℕ) (cs : List ℕ) (d : drop i text ≡ c ∷ cs) (l : i + suc (length cs) ≡ length text) (st : State b.state b.kind (slice b.name i text))
    (fr : b.from ≤ i) (nm : b.name ≤ i) (t : Told c (char_of c % 16) (char_of c / 16))
    (ih : (x : Code) → State x.state x.kind (slice x.name (i + 1) text) → x.from ≤ i + 1 → x.name ≤ i + 1
    → spots (begun_of text x (i + 1)) (length text - x.from) cs ≡ spotted text (scan_from text x (i + 1) cs)) where
  here : get_or text i 0 ≡ c
  here = head_is text i c cs d l

  longer : (f : ℕ) → f ≤ i → slice f (i + 1) text ≡ slice f i text ++ (c ∷ [])
  longer f h = snoc text f i h (omega arith) ∙ ap (λ x. slice f i text ++ (x ∷ [])) here

  cl : Class (char_of c % 16)
  cl = class_of (char_of c % 16) t.class

  one : slice i (i + 1) text ≡ c ∷ []
  one = longer i (omega arith) ∙ ap (λ x. x ++ (c ∷ [])) (slice_empty i text)

  new_same : spots (begin (kind c)) (suc (length cs)) cs ≡ spotted text (scan_from text (new b c i) (i + 1) cs)
  unfolding begun_of begin_of begin_by cl
  new_same =
      let f : suc (length cs) ≡ length text - i = omega arith in
      ap (λ x. spots x (suc (length cs)) cs) (begun c (char_of c / 16) cl t)
      ∙ ap (λ x. spots (begun_by (begin_by (char_of c % 16)) (more_of 0 c) (char_of c / 16) x []) (suc (length cs)) cs) (sym one)
      ∙ ap (λ x. spots (begun_by (begin_by (char_of c % 16)) (more_of 0 c) (char_of c / 16) (slice i (i + 1) text) x) (suc (length cs)) cs) (sym (slice_empty (i + 1) text))
      ∙ ap (λ x. spots (begun_by (begin_by (char_of c % 16)) (more_of 0 c) (char_of c / 16) (slice i (i + 1) text) (slice (i + 1) (i + 1) text)) x cs) f
      ∙ ih (new b c i) (subst (State (begin_by (char_of c % 16)) (char_of c / 16)) (sym (slice_empty (i + 1) text)) (begun_state c (char_of c / 16) cl t)) (omega arith) (omega arith)

  on_same : (next_of b.state (char_of c) ≡ 15 → ⊥)
      → spots (begun_by (next_by b.state (char_of c % 16)) (more_of b.value c) b.kind (slice b.from i text ++ (c ∷ [])) (slice b.name i text ++ (c ∷ []))) (length text - b.from) cs
      ≡ spotted text (scan_from text (on b c) (i + 1) cs)
  unfolding begun_of next_of next_by cl
  on_same h =
      ap (λ x. spots (begun_by (next_by b.state (char_of c % 16)) (more_of b.value c) b.kind x (slice b.name i text ++ (c ∷ []))) (length text - b.from) cs) (sym (longer b.from fr))
      ∙ ap (λ x. spots (begun_by (next_by b.state (char_of c % 16)) (more_of b.value c) b.kind (slice b.from (i + 1) text) x) (length text - b.from) cs) (sym (longer b.name nm))
      ∙ ih (on b c) (subst (State (next_by b.state (char_of c % 16)) b.kind) (sym (longer b.name nm)) (next_state c (char_of c / 16) st cl h)) (omega arith) (omega arith)

  next : Begun
  next = begun_by (next_by b.state (char_of c % 16)) (more_of b.value c) b.kind (slice b.from i text ++ (c ∷ [])) (slice b.name i text ++ (c ∷ []))

  cases : (l' q : Bool) → leb b.state 1 ≡ l' → eqb (next_of b.state (char_of c)) 15 ≡ q
      → after (begun_of text b i) (length text - b.from) c cs (cond q none (some next))
      ≡ spotted text (cond (cond l' false q) (token text b i) (scan_from text (cond q (new b c i) (on b c)) (i + 1) cs))
  unfolding after put next begun_of
  cases true true e f =
      ap (λ ts. put ts (length text - b.from) (spots (begin (kind c)) (suc (length cs)) cs)) (no_tokens b.value (slice b.from i text) st (leb-true b.state 1 e)).0 ∙ new_same
  cases true false e f = on_same (eqb-false (next_of b.state (char_of c)) 15 f)
  cases false true e f =
      ends_one text b i st (spots (begin (kind c)) (suc (length cs)) cs) (leb-false b.state 1 e) (ap (spots (full []) 0) d ∙ anew 0 c cs)
  cases false false e f = on_same (eqb-false (next_of b.state (char_of c)) 15 f)

  step_same : spots (begun_of text b i) (length text - b.from) (c ∷ cs) ≡ spotted text (scan_from text b i (c ∷ cs))
  unfolding scan_from whole_at advanced begun_of next next_of next_by cl
  step_same =
      spots_cons (begun_of text b i) (length text - b.from) c cs (cond (eqb (next_of b.state (char_of c)) 15) none (some next)) (goes b.value c (char_of c / 16) (slice b.from i text) st cl t)
      ∙ cases (leb b.state 1) (eqb (next_of b.state (char_of c)) 15) refl refl

pub scan_spots : (text : List ℕ) → Bytes text → (cs : List ℕ) (b : Code) (i : ℕ) → drop i text ≡ cs → i + length cs ≡ length text → State b.state b.kind (slice b.name i text) → b.from ≤ i → b.name ≤ i
    → spots (begun_of text b i) (length text - b.from) cs ≡ spotted text (scan_from text b i cs)
unfolding scan_from spots Bytes begun_of
scan_spots text bytes [] b i d l st fr nm = go (leb b.state 1) refl
  where
    go : (t : Bool) → leb b.state 1 ≡ t → put (tokens (begun_of text b i)) (length text - b.from) [] ≡ spotted text (token text b i)
    go true e = ap (λ ts. put ts (length text - b.from) []) (no_tokens b.value (slice b.from i text) st (leb-true b.state 1 e)).0 ∙ sym (ends_none text b i st (leb-true b.state 1 e))
    go false e = ends_one text b i st [] (leb-false b.state 1 e) (ap (spots (full []) 0) d)
scan_spots text bytes (c ∷ cs) b i d l st fr nm =
    step_same text b i c cs d l st fr nm (told c (subst (λ x. x < 256) (head_is text i c cs d l) (bytes i)))
    (λ x s f n. scan_spots text bytes cs x (i + 1) (tail_is text i c cs d l) (omega arith) s f n)

-- From an index of a text on.
pub from_index : (text : List ℕ) → Bytes text → (g at : ℕ) → at ≤ length text → spots (full []) g (drop at text) ≡ spotted text (scanned text at)
unfolding scanned nothing begun_of begun_by spots tokens put
from_index text bytes g at h = free g (drop at text) ∙ scan_spots text bytes (drop at text) (nothing at) at refl (rw (length-drop at text) (omega arith)) blank (omega arith) (omega arith)
  where
    free : (f : ℕ) (cs : List ℕ) → spots (full []) f cs ≡ spots (full []) (length text - at) cs
    free f [] = refl
    free f (c ∷ cs) = anew f c cs ∙ sym (anew (length text - at) c cs)
