-- Readers of a count and then so many forms, one after the other: the parts of a tuple and the elements of a collection, whatever the forms are.
use Prim.Native.Nat.{ℕ, zero, suc, ◌+◌, ◌≤◌}
use Rattle.std.proofs.Common.{arith, ◌∙◌, leb→le, le→leb}
use Rattle.std.specs.Prelude.{◌≡◌, ◌↔◌, Bool, true, false, ◌&&◌, T, leb, ℤ, negsuc}
use Rattle.std.proofs.Math.Path.{sym, ap, ap₂}
use Rattle.std.proofs.Math.Option.{Option, none, some}
use mathlib.Core.List.{List, [], ◌∷◌, ◌++◌, append_assoc}
use Rattle.std.proofs.Math.ListN.{length, length-append}
use Rattle.std.proofs.Math.IntN.{pos}
use Rattle.rules.specs.Reading.{ok, ◌then◌, Got, Reader, give, ◌>>=◌, known, times, width, at_most64}
use Rattle.forms.specs.Tests.{is_true, and_split, and_join}
use Rattle.forms.specs.Written.{IsWidth}
use Rattle.forms.specs.Readers.{got, Took, Sound, Complete, not_some, bind_ok, known_ok, known_is, gives, moved}

-- ---- Which counts are taken.

-- A test of a count takes numbers, and gives the number.
abbrev pub Only : (ℤ → Option ℕ) → Type 0
Only number = (w : ℤ) (n : ℕ) → number w ≡ some n → w ≡ pos n

if_some : (b : Bool) (k n : ℕ) → elim b as (λ _. Option ℕ) [ true ↦ some k | false ↦ none ] ≡ some n → T b × (k ≡ n)
if_some true k n e = (tt, cc)
if_some false k n e = not_some e

some_if : (b : Bool) (n : ℕ) → T b → elim b as (λ _. Option ℕ) [ true ↦ some n | false ↦ none ] ≡ some n
some_if b n t = ap (λ c. elim c as (λ _. Option ℕ) [ true ↦ some n | false ↦ none ]) (is_true b t)

pub width_only : Only width
unfolding width
width_only (pos k) n e = ap pos (if_some (leb 2 k && leb k 4) k n e).1
width_only (negsuc k) n e = not_some e

pub width_is : (n : ℕ) → width (pos n) ≡ some n ↔ IsWidth n
unfolding width IsWidth
width_is n = (
  λ e. let t = and_split (leb 2 n) (leb n 4) (if_some (leb 2 n && leb n 4) n n e).0 in (leb→le 2 n t.0, leb→le n 4 t.1),
  λ h. some_if (leb 2 n && leb n 4) n (and_join (leb 2 n) (leb n 4) (le→leb 2 n h.0) (le→leb n 4 h.1)),
)

pub at_most_only : Only at_most64
unfolding at_most64
at_most_only (pos k) n e = ap pos (if_some (leb k 64) k n e).1
at_most_only (negsuc k) n e = not_some e

pub at_most_is : (n : ℕ) → at_most64 (pos n) ≡ some n ↔ n ≤ 64
unfolding at_most64
at_most_is n = ((λ e. leb→le n 64 (if_some (leb n 64) n n e).0), λ h. some_if (leb n 64) n (le→leb n 64 h))

-- ---- Forms in a row.

-- How they are written and counted, form by form.
pub record Row {A As : Type 0} (no : As) (more : A → As → As) (W : A → List ℤ) (Ws : As → List ℤ) (number : As → ℕ) : Type 1 where
  pub no_words : Ws no ≡ []
  pub more_words : (a : A) (l : As) → Ws (more a l) ≡ W a ++ Ws l
  pub no_number : number no ≡ 0
  pub more_number : (a : A) (l : As) → number (more a l) ≡ suc (number l)
  pub by_forms : (P : As → Type 0) → P no → ((a : A) (l : As) → P l → P (more a l)) → (l : As) → P l

-- Os holds of a row if O holds of each form; and only if.
pub record Gathers {A As : Type 0} (no : As) (more : A → As → As) (O : A → Type 0) (Os : As → Type 0) : Type 0 where
  pub of_no : Os no
  pub of_more : (a : A) (l : As) → O a → Os l → Os (more a l)

abbrev pub Opens : {A As : Type 0} → (A → As → As) → (A → Type 0) → (As → Type 0) → Type 0
Opens {A} {As} more O Os = (a : A) (l : As) → Os (more a l) → O a × Os l

module _ {A As : Type 0} {no : As} {more : A → As → As} {W : A → List ℤ} {Ws : As → List ℤ} {number : As → ℕ}
    (row : Row no more W Ws number) (form : Reader A) where
  times_sound : {O : A → Type 0} {Os : As → Type 0} → Gathers no more O Os → Sound form W O → (n : ℕ)
      → Sound (times no more form n) Ws (λ l. Os l × (number l ≡ n))
  unfolding times Sound
  times_sound {Os = Os} h s zero at ws g e = gives Ws (λ l. Os l × (number l ≡ 0)) no at ws g e
      (ap (λ l. l ++ ws) (sym row.no_words)) (h.of_no, row.no_number)
  times_sound {Os = Os} h s (suc n) at ws g e =
      let b = bind_ok form (λ a. (λ i us. times no more form n i us) >>= λ l. give (more a l)) at ws g e in
      let c = bind_ok (λ i us. times no more form n i us) (λ l. give (more b.0.it l)) b.0.next b.0.rest g b.2 in
      let p = s at ws b.0 b.1 in
      let q = times_sound h s n b.0.next b.0.rest c.0 c.1 in
      gives Ws (λ l. Os l × (number l ≡ suc n)) (more b.0.it c.0.it) c.0.next c.0.rest g c.2
      (p.0 ∙ ap {B = List ℤ} (λ l. W b.0.it ++ l) q.0 ∙ sym (append_assoc (W b.0.it) (Ws c.0.it) c.0.rest)
      ∙ ap (λ l. l ++ c.0.rest) (sym (row.more_words b.0.it c.0.it)))
      (h.of_more b.0.it c.0.it p.1 q.1.0, row.more_number b.0.it c.0.it ∙ ap suc q.1.1)

  more_read : (a : A) (l : As) (at : ℕ) (us : List ℤ) → form at (W a ++ (Ws l ++ us)) ≡ ok (got a (at + length (W a)) (Ws l ++ us))
      → times no more form (number l) (at + length (W a)) (Ws l ++ us) ≡ ok (got l (at + length (W a) + length (Ws l)) us)
      → times no more form (suc (number l)) at ((W a ++ Ws l) ++ us) ≡ ok (got (more a l) (at + length (W a ++ Ws l)) us)
  unfolding times ◌then◌ give ◌>>=◌
  more_read a l at us i j =
      ap (times no more form (suc (number l)) at) (append_assoc (W a) (Ws l) us)
      ∙ ap (λ x. x then λ g. times no more form (number l) g.next g.rest then λ h. give (more g.it h.it) h.next h.rest) i
      ∙ ap (λ x. x then λ h. give (more a h.it) h.next h.rest) j ∙ moved (more a l) us (omega (arith, length-append (W a) (Ws l)))

  times_complete : {O : A → Type 0} {Os : As → Type 0} → Opens more O Os → Complete form W O → (l : As) → Os l → (at : ℕ) (us : List ℤ)
      → times no more form (number l) at (Ws l ++ us) ≡ ok (got l (at + length (Ws l)) us)
  unfolding times Complete give
  times_complete {Os = Os} h c = row.by_forms
      (λ l. Os l → (at : ℕ) (us : List ℤ) → times no more form (number l) at (Ws l ++ us) ≡ ok (got l (at + length (Ws l)) us))
      (λ o at us. rw (row.no_number, row.no_words) (moved no us (omega arith)))
      (λ a l i o at us. let p = h a l o in
      rw (row.more_number a l, row.more_words a l) (more_read a l at us (c a p.0 at (Ws l ++ us)) (i p.1 (at + length (W a)) us)))

  -- A count, and then so many.
  module _ (test : ℤ → Option ℕ) (f : As → A) where
    abbrev counted : Reader A
    counted = known test >>= λ k. times no more form k >>= λ l. give (f l)

    pub counted_sound : {O : A → Type 0} {Os : As → Type 0} → Only test → Gathers no more O Os → Sound form W O
        → (w : ℤ) → ((l : As) → W (f l) ≡ w ∷ pos (number l) ∷ Ws l)
        → (P : A → Type 0) → ((l : As) → Os l → test (pos (number l)) ≡ some (number l) → P (f l))
        → (at : ℕ) (ws : List ℤ) (g : Got A) → counted at ws ≡ ok g → Took W P (w ∷ ws) g
    unfolding Sound
    counted_sound only h s w written P limits at ws g e =
        let b = bind_ok (known test) (λ k. times no more form k >>= λ l. give (f l)) at ws g e in
        let c = bind_ok (times no more form b.0.it) (λ l. give (f l)) b.0.next b.0.rest g b.2 in
        let k = known_ok test at ws b.0 b.1 in
        let q = times_sound h s b.0.it b.0.next b.0.rest c.0 c.1 in
        let m : k.0 ≡ pos (number c.0.it) = only k.0 b.0.it k.2 ∙ ap pos (sym q.1.1) in
        gives W P (f c.0.it) c.0.next c.0.rest g c.2
        (ap {B = List ℤ} (λ l. w ∷ l) (k.1 ∙ ap₂ {C = List ℤ} (λ x l. x ∷ l) m q.0) ∙ ap (λ l. l ++ c.0.rest) (sym (written c.0.it)))
        (limits c.0.it q.1.0 (ap test (sym m) ∙ k.2 ∙ ap some (sym q.1.1)))

    pub counted_complete : {O : A → Type 0} {Os : As → Type 0} → Opens more O Os → Complete form W O
        → (l : As) → Os l → test (pos (number l)) ≡ some (number l) → (at n : ℕ) (us : List ℤ)
        → suc at + length (Ws l) ≡ n → counted at (pos (number l) ∷ (Ws l ++ us)) ≡ ok (got (f l) n us)
    unfolding ◌>>=◌ ◌then◌ give
    counted_complete h c l o t at n us i =
        ap (λ x. x then λ g. times no more form g.it g.next g.rest then λ k. give (f k.it) k.next k.rest)
        (known_is test (pos (number l)) (number l) at (Ws l ++ us) t)
        ∙ ap (λ x. x then λ k. give (f k.it) k.next k.rest) (times_complete h c l o (suc at) us) ∙ moved (f l) us i
