-- Readers: when one takes exactly the words that a form writes out, and how that passes through what readers are made of.
use Prim.Native.Nat.{ℕ, suc, ◌+◌, ◌≤◌}
use Rattle.std.proofs.Common.{suc-ne-zero, sym, ◌∙◌, leb→le}
use Rattle.std.proofs.Math.Path.{◌≡◌, refl, ap, subst}
use Rattle.std.specs.Prelude.{◌↔◌, Bool, T, leb, ℤ}
use Rattle.std.proofs.Math.Bool.{true, false}
use Rattle.std.proofs.Math.Option.{Option, none, some}
use mathlib.Core.List.{List, [], ◌∷◌, ◌++◌, append-nil}
use Rattle.std.proofs.Math.ListN.{length}
use Rattle.rules.specs.Reading.{Verdict, ok, fault, ◌then◌, Got, Reader, give, ◌>>=◌, known, word, entry, ended, whole, limited}
use Rattle.forms.specs.Tests.{leb_true}

abbrev pub got : {A : Type 0} → A → ℕ → List ℤ → Got A
got a next rest = record { it = a; next = next; rest = rest }

module _ {A : Type 0} (W : A → List ℤ) (O : A → Type 0) where
  -- The words taken are those that W writes for what was read, and O holds of it.
  abbrev pub Took : List ℤ → Got A → Type 0
  Took ws g = (ws ≡ W g.it ++ g.rest) × O g.it

module _ {A : Type 0} (r : Reader A) (W : A → List ℤ) (O : A → Type 0) where
  -- What is read is written.
  unfoldable pub Sound : Type 0
  Sound = (at : ℕ) (ws : List ℤ) (g : Got A) → r at ws ≡ ok g → Took W O ws g

  -- What is written is read, before any words and at any index.
  unfoldable pub Complete : Type 0
  Complete = (a : A) → O a → (at : ℕ) (us : List ℤ) → r at (W a ++ us) ≡ ok (got a (at + length (W a)) us)

-- ---- What was read, and by which parts.

pub of_some : {A : Type 0} (P : A → Type 0) {a b : A} → some a ≡ some b → P a → P b
of_some {A} P {a} {b} e p = let q : a ≡ b = cc in subst P q p

pub not_some : {A B : Type 0} {a : A} → none ≡ some a → B
not_some e = let z : ◌≡◌ {A = ℕ} 0 1 = cc in absurd (suc-ne-zero 0 (sym z))

pub then_ok : {A B : Type 0} (x : Verdict A) (k : A → Verdict B) (b : B) → (x then k) ≡ ok b → (a : A) × (x ≡ ok a) × (k a ≡ ok b)
unfolding ◌then◌
then_ok (ok a) k b e = (a, refl, e)
then_ok (fault i) k b e = let z : ◌≡◌ {A = ℕ} 0 1 = cc in absurd (suc-ne-zero 0 (sym z))

module _ {A B : Type 0} (r : Reader A) (k : A → Reader B) where
  pub bind_ok : (at : ℕ) (ws : List ℤ) (g : Got B) → (r >>= k) at ws ≡ ok g
      → (h : Got A) × (r at ws ≡ ok h) × (k h.it h.next h.rest ≡ ok g)
  unfolding ◌>>=◌
  bind_ok at ws g e = then_ok (r at ws) (λ h. k h.it h.next h.rest) g e

module _ {A : Type 0} where
  pub gives : (W : A → List ℤ) (O : A → Type 0) (a : A) (at : ℕ) (us : List ℤ) (g : Got A) → give a at us ≡ ok g
      → {ws : List ℤ} → ws ≡ W a ++ us → O a → Took W O ws g
  unfolding give
  gives W O a at us g e {ws} h o = let q : got a at us ≡ g = cc in subst (Took W O ws) q (h, o)

  pub known_ok : (f : ℤ → Option A) (at : ℕ) (ws : List ℤ) (g : Got A) → known f at ws ≡ ok g
      → (w : ℤ) × (ws ≡ w ∷ g.rest) × (f w ≡ some g.it)
  unfolding known
  known_ok f at [] g e = let z : ◌≡◌ {A = ℕ} 0 1 = cc in absurd (suc-ne-zero 0 (sym z))
  known_ok f at (w ∷ ws) g e = go (f w) refl e
    where
      go : (o : Option A) → f w ≡ o
          → elim o as (λ _. Verdict (Got A)) [ none ↦ fault at | some a ↦ ok (record { it = a; next = suc at; rest = ws }) ] ≡ ok g
          → (u : ℤ) × (w ∷ ws ≡ u ∷ g.rest) × (f u ≡ some g.it)
      go none q e = let z : ◌≡◌ {A = ℕ} 0 1 = cc in absurd (suc-ne-zero 0 (sym z))
      go (some a) q e =
          let s : got a (suc at) ws ≡ g = cc in
          (w, ap {B = List ℤ} (λ (h : Got A). w ∷ h.rest) s, q ∙ ap (λ (h : Got A). some h.it) s)

  pub known_is : (f : ℤ → Option A) (w : ℤ) (a : A) (at : ℕ) (ws : List ℤ) → f w ≡ some a → known f at (w ∷ ws) ≡ ok (got a (suc at) ws)
  unfolding known
  known_is f w a at ws e = ap (λ o. elim o as (λ _. Verdict (Got A)) [ none ↦ fault at | some b ↦ ok (record { it = b; next = suc at; rest = ws }) ]) e

  -- An index that is written in two ways.
  pub moved : (a : A) (us : List ℤ) {i j : ℕ} → i ≡ j → ◌≡◌ {A = Verdict (Got A)} (ok (got a i us)) (ok (got a j us))
  moved a us e = ap (λ n. ok (got a n us)) e

pub word_ok : (at : ℕ) (ws : List ℤ) (g : Got ℤ) → word at ws ≡ ok g → ws ≡ g.it ∷ g.rest
unfolding word
word_ok at ws g e =
    let k = known_ok some at ws g e in
    let q : k.0 ≡ g.it = cc in
    k.1 ∙ ap {B = List ℤ} (λ x. x ∷ g.rest) q

-- A tag from a table, then its parts. `Means w t`: t is what the tag w stands for.
module _ {A Tag : Type 0} (table : List Tag) (parts : Tag → Reader A) (W : A → List ℤ) (O : A → Type 0) (Means : ℤ → Tag → Type 0) where
  pub tagged_sound : ((w : ℤ) (t : Tag) → entry table w ≡ some t → Means w t)
      → ((w : ℤ) (t : Tag) → Means w t → (at : ℕ) (ws : List ℤ) (g : Got A) → parts t at ws ≡ ok g → Took W O (w ∷ ws) g)
      → Sound (known (entry table) >>= parts) W O
  unfolding Sound
  tagged_sound means read at ws g e =
      let b = bind_ok (known (entry table)) parts at ws g e in
      let k = known_ok (entry table) at ws b.0 b.1 in
      let s = read k.0 b.0.it (means k.0 b.0.it k.2) b.0.next b.0.rest g b.2 in
      (k.1 ∙ s.0, s.1)

-- A reader that reads nothing.
pub none_read : {A : Type 0} (W : A → List ℤ) (O : A → Type 0) → Sound (λ i us. fault i) W O
unfolding Sound
none_read W O at ws g e = let z : ◌≡◌ {A = ℕ} 0 1 = cc in absurd (suc-ne-zero 0 (sym z))

-- ---- A whole slice.

module _ {A : Type 0} (r : Reader A) (W : A → List ℤ) (O : A → Type 0) where
  pub whole_sound : Sound r W O → (ws : List ℤ) (a : A) → whole r ws ≡ ok a → (ws ≡ W a) × O a
  unfolding Sound whole ended
  whole_sound s ws a e = let t = then_ok (r 0 ws) ended a e in go t.0 (s 0 ws t.0 t.1) t.0.rest refl t.2
    where
      go : (g : Got A) → Took W O ws g → (us : List ℤ) → g.rest ≡ us
          → elim us as (λ _. Verdict A) [ [] ↦ ok g.it | v ∷ vs ↦ fault g.next ] ≡ ok a → (ws ≡ W a) × O a
      go g h [] q e =
          let i : g.it ≡ a = cc in
          (h.0 ∙ ap {B = List ℤ} (λ us. W g.it ++ us) q ∙ append-nil (W g.it) ∙ ap W i, subst O i h.1)
      go g h (v ∷ vs) q e = let z : ◌≡◌ {A = ℕ} 0 1 = cc in absurd (suc-ne-zero 0 (sym z))

  pub whole_complete : Complete r W O → (a : A) → O a → whole r (W a) ≡ ok a
  unfolding Complete whole ended ◌then◌
  whole_complete c a o = ap (λ x. x then ended) (ap (r 0) (sym (append-nil (W a))) ∙ c a o 0 [])

module _ {A : Type 0} (most : ℕ) (r : List ℤ → Verdict A) where
  pub limited_ok : (ws : List ℤ) (a : A) → limited most r ws ≡ ok a ↔ (length ws ≤ most) × (r ws ≡ ok a)
  unfolding limited
  limited_ok ws a = (
    λ e. go (leb (length ws) most) (leb→le (length ws) most) e,
    λ h. ap (λ b. elim b as (λ _. Verdict A) [ true ↦ r ws | false ↦ fault most ]) (leb_true (length ws) most h.0) ∙ h.1,
  )
    where
      go : (b : Bool) → (T b → length ws ≤ most) → elim b as (λ _. Verdict A) [ true ↦ r ws | false ↦ fault most ] ≡ ok a
          → (length ws ≤ most) × (r ws ≡ ok a)
      go true f e = (f tt, e)
      go false f e = let z : ◌≡◌ {A = ℕ} 0 1 = cc in absurd (suc-ne-zero 0 (sym z))
