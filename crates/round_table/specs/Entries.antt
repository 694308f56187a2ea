-- The entries of a lent table: three words each, a place and the two halves of marks.
use Rattle.std.specs.Prelude.{ℕ, ◌+◌, ◌*◌, ◌/◌, ◌%◌, ◌^◌, ◌≤◌, ◌<◌, ◌≡◌, List, length, get_or, set, ℤ, pos}
use Rattle.std.proofs.Common.{arith, ap₂, ◌∙◌, to_z, of_z}
use Rattle.std.proofs.Math.Path.{ap}
use Rattle.std.proofs.Math.ListN.{length-set}
use Rattle.std.proofs.Math.Seq.{get_or-set_same, get_or-set_other}
use mir.Syntax.{w32}
use mir.ValLaws.{of_z-to_z}
use Rattle.tables.specs.declared.slot.Held.{Held}

unfoldable pub halves : ℕ → ℕ → ℕ
halves low high = low + 4294967296 * high

-- The bits of a word.
unfoldable pub word_at : List ℤ → ℕ → ℕ
word_at ws i = of_z w32 (get_or ws i (pos 0))

unfoldable pub entry_at : List ℤ → ℕ → Held
unfolding word_at halves
entry_at ws i = record { at = word_at ws (3 * i); marks = halves (word_at ws (3 * i + 1)) (word_at ws (3 * i + 2)) }

unfoldable pub put_entry : List ℤ → ℕ → Held → List ℤ
put_entry ws i h =
    set (set (set ws (3 * i) (to_z w32 (h.at % 4294967296))) (3 * i + 1) (to_z w32 (h.marks % 4294967296))) (3 * i + 2) (to_z w32 (h.marks / 4294967296 % 4294967296))

-- What fits an entry.
pub record Small (h : Held) : Type 0 where
  pub at : h.at < 4294967296
  pub marks : h.marks < 2 ^ 64

pub put_long : (ws : List ℤ) (i : ℕ) (h : Held) → length (put_entry ws i h) ≡ length ws
unfolding put_entry
put_long ws i h =
    length-set (set (set ws (3 * i) (to_z w32 (h.at % 4294967296))) (3 * i + 1) (to_z w32 (h.marks % 4294967296))) (3 * i + 2) (to_z w32 (h.marks / 4294967296 % 4294967296))
    ∙ length-set (set ws (3 * i) (to_z w32 (h.at % 4294967296))) (3 * i + 1) (to_z w32 (h.marks % 4294967296))
    ∙ length-set ws (3 * i) (to_z w32 (h.at % 4294967296))

-- What is read back.
module _ (ws : List ℤ) (i a b c : ℕ) (l : 3 * i + 2 < length ws) where
  abbrev one : List ℤ
  one = set ws (3 * i) (to_z w32 a)

  abbrev two : List ℤ
  two = set one (3 * i + 1) (to_z w32 b)

  abbrev three : List ℤ
  three = set two (3 * i + 2) (to_z w32 c)

  read_word : (n : ℕ) → n < 4294967296 → of_z w32 (to_z w32 n) ≡ n
  read_word n h = of_z-to_z w32 n (record { fits = h })

  first_is : a < 4294967296 → word_at three (3 * i) ≡ a
  unfolding word_at
  first_is h =
      ap (of_z w32) (get_or-set_other two (3 * i + 2) (3 * i) (to_z w32 c) (pos 0) (λ z. omega arith) ∙ get_or-set_other one (3 * i + 1) (3 * i) (to_z w32 b) (pos 0) (λ z. omega arith)
      ∙ get_or-set_same ws (3 * i) (to_z w32 a) (pos 0) (omega arith)) ∙ read_word a h

  second_is : b < 4294967296 → word_at three (3 * i + 1) ≡ b
  unfolding word_at
  second_is h =
      let n = length-set ws (3 * i) (to_z w32 a) in
      ap (of_z w32) (get_or-set_other two (3 * i + 2) (3 * i + 1) (to_z w32 c) (pos 0) (λ z. omega arith) ∙ get_or-set_same one (3 * i + 1) (to_z w32 b) (pos 0) (omega arith)) ∙ read_word b h

  third_is : c < 4294967296 → word_at three (3 * i + 2) ≡ c
  unfolding word_at
  third_is h =
      let n = length-set ws (3 * i) (to_z w32 a) in
      let m = length-set one (3 * i + 1) (to_z w32 b) in
      ap (of_z w32) (get_or-set_same two (3 * i + 2) (to_z w32 c) (pos 0) (omega arith)) ∙ read_word c h

  other_is : (k : ℕ) → (k ≡ 3 * i → ⊥) → (k ≡ 3 * i + 1 → ⊥) → (k ≡ 3 * i + 2 → ⊥) → word_at three k ≡ word_at ws k
  unfolding word_at
  other_is k x y z =
      ap (of_z w32) (get_or-set_other two (3 * i + 2) k (to_z w32 c) (pos 0) z ∙ get_or-set_other one (3 * i + 1) k (to_z w32 b) (pos 0) y ∙ get_or-set_other ws (3 * i) k (to_z w32 a) (pos 0) x)

-- An entry as its words hold it.
unfoldable pub cut : Held → Held
unfolding halves
cut h = record { at = h.at % 4294967296; marks = halves (h.marks % 4294967296) (h.marks / 4294967296 % 4294967296) }

pub cut_small : (h : Held) → Small h → cut h ≡ h
unfolding cut halves
cut_small h s i = record { at = (let q = s.at in let e : h.at % 4294967296 ≡ h.at = omega arith in e) i; marks = (let q = s.marks in let e : h.marks % 4294967296 + 4294967296 * (h.marks / 4294967296 % 4294967296) ≡ h.marks = omega arith in e) i }

pub put_cut : (ws : List ℤ) (i : ℕ) (h : Held) → 3 * i + 2 < length ws → entry_at (put_entry ws i h) i ≡ cut h
unfolding entry_at put_entry cut
put_cut ws i h l k = record {
  at = first_is ws i (h.at % 4294967296) (h.marks % 4294967296) (h.marks / 4294967296 % 4294967296) l (omega arith) k;
  marks = ap₂ halves (second_is ws i (h.at % 4294967296) (h.marks % 4294967296) (h.marks / 4294967296 % 4294967296) l (omega arith)) (third_is ws i (h.at % 4294967296) (h.marks % 4294967296) (h.marks / 4294967296 % 4294967296) l (omega arith)) k;
}

pub put_same : (ws : List ℤ) (i : ℕ) (h : Held) → 3 * i + 2 < length ws → Small h → entry_at (put_entry ws i h) i ≡ h
put_same ws i h l s = put_cut ws i h l ∙ cut_small h s

pub put_other : (ws : List ℤ) (i k : ℕ) (h : Held) → 3 * i + 2 < length ws → (k ≡ i → ⊥) → entry_at (put_entry ws i h) k ≡ entry_at ws k
unfolding entry_at put_entry halves
put_other ws i k h l n j = record {
  at = other_is ws i a b c l (3 * k) (λ z. n (omega arith)) (λ z. omega arith) (λ z. omega arith) j;
  marks = ap₂ halves (other_is ws i a b c l (3 * k + 1) (λ z. omega arith) (λ z. n (omega arith)) (λ z. omega arith)) (other_is ws i a b c l (3 * k + 2) (λ z. omega arith) (λ z. omega arith) (λ z. n (omega arith))) j;
}
  where
    a : ℕ
    a = h.at % 4294967296

    b : ℕ
    b = h.marks % 4294967296

    c : ℕ
    c = h.marks / 4294967296 % 4294967296

-- n entries are copied: each reads as that from which it came, and every other one as it did.
pub record Copied (old new : List ℤ) (from to n : ℕ) : Type 0 where
  pub long : length new ≡ length old
  pub same : (k : ℕ) → k < n → entry_at new (to + k) ≡ entry_at old (from + k)
  pub low : (k : ℕ) → k < to → entry_at new k ≡ entry_at old k
  pub high : (k : ℕ) → to + n ≤ k → entry_at new k ≡ entry_at old k

-- Entries of a list of states are written: those of the numbers from one up to another, as f has them.
pub record Saved (old new : List ℤ) (base low high : ℕ) (f : ℕ → Held) : Type 0 where
  pub long : length new ≡ length old
  pub same : (j : ℕ) → low ≤ j → j < high → entry_at new (base + 3 + j) ≡ f j
  pub below : (k : ℕ) → k < base + 3 + low → entry_at new k ≡ entry_at old k
  pub above : (k : ℕ) → base + 3 + high ≤ k → entry_at new k ≡ entry_at old k
