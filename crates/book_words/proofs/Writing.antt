-- Words written one after the other. Assumes nothing.
use Prim.Native.Nat.{ℕ, zero, suc, ◌+◌, ◌-◌, ◌*◌, ◌/◌, ◌%◌, ◌^◌, ◌≤◌, ◌<◌}
use native.Mathlib.Omega.{arith}
use mathlib.Core.Path.{◌≡◌, refl, sym, ap, ap₂, ◌∙◌}
use mathlib.Core.List.{List, [], ◌∷◌}
use lib.ListN.{length, get_or, take, drop, replicate, length-replicate}
use lib.Seq.{sets, sets-eq, drop-cons}
use lib.IntN.{ℤ, pos, negsuc}
use borrow.Author.Rules.{sfits_of}
use borrow.Rule.Slice.PartMut.{put_mid}
use mir.Syntax.{w16, w32}
use lib.Signed.{mag}
use mir.Val.{Fits, to_z, of_z, hbits}
use mir.Facts.{to_z-of_z}
use Rattle.std.specs.Int.{to_le_bytes}
use Rattle.std.proofs.Common.{append_assoc}
use Rattle.std.specs.List.{between}
use Rattle.std.proofs.lemmas.List.Edits.{paste_all, length-between}
use Rattle.std.proofs.lemmas.Slice.{put_mid-paste}
use Rattle.book_rules.specs.Blocks.{unsigned, split}
use Rattle.book_rules.specs.Bytes.{bytes_of}

-- ---- A word.

pub two_bytes : (w : ℕ) → w < 65536 → to_le_bytes w16 w ≡ bytes_of (w ∷ [])
unfolding bytes_of
two_bytes w h = let e : w / 256 % 256 ≡ w / 256 = omega arith in ap (λ (x : ℕ). w % 256 ∷ x ∷ []) e

pub four_bytes : (x : ℕ) → x < 4294967296 → to_le_bytes w32 x ≡ bytes_of (x % 65536 ∷ x / 65536 ∷ [])
unfolding bytes_of
four_bytes x h =
    let a : x % 256 ≡ x % 65536 % 256 = omega arith in
    let b : x / 256 % 256 ≡ x % 65536 / 256 = omega arith in
    let c : x / 16777216 % 256 ≡ x / 65536 / 256 = omega arith in
    ap₂ (λ (y z : ℕ). y ∷ z ∷ x / 65536 % 256 ∷ x / 16777216 % 256 ∷ []) a b
    ∙ ap (λ (y : ℕ). x % 65536 % 256 ∷ x % 65536 / 256 ∷ x / 65536 % 256 ∷ y ∷ []) c

pub zero_bytes : (n : ℕ) → replicate (2 * n) 0 ≡ bytes_of (replicate n 0)
unfolding bytes_of
zero_bytes zero = refl
zero_bytes (suc n) =
    let a : 2 * suc n ≡ suc (suc (2 * n)) = omega arith in
    ap (λ (m : ℕ). replicate m 0) a ∙ ap (λ (l : List ℕ). 0 ∷ 0 ∷ l) (zero_bytes n)

-- What a write of bytes to a part of the slice leaves.
pub put_sets : (at k : ℕ) (s part bs : List ℕ) → part ≡ bs → k ≡ length bs → at + length bs ≤ length s → put_mid at k s part ≡ sets s at bs
put_sets at k s part bs e f h =
    put_mid-paste at k s part bs (length bs) e (sym f) refl ∙ paste_all s at bs (length bs) refl
    ∙ sym (append_assoc (take at s) bs (drop (at + length bs) s)) ∙ sym (sets-eq bs s at h)

module _ (s part : List ℕ) (at : ℕ) where
  pub word_put : (w : ℕ) → at + 2 ≤ length s → Fits w16 w → part ≡ to_le_bytes w16 w → put_mid at (at + 2 - at) s part ≡ sets s at (bytes_of (w ∷ []))
  unfolding bytes_of
  word_put w h k e =
      let l = k.fits in
      put_sets at (at + 2 - at) s part (bytes_of (w ∷ [])) (e ∙ two_bytes w (omega arith)) (omega arith) h

  pub halves_put : (x : ℕ) → at + 4 ≤ length s → Fits w32 x → part ≡ to_le_bytes w32 x → put_mid at (at + 4 - at) s part ≡ sets s at (bytes_of (x % 65536 ∷ x / 65536 ∷ []))
  unfolding bytes_of
  halves_put x h k e =
      let l = k.fits in
      put_sets at (at + 4 - at) s part (bytes_of (x % 65536 ∷ x / 65536 ∷ [])) (e ∙ four_bytes x (omega arith)) (omega arith) h

  pub zeros_put : (n : ℕ) → at + 2 * n ≤ length s → part ≡ replicate (length (between at (at + 2 * n) s)) 0 → put_mid at (at + 2 * n - at) s part ≡ sets s at (bytes_of (replicate n 0))
  zeros_put n h e =
      let k : length (bytes_of (replicate n 0)) ≡ 2 * n = ap length (sym (zero_bytes n)) ∙ length-replicate (2 * n) 0 in
      let l : length (between at (at + 2 * n) s) ≡ 2 * n = length-between s at (at + 2 * n) h ∙ (omega arith) in
      put_sets at (at + 2 * n - at) s part (bytes_of (replicate n 0)) (e ∙ ap (λ (m : ℕ). replicate m 0) l ∙ zero_bytes n) (omega arith) (omega arith)

-- ---- Signed words.

unsigned_is : (z : ℤ) → of_z w32 z ≡ unsigned z
unfolding unsigned
unsigned_is (pos n) = refl
unsigned_is (negsuc n) = let e : 4294967296 - suc n ≡ 4294967295 - n = omega arith in e

two_words : (s : List ℕ) (at a b : ℕ) (ws : List ℕ) → sets s at (bytes_of (a ∷ b ∷ ws)) ≡ sets (sets s at (bytes_of (a ∷ b ∷ []))) (at + 4) (bytes_of ws)
unfolding bytes_of
two_words s at a b ws =
    let p : suc (suc (suc (suc at))) ≡ at + 4 = omega arith in
    ap (λ (j : ℕ). sets (sets s at (bytes_of (a ∷ b ∷ []))) j (bytes_of ws)) p

split_on : (zs : List ℤ) (i : ℕ) → i < length zs → split (drop i zs) ≡ unsigned (get_or zs i (pos 0)) % 65536 ∷ unsigned (get_or zs i (pos 0)) / 65536 ∷ split (drop (i + 1) zs)
unfolding split
split_on zs i h = let p : suc i ≡ i + 1 = omega arith in ap split (drop-cons zs i (pos 0) h) ∙ ap (λ (j : ℕ). unsigned (get_or zs i (pos 0)) % 65536 ∷ unsigned (get_or zs i (pos 0)) / 65536 ∷ split (drop j zs)) p

module _ (s t whole : List ℕ) (zs : List ℤ) (at i : ℕ) where
  pub words_turn : whole ≡ sets s (at + 4 * i) (bytes_of (split (drop i zs))) → i < length zs → (u : ℕ) → u ≡ of_z w32 (to_z w32 (of_z w32 (get_or zs i (pos 0)))) → mag (get_or zs i (pos 0)) < 2 ^ hbits w32
      → t ≡ sets s (at + 4 * i) (bytes_of (u % 65536 ∷ u / 65536 ∷ [])) → whole ≡ sets t (at + 4 * (i + 1)) (bytes_of (split (drop (i + 1) zs)))
  words_turn e h u k m f =
      let b : at + 4 * i + 4 ≡ at + 4 * (i + 1) = omega arith in
      let v : unsigned (get_or zs i (pos 0)) ≡ u = sym (k ∙ ap (of_z w32) (to_z-of_z {w = w32} {z = get_or zs i (pos 0)} (sfits_of {w = w32} {z = get_or zs i (pos 0)} m)) ∙ unsigned_is (get_or zs i (pos 0))) in
      e ∙ ap (λ (ws : List ℕ). sets s (at + 4 * i) (bytes_of ws)) (split_on zs i h ∙ ap (λ (x : ℕ). x % 65536 ∷ x / 65536 ∷ split (drop (i + 1) zs)) v)
      ∙ two_words s (at + 4 * i) (u % 65536) (u / 65536) (split (drop (i + 1) zs))
      ∙ ap₂ (λ (l : List ℕ) (j : ℕ). sets l j (bytes_of (split (drop (i + 1) zs)))) (sym f) b

  pub words_all_lem : whole ≡ sets s (at + 4 * i) (bytes_of (split (drop i zs))) → length zs ≤ i → s ≡ whole
  unfolding bytes_of split
  words_all_lem e h = sym (e ∙ ap (λ (l : List ℤ). sets s (at + 4 * i) (bytes_of (split l))) (gone zs i h))
    where
      gone : (l : List ℤ) (j : ℕ) → length l ≤ j → drop j l ≡ []
      gone [] zero h = refl
      gone [] (suc j) h = refl
      gone (x ∷ l) zero h = absurd (omega arith)
      gone (x ∷ l) (suc j) h = gone l j (omega arith)

pub words_begin : (s : List ℕ) (at : ℕ) (zs : List ℤ) → sets s at (bytes_of (split zs)) ≡ sets s (at + 4 * 0) (bytes_of (split (drop 0 zs)))
words_begin s at zs = let a : at ≡ at + 4 * 0 = omega arith in ap (λ (j : ℕ). sets s j (bytes_of (split zs))) a
