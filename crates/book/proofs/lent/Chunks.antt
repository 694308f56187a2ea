-- The chunks of the lent bytes are their blocks. Assumes nothing.
use Prim.Native.Nat.{ℕ, zero, suc, ◌+◌, ◌*◌, ◌≤◌, ◌<◌}
use native.Mathlib.Omega.{arith}
use mathlib.Core.Path.{◌≡◌, refl, ap, ap₂, ◌∙◌}
use mathlib.Core.List.{List, ◌∷◌, map}
use lib.ListN.{get_or, take, drop}
use lib.Seq.{drop-drop}
use Rattle.std.specs.Simd.{first_chunks}
use Rattle.std.proofs.lemmas.List.{get_or-take, get_or-drop}
use Rattle.book_rules.specs.Blocks.{Block}
use Rattle.book_rules.specs.Bytes.{word_at, words_from, block_at, blocks_from}
use Rattle.book_words.specs.Halves.{words_of}

-- n words of a part of the bytes.
part_words : (s t : List ℕ) (d i n : ℕ) → ((j : ℕ) → i ≤ j → j < i + 2 * n → get_or t j 0 ≡ get_or s (d + j) 0) → words_from t i n ≡ words_from s (d + i) n
unfolding words_from word_at
part_words s t d i zero h = refl
part_words s t d i (suc n) h =
    let a : d + suc i ≡ suc (d + i) = omega arith in
    let b : d + (2 + i) ≡ 2 + (d + i) = omega arith in
    ap₂ (λ (x : ℕ) (r : List ℕ). x ∷ r)
    (ap₂ (λ (x y : ℕ). x + 256 * y) (h i (omega arith) (omega arith)) (h (suc i) (omega arith) (omega arith) ∙ ap (λ (j : ℕ). get_or s j 0) a))
    (part_words s t d (2 + i) n (λ j p q. h j (omega arith) (omega arith)) ∙ ap (λ (j : ℕ). words_from s j n) b)

pub chunk_is : (s : List ℕ) (k : ℕ) → words_of (take 512 (drop (512 * k) s)) ≡ block_at s k
unfolding block_at
chunk_is s k =
    let a : 512 * k + 0 ≡ 512 * k = omega arith in
    part_words s (take 512 (drop (512 * k) s)) (512 * k) 0 256 (λ j p q. get_or-take 512 (drop (512 * k) s) j 0 (omega arith) ∙ get_or-drop (512 * k) s j 0)
    ∙ ap (λ (j : ℕ). words_from s j 256) a

next : (s : List ℕ) (k : ℕ) → drop 512 (drop (512 * k) s) ≡ drop (512 * suc k) s
next s k = let e : 512 * k + 512 ≡ 512 * suc k = omega arith in drop-drop 512 (512 * k) s ∙ ap (λ (j : ℕ). drop j s) e

chunks_from : (s : List ℕ) (k n m : ℕ) → n ≤ m → map words_of (take n (first_chunks 512 m (drop (512 * k) s))) ≡ blocks_from s k n
unfolding blocks_from
chunks_from s k zero m h = refl
chunks_from s k (suc n) zero h = absurd (omega arith)
chunks_from s k (suc n) (suc m) h =
    ap₂ (λ (x : Block) (r : List Block). x ∷ r) (chunk_is s k)
    (ap (λ (l : List ℕ). map words_of (take n (first_chunks 512 m l))) (next s k) ∙ chunks_from s (suc k) n m (omega arith))

pub chunks_are : (s : List ℕ) (cs : List (List ℕ)) (n m : ℕ) → cs ≡ first_chunks 512 m s → n ≤ m → map words_of (take n cs) ≡ blocks_from s 0 n
chunks_are s cs n m e h = ap (λ (l : List (List ℕ)). map words_of (take n l)) e ∙ chunks_from s 0 n m h

chunk_from : (s : List ℕ) (d : List ℕ) (j k m : ℕ) → k < m → get_or (first_chunks 512 m (drop (512 * j) s)) k d ≡ take 512 (drop (512 * (j + k)) s)
chunk_from s d j k zero h = absurd (omega arith)
chunk_from s d j zero (suc m) h = let e : j ≡ j + 0 = omega arith in ap (λ (i : ℕ). take 512 (drop (512 * i) s)) e
chunk_from s d j (suc k) (suc m) h =
    let e : suc j + k ≡ j + suc k = omega arith in
    ap (λ (l : List ℕ). get_or (first_chunks 512 m l) k d) (next s j) ∙ chunk_from s d (suc j) k m (omega arith) ∙ ap (λ (i : ℕ). take 512 (drop (512 * i) s)) e

pub chunk_at : (s d : List ℕ) (cs : List (List ℕ)) (k m : ℕ) → cs ≡ first_chunks 512 m s → k < m → words_of (get_or cs k d) ≡ block_at s k
chunk_at s d cs k m e h =
    let a : 0 + k ≡ k = omega arith in
    ap (λ (l : List (List ℕ)). words_of (get_or l k d)) e ∙ ap words_of (chunk_from s d 0 k m h ∙ ap (λ (i : ℕ). take 512 (drop (512 * i) s)) a) ∙ chunk_is s k
