-- The view of bytes as blocks and back: what is written is seen, and what is seen writes itself.
use Prim.Native.Nat.{ℕ, zero, suc, ◌+◌, ◌*◌, ◌/◌, ◌%◌, ◌<◌, ◌≤◌}
use native.Mathlib.Omega.{arith}
use Rattle.std.proofs.Math.Decide.{dec_lt, ℕ_discrete}
use Rattle.std.specs.Prelude.{◌≡◌, ◌≢◌, length, drop, set}
use Rattle.std.proofs.Math.Path.{refl, ap₂}
use Rattle.std.proofs.Common.{sym, ap, ◌∙◌, length-set, length-append, get_or-set_same, get_or-set_other, drop-cons, drop-set-lt}
use mathlib.Core.List.{List, [], ◌∷◌, ◌++◌, append_assoc}
use Rattle.std.proofs.Math.ListN.{get_or}
use Rattle.std.proofs.lemmas.List.Edits.{sets}
use Rattle.std.proofs.Math.Seq.{length-sets, set_out}
use Rattle.book_rules.specs.Sums.{word}
use Rattle.book_rules.specs.Blocks.{Block}
use Rattle.book_rules.specs.Books.{Book}
use Rattle.book_rules.specs.Noticed.{Sized}
use Rattle.book_rules.specs.Bytes.{word_at, words_from, block_at, blocks_from, book_of, bytes_of, bytes_of_all, holding}

-- Each element is a byte.
abbrev pub Bytes : List ℕ → Type 0
Bytes s = (i : ℕ) → get_or s i 0 < 256

-- ---- Words and bytes.

pub length_words : (s : List ℕ) (i n : ℕ) → length (words_from s i n) ≡ n
unfolding words_from
length_words s i zero = refl
length_words s i (suc n) = ap suc (length_words s (2 + i) n)

pub length_block : (s : List ℕ) (k : ℕ) → length (block_at s k) ≡ 256
unfolding block_at
length_block s k = length_words s (512 * k) 256

pub length_bytes : (ws : List ℕ) → length (bytes_of ws) ≡ 2 * length ws
unfolding bytes_of
length_bytes [] = refl
length_bytes (w ∷ ws) = let h = length_bytes ws in omega arith

pub length_blocks : (s : List ℕ) (k n : ℕ) → length (blocks_from s k n) ≡ n
unfolding blocks_from
length_blocks s k zero = refl
length_blocks s k (suc n) = ap suc (length_blocks s (suc k) n)

-- Word j of those from byte i on; block j of those from block k on.
pub word_of : (s : List ℕ) (i n j : ℕ) → j < n → get_or (words_from s i n) j 0 ≡ word_at s (i + 2 * j)
unfolding words_from
word_of s i zero j h = absurd (omega arith)
word_of s i (suc n) zero h = ap (λ (x : ℕ). word_at s x) (here i)
  where
    here : (i : ℕ) → i ≡ i + 2 * 0
    here i = omega arith
word_of s i (suc n) (suc j) h = word_of s (2 + i) n j (omega arith) ∙ ap (λ (x : ℕ). word_at s x) (there i j)
  where
    there : (i j : ℕ) → 2 + i + 2 * j ≡ i + 2 * suc j
    there i j = omega arith

pub block_of : (s : List ℕ) (k n j : ℕ) → j < n → get_or (blocks_from s k n) j [] ≡ block_at s (k + j)
unfolding blocks_from
block_of s k zero j h = absurd (omega arith)
block_of s k (suc n) zero h = ap (λ (x : ℕ). block_at s x) (here k)
  where
    here : (k : ℕ) → k ≡ k + 0
    here k = omega arith
block_of s k (suc n) (suc j) h = block_of s (suc k) n j (omega arith) ∙ ap (λ (x : ℕ). block_at s x) (there k j)
  where
    there : (k j : ℕ) → suc k + j ≡ k + suc j
    there k j = omega arith

pub word_small : (s : List ℕ) → Bytes s → (i : ℕ) → word_at s i < 65536
unfolding word_at
word_small s b i = omega (arith, b i, b (suc i))

pub block_sized : (s : List ℕ) → Bytes s → (k : ℕ) → Sized (block_at s k)
unfolding block_at
block_sized s b k = record { long = length_words s (512 * k) 256; small = λ i. small (512 * k) 256 i }
  where
    small : (at n i : ℕ) → word (words_from s at n) i < 65536
    small at zero i = unfold words_from in omega arith
    small at (suc n) zero = unfold words_from in word_small s b at
    small at (suc n) (suc i) = unfold words_from in small (2 + at) n i

-- ---- What is written is seen.

module _ {A : Type 0} (d : A) where
  before_sets : (vs l : List A) (i j : ℕ) → j < i → get_or (sets l i vs) j d ≡ get_or l j d
  before_sets [] l i j h = refl
  before_sets (v ∷ vs) l i j h = before_sets vs (set l i v) (suc i) j (omega arith) ∙ get_or-set_other l i j v d (omega arith)

  behind_sets : (vs l : List A) (i j : ℕ) → i + length vs ≤ j → get_or (sets l i vs) j d ≡ get_or l j d
  behind_sets [] l i j h = refl
  behind_sets (v ∷ vs) l i j h = behind_sets vs (set l i v) (suc i) j (omega arith) ∙ get_or-set_other l i j v d (omega arith)

  pub within_sets : (vs l : List A) (i j : ℕ) → i + length vs ≤ length l → j < length vs → get_or (sets l i vs) (i + j) d ≡ get_or vs j d
  within_sets [] l i j h k = absurd (omega arith)
  within_sets (v ∷ vs) l i zero h k =
      ap (λ (x : ℕ). get_or (sets (set l i v) (suc i) vs) x d) (here i)
      ∙ before_sets vs (set l i v) (suc i) i (omega arith) ∙ get_or-set_same l i v d (omega arith)
    where
      here : (i : ℕ) → i + 0 ≡ i
      here i = omega arith
  within_sets (v ∷ vs) l i (suc j) h k =
      let n = length-set l i v in
      ap (λ (x : ℕ). get_or (sets (set l i v) (suc i) vs) x d) (there i j)
      ∙ within_sets vs (set l i v) (suc i) j (omega arith) (omega arith)
    where
      there : (i j : ℕ) → i + suc j ≡ suc i + j
      there i j = omega arith

words_agree : (s t : List ℕ) (i n : ℕ) → ((j : ℕ) → i ≤ j → j < i + 2 * n → get_or s j 0 ≡ get_or t j 0) → words_from s i n ≡ words_from t i n
unfolding words_from word_at
words_agree s t i zero h = refl
words_agree s t i (suc n) h = ap₂ {C = List ℕ} (λ (x : ℕ) (r : List ℕ). x ∷ r)
    (ap₂ (λ (x y : ℕ). x + 256 * y) (h i (omega arith) (omega arith)) (h (suc i) (omega arith) (omega arith)))
    (words_agree s t (2 + i) n (λ j p q. h j (omega arith) (omega arith)))

pub words_back : (ws s : List ℕ) (i n : ℕ) → length ws ≡ n → ((j : ℕ) → j < 2 * n → get_or s (i + j) 0 ≡ get_or (bytes_of ws) j 0) → words_from s i n ≡ ws
unfolding words_from word_at bytes_of
words_back [] s i zero e h = refl
words_back [] s i (suc n) e h = absurd (omega arith)
words_back (w ∷ ws) s i zero e h = absurd (omega arith)
words_back (w ∷ ws) s i (suc n) e h = ap₂ {C = List ℕ} (λ (x : ℕ) (r : List ℕ). x ∷ r)
    (ap₂ (λ (x y : ℕ). x + 256 * y) (ap (λ (x : ℕ). get_or s x 0) (first i) ∙ h 0 (omega arith)) (ap (λ (x : ℕ). get_or s x 0) (second i) ∙ h 1 (omega arith)) ∙ halves w)
    (words_back ws s (2 + i) n (omega arith) (λ j p. ap (λ (x : ℕ). get_or s x 0) (there i j) ∙ h (2 + j) (omega arith) ∙ ap (λ (x : ℕ). get_or (w % 256 ∷ w / 256 ∷ bytes_of ws) x 0) (two j)))
  where
    first : (i : ℕ) → i ≡ i + 0
    first i = omega arith

    second : (i : ℕ) → suc i ≡ i + 1
    second i = omega arith

    there : (i j : ℕ) → 2 + i + j ≡ i + (2 + j)
    there i j = omega arith

    two : (j : ℕ) → 2 + j ≡ suc (suc j)
    two j = omega arith

    halves : (w : ℕ) → w % 256 + 256 * (w / 256) ≡ w
    halves w = omega arith

module _ (s : List ℕ) (i : ℕ) (b : Block) (l : length b ≡ 256) (h : 512 * i + 512 ≤ length s) where
  -- The lent bytes with block i written.
  abbrev t : List ℕ
  t = sets s (512 * i) (bytes_of b)

  long : length (bytes_of b) ≡ 512
  long = let n = length_bytes b in omega arith

  own : block_at t i ≡ b
  unfolding block_at
  own = words_back b t (512 * i) 256 l (λ j p. within_sets 0 (bytes_of b) s (512 * i) j (omega (arith, long)) (omega (arith, long)))

  other : (k : ℕ) → k ≢ i → block_at t k ≡ block_at s k
  unfolding block_at
  other k ne = words_agree t s (512 * k) 256 (λ j p q. elsewhere j p q (dec_lt k i))
    where
      elsewhere : (j : ℕ) → 512 * k ≤ j → j < 512 * k + 2 * 256 → Dec (k < i) → get_or t j 0 ≡ get_or s j 0
      elsewhere j p q (yes r) = before_sets 0 (bytes_of b) s (512 * i) j (omega arith)
      elsewhere j p q (no r) = behind_sets 0 (bytes_of b) s (512 * i) j (omega (arith, long, ne))

  same_above : (k n : ℕ) → i < k → blocks_from t k n ≡ blocks_from s k n
  unfolding blocks_from
  same_above k zero q = refl
  same_above k (suc n) q = ap₂ {C = List Block} (λ (x : Block) (r : List Block). x ∷ r) (other k (omega arith)) (same_above (suc k) n (omega arith))

  blocks_set : (k n m : ℕ) → i ≡ k + m → blocks_from t k n ≡ set (blocks_from s k n) m b
  unfolding blocks_from
  blocks_set k zero m e = refl
  blocks_set k (suc n) zero e = ap₂ {C = List Block} (λ (x : Block) (r : List Block). x ∷ r) (ap (λ (x : ℕ). block_at t x) (sym (here k e)) ∙ own) (same_above (suc k) n (omega arith))
    where
      here : (k : ℕ) → i ≡ k + 0 → i ≡ k
      here k e = omega arith
  blocks_set k (suc n) (suc m) e = ap₂ {C = List Block} (λ (x : Block) (r : List Block). x ∷ r) (other k (omega arith)) (blocks_set (suc k) n m (omega arith))

  pub seen : (n : ℕ) → blocks_from t 0 n ≡ set (blocks_from s 0 n) i b
  seen n = blocks_set 0 n i (omega arith)

-- ---- What is seen writes itself.

two_bytes : (s : List ℕ) (i : ℕ) → i + 2 ≤ length s → drop i s ≡ get_or s i 0 ∷ get_or s (suc i) 0 ∷ drop (2 + i) s
two_bytes s i h = drop-cons s i 0 (omega arith) ∙ ap (λ (r : List ℕ). get_or s i 0 ∷ r) (drop-cons s (suc i) 0 (omega arith)) ∙ ap (λ (x : ℕ). get_or s i 0 ∷ get_or s (suc i) 0 ∷ drop x s) (two i)
  where
    two : (i : ℕ) → suc (suc i) ≡ 2 + i
    two i = omega arith

bytes_of_words : (s : List ℕ) → Bytes s → (i n : ℕ) → i + 2 * n ≤ length s → bytes_of (words_from s i n) ++ drop (i + 2 * n) s ≡ drop i s
unfolding bytes_of words_from word_at
bytes_of_words s b i zero h = ap (λ (x : ℕ). drop x s) (here i)
  where
    here : (i : ℕ) → i + 2 * 0 ≡ i
    here i = omega arith
bytes_of_words s b i (suc n) h =
    ap₂ {C = List ℕ} (λ (x : ℕ) (r : List ℕ). x ∷ r) (low (get_or s i 0) (get_or s (suc i) 0) (b i))
    (ap₂ {C = List ℕ} (λ (x : ℕ) (r : List ℕ). x ∷ r) (high (get_or s i 0) (get_or s (suc i) 0) (b i))
    (ap (λ (x : ℕ). bytes_of (words_from s (2 + i) n) ++ drop x s) (there i n) ∙ bytes_of_words s b (2 + i) n (omega arith)))
    ∙ sym (two_bytes s i (omega arith))
  where
    low : (x y : ℕ) → x < 256 → (x + 256 * y) % 256 ≡ x
    low x y h = omega arith

    high : (x y : ℕ) → x < 256 → (x + 256 * y) / 256 ≡ y
    high x y h = omega arith

    there : (i n : ℕ) → i + 2 * suc n ≡ 2 + i + 2 * n
    there i n = omega arith

bytes_of_blocks : (s : List ℕ) → Bytes s → (k n : ℕ) → 512 * (k + n) ≤ length s → bytes_of_all (blocks_from s k n) ++ drop (512 * (k + n)) s ≡ drop (512 * k) s
unfolding bytes_of_all blocks_from block_at
bytes_of_blocks s b k zero h = ap (λ (x : ℕ). drop x s) (here k)
  where
    here : (k : ℕ) → 512 * (k + 0) ≡ 512 * k
    here k = omega arith
bytes_of_blocks s b k (suc n) h =
    append_assoc (bytes_of (block_at s k)) (bytes_of_all (blocks_from s (suc k) n)) (drop (512 * (k + suc n)) s)
    ∙ ap (λ (r : List ℕ). bytes_of (block_at s k) ++ r) (ap (λ (x : ℕ). bytes_of_all (blocks_from s (suc k) n) ++ drop x s) (there k n) ∙ bytes_of_blocks s b (suc k) n (omega arith) ∙ ap (λ (x : ℕ). drop x s) (next k))
    ∙ bytes_of_words s b (512 * k) 256 (omega arith)
  where
    there : (k n : ℕ) → 512 * (k + suc n) ≡ 512 * (suc k + n)
    there k n = omega arith

    next : (k : ℕ) → 512 * suc k ≡ 512 * k + 2 * 256
    next k = omega arith

length_all : (s : List ℕ) (k n : ℕ) → length (bytes_of_all (blocks_from s k n)) ≡ 512 * n
unfolding bytes_of_all blocks_from
length_all s k zero = refl
length_all s k (suc n) =
    let a = length-append (bytes_of (block_at s k)) (bytes_of_all (blocks_from s (suc k) n)) in
    let c = length_bytes (block_at s k) in
    let d = length_block s k in
    let e = length_all s (suc k) n in
    omega arith

-- Lent bytes hold their own blocks.
pub holds_own : (s : List ℕ) → Bytes s → (n : ℕ) → 512 * n ≤ length s → holding s (blocks_from s 0 n) ≡ s
unfolding holding
holds_own s b n h = ap (λ (x : ℕ). bytes_of_all (blocks_from s 0 n) ++ drop x s) (length_all s 0 n ∙ from n) ∙ bytes_of_blocks s b 0 n (omega arith)
  where
    from : (n : ℕ) → 512 * n ≡ 512 * (0 + n)
    from n = omega arith

-- Bytes that agree from the end of n blocks on.
pub holding_moved : (s t : List ℕ) → Bytes t → (n : ℕ) → 512 * n ≤ length t → drop (512 * n) s ≡ drop (512 * n) t → holding s (blocks_from t 0 n) ≡ t
unfolding holding
holding_moved s t b n h e =
    ap (λ (x : ℕ). bytes_of_all (blocks_from t 0 n) ++ drop x s) (length_all t 0 n)
    ∙ ap (λ (r : List ℕ). bytes_of_all (blocks_from t 0 n) ++ r) (e ∙ ap (λ (x : ℕ). drop x t) (sym (length_all t 0 n)))
    ∙ holds_own t b n h

-- ---- One block is written.

bytes_append : (l : List ℕ) (i : ℕ) (vs : List ℕ) → Bytes l → Bytes vs → Bytes (sets l i vs)
bytes_append l i [] h k = h
bytes_append l i (v ∷ vs) h k = bytes_append (set l i v) (suc i) vs (λ j. stored j) (λ j. k (suc j))
  where
    stored : Bytes (set l i v)
    stored j = by (ℕ_discrete j i)
      where
        by : Dec (j ≡ i) → get_or (set l i v) j 0 < 256
        by (no p) = rw (get_or-set_other l i j v 0 p) (h j)
        by (yes p) = rw p (at (dec_lt i (length l)))
          where
            at : Dec (i < length l) → get_or (set l i v) i 0 < 256
            at (yes q) = rw (get_or-set_same l i v 0 q) (k 0)
            at (no q) = rw (set_out l i v (omega arith)) (h i)

bytes_of_lem : (ws : List ℕ) → ((i : ℕ) → word ws i < 65536) → Bytes (bytes_of ws)
unfolding bytes_of
bytes_of_lem [] h i = omega arith
bytes_of_lem (w ∷ ws) h zero = low w
  where
    low : (w : ℕ) → w % 256 < 256
    low w = omega arith
bytes_of_lem (w ∷ ws) h (suc zero) = high w (h 0)
  where
    high : (w : ℕ) → w < 65536 → w / 256 < 256
    high w h = omega arith
bytes_of_lem (w ∷ ws) h (suc (suc i)) = bytes_of_lem ws (λ j. h (suc j)) i

drop_sets : (vs l : List ℕ) (i n : ℕ) → i + length vs ≤ n → drop n (sets l i vs) ≡ drop n l
drop_sets [] l i n h = refl
drop_sets (v ∷ vs) l i n h = drop_sets vs (set l i v) (suc i) n (omega arith) ∙ drop-set-lt n l i v (omega arith)

-- THE LAW: lent bytes that hold their blocks with block i changed are the bytes with that block's 512 written.
pub holds_one : (s : List ℕ) → Bytes s → (i : ℕ) (b : Block) → Sized b → (n : ℕ) → 512 * n ≤ length s → i < n
    → holding s (set (blocks_from s 0 n) i b) ≡ sets s (512 * i) (bytes_of b)
holds_one s h i b z n l k =
    let m = length_bytes b in
    let o = z.long in
    let e = length-sets s (512 * i) (bytes_of b) in
    ap (λ (x : List Block). holding s x) (sym (seen s i b z.long (omega arith) n))
    ∙ holding_moved s (sets s (512 * i) (bytes_of b)) (bytes_append s (512 * i) (bytes_of b) h (bytes_of_lem b z.small)) n (omega arith)
    (sym (drop_sets (bytes_of b) s (512 * i) (512 * n) (omega arith)))

-- So the book that those bytes are is the book with that block.
pub view_one : (s : List ℕ) (i : ℕ) (b : Block) (used : ℕ) → length b ≡ 256 → i < length s / 512
    → book_of (sets s (512 * i) (bytes_of b)) used ≡ record { lent = set (book_of s used).lent i b; used = used }
unfolding book_of
view_one s i b used z k =
    ap (λ (n : ℕ). telling (blocks_from (sets s (512 * i) (bytes_of b)) 0 (n / 512))) (length-sets s (512 * i) (bytes_of b))
    ∙ ap telling (seen s i b z (omega arith) (length s / 512))
  where
    telling : List Block → Book
    telling bs = record { lent = bs; used = used }
