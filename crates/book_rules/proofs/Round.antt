-- Document 02, No. 7, "reading back what was written": a block that an add writes is good, and says what was added.
use Prim.Native.Nat.{ℕ, zero, suc, ◌+◌, ◌-◌, ◌*◌, ◌/◌, ◌%◌, ◌<◌, ◌≤◌}
use native.Mathlib.Omega.{arith}
use Rattle.std.specs.Prelude.{◌≡◌, Bool, ◌≢◌, leb, ltb, T, ℤ, pos, negsuc}
use Rattle.std.proofs.Math.Path.{refl, sym, ap, ap₂}
use Rattle.std.proofs.Common.{◌∙◌, subst, eqb→eq, lt→ltb, ltb→lt, le→leb}
use Rattle.std.proofs.Math.Bool.{true, false}
use mathlib.Core.List.{List, [], ◌∷◌, ◌++◌, append_assoc}
use Rattle.std.proofs.Math.ListN.{length, take, drop, replicate, length-append, length-replicate}
use Rattle.std.proofs.Math.Dec.{eqb, eqb_refl}
use Rattle.rules.specs.Numbers.{in_range}
use Rattle.book_rules.specs.Sums.{word, placed, due, said, checked, and_also}
use Rattle.book_rules.specs.Blocks.{Block, unsigned, signed, split, joined, Entry, counts, laid, sealed, written, emptied, length_in, dialect_in, badge_of, entry_of, unless, or_else, known, zeros, is_rule, live_formed, formed, holds, taken, verdict}
use Rattle.book_rules.specs.Books.{dialect_for}

-- ---- Tests that hold.

pub is_true : (t : Bool) → T t → t ≡ true
is_true true h = refl
is_true false h = absurd h

pub holds_true : {t : Bool} → t ≡ true → T t
holds_true h = subst T (sym h) tt

pub is_false : (t : Bool) → (T t → ⊥) → t ≡ false
is_false true h = absurd (h tt)
is_false false h = refl

pub eqb_self : (n : ℕ) → eqb n n ≡ true
eqb_self n = is_true (eqb n n) (eqb_refl n)

pub eqb_other : (m n : ℕ) → m ≢ n → eqb m n ≡ false
eqb_other m n h = is_false (eqb m n) (λ t. h (eqb→eq m n t))

leb_true : (m n : ℕ) → m ≤ n → leb m n ≡ true
leb_true m n h = is_true (leb m n) (le→leb m n h)

ltb_true : (m n : ℕ) → m < n → ltb m n ≡ true
ltb_true m n h = is_true (ltb m n) (lt→ltb m n h)

ltb_false : (m n : ℕ) → n ≤ m → ltb m n ≡ false
ltb_false m n h = is_false (ltb m n) (λ t. absurd (clash (ltb→lt m n t) h))
  where
    clash : m < n → n ≤ m → ⊥
    clash p q = omega arith

pub and_also_true : {a b : Bool} → a ≡ true → b ≡ true → and_also a b ≡ true
unfolding and_also
and_also_true {b = b} p q = ap (λ (x : Bool). and_also x b) p ∙ q

-- ---- Halves.

abbrev pub Ranged : List ℤ → Type 0
Ranged [] = Unit {0}
Ranged (z ∷ zs) = T (in_range z) × Ranged zs

pub ranged_append : (xs ys : List ℤ) → Ranged xs → Ranged ys → Ranged (xs ++ ys)
ranged_append [] ys h k = k
ranged_append (x ∷ xs) ys h k = (h.0, ranged_append xs ys h.1 k)

signed_low : (u : ℕ) → u < 2147483648 → signed u ≡ pos u
unfolding signed
signed_low u h = rw (ltb_true u 2147483648 h, signed)

signed_high : (u : ℕ) → 2147483648 ≤ u → signed u ≡ negsuc (4294967295 - u)
unfolding signed
signed_high u h = rw (ltb_false u 2147483648 h, signed)

back : (n : ℕ) → n < 2147483648 → 4294967295 - (4294967295 - n) ≡ n
back n h = omega arith

signed_unsigned : (z : ℤ) → T (in_range z) → signed (unsigned z) ≡ z
unfolding unsigned in_range
signed_unsigned (pos n) h = signed_low n (ltb→lt n 2147483648 h)
signed_unsigned (negsuc n) h =
    let l : n < 2147483648 = ltb→lt n 2147483648 h in
    signed_high (4294967295 - n) (omega arith) ∙ ap negsuc (back n l)

halves : (u : ℕ) → u % 65536 + 65536 * (u / 65536) ≡ u
halves u = omega arith

joined_split : (zs : List ℤ) (rest : List ℕ) → Ranged zs → joined (length zs) (split zs ++ rest) ≡ zs
unfolding joined split
joined_split [] rest h = refl
joined_split (z ∷ zs) rest h = ap₂ {C = List ℤ} (λ (x : ℤ) (r : List ℤ). x ∷ r) (ap signed (halves (unsigned z)) ∙ signed_unsigned z h.0) (joined_split zs rest h.1)

pub length_split : (zs : List ℤ) → length (split zs) ≡ 2 * length zs
unfolding split
length_split [] = refl
length_split (z ∷ zs) = let h = length_split zs in omega arith

-- ---- Lists.

module _ {A : Type 0} where
  take_first : (xs ys : List A) → take (length xs) (xs ++ ys) ≡ xs
  take_first [] ys = refl
  take_first (x ∷ xs) ys = ap {B = List A} (λ r. x ∷ r) (take_first xs ys)

  drop_first : (xs ys : List A) → drop (length xs) (xs ++ ys) ≡ ys
  drop_first [] ys = refl
  drop_first (x ∷ xs) ys = drop_first xs ys

zeros_replicate : (n : ℕ) (rest : List ℕ) → zeros n (replicate n 0 ++ rest) ≡ true
unfolding zeros and_also
zeros_replicate zero rest = refl
zeros_replicate (suc n) rest = zeros_replicate n rest

-- ---- The check that is written holds.

placed_append : (p n : ℕ) (ws rest : List ℕ) → n ≤ length ws → placed p n (ws ++ rest) ≡ placed p n ws
unfolding placed
placed_append p zero ws rest h = refl
placed_append p (suc n) [] rest h = absurd (omega arith)
placed_append p (suc n) (w ∷ ws) rest h = ap (λ (x : ℕ). p * w + x) (placed_append (suc p) n ws rest (omega arith))

word_append : (ws rest : List ℕ) (n i : ℕ) → length ws ≡ n → word (ws ++ rest) (n + i) ≡ word rest i
word_append ws rest n i h = rw (← h) (past ws)
  where
    past : (ws : List ℕ) → word (ws ++ rest) (length ws + i) ≡ word rest i
    past [] = ap (λ (x : ℕ). word rest x) (from_zero i)
      where
        from_zero : (i : ℕ) → 0 + i ≡ i
        from_zero i = omega arith
    past (w ∷ ws) = ap (λ (x : ℕ). word (w ∷ (ws ++ rest)) x) (from_suc (length ws) i) ∙ past ws
      where
        from_suc : (n i : ℕ) → suc n + i ≡ suc (n + i)
        from_suc n i = omega arith

pub sealed_checked : (ws : List ℕ) → length ws ≡ 254 → checked (sealed ws) ≡ true
unfolding checked sealed due said
sealed_checked ws h =
    let tail = due ws % 65536 ∷ due ws / 65536 ∷ [] in
    let d : due (sealed ws) ≡ due ws = ap (λ (x : ℕ). x % 65537) (placed_append 1 254 ws tail (omega arith)) in
    let l : word (sealed ws) 254 ≡ due ws % 65536 = word_append ws tail 254 0 h in
    let g : word (sealed ws) 255 ≡ due ws / 65536 = word_append ws tail 254 1 h in
    let s : said (sealed ws) ≡ due ws = ap₂ (λ (x y : ℕ). x + 65536 * y) l g ∙ halves (due ws) in
    ap₂ eqb d s ∙ eqb_self (due ws)

pub length_sealed : (ws : List ℕ) → length ws ≡ 254 → length (sealed ws) ≡ 256
unfolding sealed
length_sealed ws h = length-append ws (due ws % 65536 ∷ due ws / 65536 ∷ []) ∙ ap (λ (x : ℕ). x + 2) h

-- ---- What an add may write.

pub record Fit (e : Entry) : Type 0 where
  pub version : known e.version ≡ true
  pub badge : e.badge ≢ 0
  pub dialect : dialect_for e.version e.dialect ≡ true
  pub rule : is_rule e.dialect e.matcher e.pattern ≡ true
  pub short : counts e ≤ 124
  pub matcher : Ranged e.matcher
  pub pattern : Ranged e.pattern

pub data Dialect (v d : ℕ) : Type 0 where
  first : d ≡ 1 → Dialect v d
  second : d ≡ 2 → v ≡ 2 → Dialect v d

pub dialect_is : (v d : ℕ) → dialect_for v d ≡ true → Dialect v d
unfolding dialect_for
dialect_is v d h = by (eqb d 1) (eqb d 2) refl refl
  where
    by : (s t : Bool) → eqb d 1 ≡ s → eqb d 2 ≡ t → Dialect v d
    by true t p q = first (eqb→eq d 1 (holds_true p))
    by false true p q = second (eqb→eq d 2 (holds_true q)) (let c : dialect_for v d ≡ eqb v 2 = rw (p, q, dialect_for) in eqb→eq v 2 (holds_true (sym c ∙ h)))
    by false false p q = let c : dialect_for v d ≡ false = rw (p, q, dialect_for) in absurd (subst T (sym h ∙ c) tt)

-- Word 4 gives both back.
module _ (n : ℕ) (small : n ≤ 124) where
  length_back : (v d : ℕ) → Dialect v d → length_in v (n + 32768 * (d - 1)) ≡ n
  unfolding length_in
  length_back v d (first p) = rw p (by (eqb v 2) refl)
    where
      by : (t : Bool) → eqb v 2 ≡ t → length_in v (n + 0) ≡ n
      by true q = rw (q, length_in) (omega arith)
      by false q = rw (q, length_in) (omega arith)
  length_back v d (second p q) = rw (p, q) (omega arith)

  dialect_back : (v d : ℕ) → Dialect v d → dialect_in v (n + 32768 * (d - 1)) ≡ d
  unfolding dialect_in
  dialect_back v d (first p) = rw p (by (eqb v 2) refl)
    where
      by : (t : Bool) → eqb v 2 ≡ t → dialect_in v (n + 0) ≡ 1
      by true q = rw (q, dialect_in) (omega arith)
      by false q = rw (q, dialect_in) (omega arith)
  dialect_back v d (second p q) = rw (p, q) (omega arith)

drop_five : (m : ℕ) (a b c d e : ℕ) (ws : List ℕ) → drop (5 + m) (a ∷ b ∷ c ∷ d ∷ e ∷ ws) ≡ drop m ws
drop_five m a b c d e ws = ap (λ (x : ℕ). drop x (a ∷ b ∷ c ∷ d ∷ e ∷ ws)) (five m)
  where
    five : (m : ℕ) → 5 + m ≡ suc (suc (suc (suc (suc m))))
    five m = omega arith

entry_is : {v b d d' : ℕ} {ms ms' ps ps' : List ℤ} → d ≡ d' → ms ≡ ms' → ps ≡ ps'
    → ◌≡◌ {A = Entry} (record { version = v; badge = b; dialect = d; matcher = ms; pattern = ps }) (record { version = v; badge = b; dialect = d'; matcher = ms'; pattern = ps' })
entry_is {v} {b} p q r = λ i. record { version = v; badge = b; dialect = p i; matcher = q i; pattern = r i }

formed_by : (b : Block) → eqb (badge_of b) 0 ≡ false → leb (word b 3) 124 ≡ true → leb (length_in (word b 1) (word b 4)) (word b 3) ≡ true
    → zeros (249 - 2 * word b 3) (drop (5 + 2 * word b 3) b) ≡ true → is_rule (entry_of b).dialect (entry_of b).matcher (entry_of b).pattern ≡ true → formed b ≡ true
unfolding formed live_formed
formed_by b p q r s t = ap (λ (x : Bool). elim x as (λ _. Bool) [ true ↦ zeros 251 (drop 3 b) | false ↦ live_formed b ]) p ∙ and_also_true q (and_also_true r (and_also_true s t))

good_by : (k : ℕ) (earlier : List Block) (b : Block) → checked b ≡ true → word b 0 ≡ k → known (word b 1) ≡ true → formed b ≡ true
    → taken (badge_of b) earlier ≡ false → verdict k earlier b ≡ 0
unfolding verdict or_else unless and_also
good_by k earlier b c n v f t = rw (c, n, eqb_self k, v, f, t)

-- Badge 0 is never live.
pub none_taken : (bs : List Block) → taken 0 bs ≡ false
unfolding taken holds and_also
none_taken [] = refl
none_taken (b ∷ bs) = none_taken bs

module _ (k : ℕ) (e : Entry) (f : Fit e) where
  all_words : List ℤ
  all_words = e.matcher ++ e.pattern

  counts_is : length all_words ≡ counts e
  unfolding counts all_words
  counts_is = length-append e.matcher e.pattern

  blank : List ℕ
  blank = replicate (249 - 2 * counts e) 0

  pub length_laid : length (laid k e) ≡ 254
  unfolding laid all_words blank
  length_laid =
      let a = length-append (split all_words) blank in
      let b = length_split all_words in
      let c = length-replicate {A = ℕ} (249 - 2 * counts e) 0 in
      total_of (length (split all_words ++ blank)) (length (split all_words)) (length blank) (length all_words) (counts e) a b c counts_is f.short
    where
      total_of : (t s r n m : ℕ) → t ≡ s + r → s ≡ 2 * n → r ≡ 249 - 2 * m → n ≡ m → m ≤ 124 → suc (suc (suc (suc (suc t)))) ≡ 254
      total_of t s r n m a b c d h = omega arith

  abbrev ending : List ℕ
  ending = due (laid k e) % 65536 ∷ due (laid k e) / 65536 ∷ []

  small : length e.matcher ≤ 124
  unfolding counts
  small = let s : length e.matcher + length e.pattern ≤ 124 = f.short in omega arith

  words_back : joined (word (written k e) 3) (drop 5 (written k e)) ≡ all_words
  unfolding written sealed laid all_words blank
  words_back =
      ap (λ (x : List ℕ). joined (counts e) x) (append_assoc (split all_words) blank ending)
      ∙ ap (λ (x : ℕ). joined x (split all_words ++ (blank ++ ending))) (sym counts_is)
      ∙ joined_split all_words (blank ++ ending) (ranged_append e.matcher e.pattern f.matcher f.pattern)

  length_is : length_in (word (written k e) 1) (word (written k e) 4) ≡ length e.matcher
  unfolding written sealed laid
  length_is = length_back (length e.matcher) small e.version e.dialect (dialect_is e.version e.dialect f.dialect)

  -- THE LAW: what is read from the block is what was added.
  pub entry_back : entry_of (written k e) ≡ e
  unfolding entry_of written sealed laid all_words
  entry_back = entry_is
      (dialect_back (length e.matcher) small e.version e.dialect (dialect_is e.version e.dialect f.dialect))
      (ap₂ {C = List ℤ} (λ (n : ℕ) (x : List ℤ). take n x) length_is words_back ∙ take_first e.matcher e.pattern)
      (ap₂ {C = List ℤ} (λ (n : ℕ) (x : List ℤ). drop n x) length_is words_back ∙ drop_first e.matcher e.pattern)

  unused : zeros (249 - 2 * counts e) (drop (5 + 2 * counts e) (written k e)) ≡ true
  unfolding written sealed laid all_words blank
  unused =
      ap (λ (x : List ℕ). zeros (249 - 2 * counts e) x) (
      drop_five (2 * counts e) k e.version e.badge (counts e) (length e.matcher + 32768 * (e.dialect - 1)) ((split all_words ++ blank) ++ ending)
      ∙ ap₂ {C = List ℕ} (λ (n : ℕ) (x : List ℕ). drop n x) (ap (λ (x : ℕ). 2 * x) (sym counts_is) ∙ sym (length_split all_words)) (append_assoc (split all_words) blank ending)
      ∙ drop_first (split all_words) (blank ++ ending))
      ∙ zeros_replicate (249 - 2 * counts e) ending

  written_number : word (written k e) 0 ≡ k
  unfolding written sealed laid
  written_number = refl

  written_version : word (written k e) 1 ≡ e.version
  unfolding written sealed laid
  written_version = refl

  pub written_badge : badge_of (written k e) ≡ e.badge
  unfolding written sealed laid
  written_badge = refl

  written_count : word (written k e) 3 ≡ counts e
  unfolding written sealed laid
  written_count = refl

  within : length e.matcher ≤ counts e
  unfolding counts
  within = omega arith

  formed_written : formed (written k e) ≡ true
  formed_written = formed_by (written k e)
      (ap (λ (x : ℕ). eqb x 0) written_badge ∙ eqb_other e.badge 0 f.badge)
      (ap (λ (x : ℕ). leb x 124) written_count ∙ leb_true (counts e) 124 f.short)
      (ap₂ leb length_is written_count ∙ leb_true (length e.matcher) (counts e) within)
      (ap (λ (x : ℕ). zeros (249 - 2 * x) (drop (5 + 2 * x) (written k e))) written_count ∙ unused)
      (ap (λ (x : Entry). is_rule x.dialect x.matcher x.pattern) entry_back ∙ f.rule)

  pub written_good : (earlier : List Block) → taken e.badge earlier ≡ false → verdict k earlier (written k e) ≡ 0
  written_good earlier h = good_by k earlier (written k e)
      (unfold written in sealed_checked (laid k e) length_laid)
      written_number
      (ap known written_version ∙ f.version)
      formed_written
      (ap (λ (x : ℕ). taken x earlier) written_badge ∙ h)

-- ---- A withdrawn block is good.

module _ (k v : ℕ) where
  emptied_formed : formed (emptied k v) ≡ true
  unfolding formed emptied sealed
  emptied_formed = refl

  emptied_checked : checked (emptied k v) ≡ true
  unfolding emptied
  emptied_checked = sealed_checked (k ∷ v ∷ replicate 252 0) refl

  emptied_number : word (emptied k v) 0 ≡ k
  unfolding emptied sealed
  emptied_number = refl

  emptied_version : word (emptied k v) 1 ≡ v
  unfolding emptied sealed
  emptied_version = refl

  pub emptied_badge : badge_of (emptied k v) ≡ 0
  unfolding emptied sealed
  emptied_badge = refl

  pub emptied_good : (earlier : List Block) → known v ≡ true → verdict k earlier (emptied k v) ≡ 0
  emptied_good earlier h = good_by k earlier (emptied k v) emptied_checked emptied_number (ap known emptied_version ∙ h) emptied_formed
      (ap (λ (x : ℕ). taken x earlier) emptied_badge ∙ none_taken earlier)
