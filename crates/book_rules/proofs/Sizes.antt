-- Document 02, No. 7: a block that a call writes has 256 words of 16 bits. So (a) and (b) speak of every block of a book that calls have made.
use Rattle.std.specs.Prelude.{ℕ, zero, suc, ◌+◌, ◌-◌, ◌*◌, ◌/◌, ◌%◌, ◌<◌, ◌≤◌, ◌≡◌, refl, Bool, true, false, List, [], ◌∷◌, ◌++◌, length, replicate, eqb, T, ℤ, pos, negsuc}
use Rattle.std.proofs.Common.{arith, sym, ◌∙◌, eqb→eq, ltb→lt}
use Rattle.rules.specs.Numbers.{in_range}
use Rattle.book_rules.specs.Sums.{word, placed, due}
use Rattle.book_rules.specs.Blocks.{unsigned, split, Entry, counts, laid, sealed, written, emptied, known}
use Rattle.book_rules.specs.Noticed.{Sized}
use Rattle.book_rules.proofs.Round.{holds_true, Ranged, ranged_append, Fit, Dialect, first, second, dialect_is, length_laid, length_sealed}

abbrev Small : List ℕ → Type 0
Small [] = Unit {0}
Small (w ∷ ws) = (w < 65536) × Small ws

small_append : (xs ys : List ℕ) → Small xs → Small ys → Small (xs ++ ys)
small_append [] ys h k = k
small_append (x ∷ xs) ys h k = (h.0, small_append xs ys h.1 k)

small_zeros : (n : ℕ) → Small (replicate n 0)
small_zeros zero = tt
small_zeros (suc n) = (omega arith, small_zeros n)

small_word : (ws : List ℕ) → Small ws → (i : ℕ) → word ws i < 65536
small_word [] h i = omega arith
small_word (w ∷ ws) h zero = h.0
small_word (w ∷ ws) h (suc i) = small_word ws h.1 i

unsigned_small : (z : ℤ) → T (in_range z) → unsigned z < 4294967296
unfolding unsigned in_range
unsigned_small (pos n) h = let l : n < 2147483648 = ltb→lt n 2147483648 h in omega arith
unsigned_small (negsuc n) h = omega arith

high_small : (u : ℕ) → u < 4294967296 → u / 65536 < 65536
high_small u h = omega arith

low_small : (u : ℕ) → u % 65536 < 65536
low_small u = omega arith

small_split : (zs : List ℤ) → Ranged zs → Small (split zs)
unfolding split
small_split [] h = tt
small_split (z ∷ zs) h = (low_small (unsigned z), (high_small (unsigned z) (unsigned_small z h.0), small_split zs h.1))

small_sealed : (ws : List ℕ) → Small ws → Small (sealed ws)
unfolding sealed
small_sealed ws h = small_append ws _ h (low_small (due ws), (carry ws, tt))
  where
    part : (s : ℕ) → s % 65537 / 65536 < 65536
    part s = omega arith

    carry : (ws : List ℕ) → due ws / 65536 < 65536
    carry ws = unfold due in part (placed 1 254 ws)

version_small : (v : ℕ) → known v ≡ true → v < 65536
unfolding known
version_small v h = by (eqb v 1) refl
  where
    is_one : v ≡ 1 → v < 65536
    is_one e = omega arith

    is_two : v ≡ 2 → v < 65536
    is_two e = omega arith

    by : (t : Bool) → eqb v 1 ≡ t → v < 65536
    by true p = is_one (eqb→eq v 1 (holds_true p))
    by false p = let c : known v ≡ eqb v 2 = rw (p, known) in is_two (eqb→eq v 2 (holds_true (sym c ∙ h)))

fourth_small : (n v d : ℕ) → n ≤ 124 → Dialect v d → n + 32768 * (d - 1) < 65536
fourth_small n v d l (first p) = omega arith
fourth_small n v d l (second p q) = omega arith

pub written_sized : (k : ℕ) (e : Entry) → Fit e → k < 65536 → e.badge < 65536 → Sized (written k e)
unfolding written
written_sized k e f hk hb = record {
  long = length_sealed (laid k e) (length_laid k e f);
  small = small_word (sealed (laid k e)) (small_sealed (laid k e) laid_small);
}
  where
    part : (m n : ℕ) → m + n ≤ 124 → m ≤ 124
    part m n h = omega arith

    sum_small : (n : ℕ) → n ≤ 124 → n < 65536
    sum_small n h = omega arith

    laid_small : Small (laid k e)
    laid_small = unfold laid in (
      hk,
      (
        version_small e.version f.version,
        (
          hb,
          (
            sum_small (counts e) f.short,
            (
              fourth_small (length e.matcher) e.version e.dialect (part (length e.matcher) (length e.pattern) (unfold counts in f.short)) (dialect_is e.version e.dialect f.dialect),
              small_append (split (e.matcher ++ e.pattern)) _ (small_split (e.matcher ++ e.pattern) (ranged_append e.matcher e.pattern f.matcher f.pattern))
                  (small_zeros (249 - 2 * counts e)),
            ),
          ),
        ),
      ),
    )

pub emptied_sized : (k v : ℕ) → k < 65536 → known v ≡ true → Sized (emptied k v)
unfolding emptied
emptied_sized k v hk hv = record {
  long = length_sealed (k ∷ v ∷ replicate 252 0) refl;
  small = small_word (sealed (k ∷ v ∷ replicate 252 0)) (small_sealed (k ∷ v ∷ replicate 252 0) (hk, (version_small v hv, small_zeros 252)));
}
