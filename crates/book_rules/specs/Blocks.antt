-- Document 02, No. 7: a rule in a block, a withdrawn block, and the four refusals that a block can earn. A block is a list of 256 words.
use Rattle.std.specs.Prelude.{ℕ, zero, suc, ◌+◌, ◌-◌, ◌*◌, ◌/◌, ◌%◌, Bool, true, false, not, List, [], ◌∷◌, ◌++◌, length, take, drop, replicate, eqb, leb, ltb, ℤ, pos, negsuc}
use Rattle.std.proofs.Math.Option.{none, some}
use Rattle.rules.specs.Dialects.{dialect_of}
use Rattle.rules.specs.Services.{Judged, accepted, refused, Rule, rule_in}
use Rattle.book_rules.specs.Sums.{word, due, checked, and_also}

abbrev pub Block : Type 0
Block = List ℕ

-- ---- "The signed words, two halves each, low half first."

unfoldable pub unsigned : ℤ → ℕ
unsigned (pos n) = n
unsigned (negsuc n) = 4294967295 - n

unfoldable pub signed : ℕ → ℤ
signed u = elim (ltb u 2147483648) [ true ↦ pos u | false ↦ negsuc (4294967295 - u) ]

unfoldable pub split : List ℤ → List ℕ
unfolding unsigned
split [] = []
split (z ∷ zs) = unsigned z % 65536 ∷ unsigned z / 65536 ∷ split zs

unfoldable pub joined : ℕ → List ℕ → List ℤ
unfolding signed
joined zero ws = []
joined (suc n) [] = []
joined (suc n) (l ∷ []) = []
joined (suc n) (l ∷ h ∷ ws) = signed (l + 65536 * h) ∷ joined n ws

-- ---- A rule with what an add names, and its block.

pub record Entry : Type 0 where
  pub version : ℕ
  pub badge : ℕ
  pub dialect : ℕ
  pub matcher : List ℤ
  pub pattern : List ℤ

unfoldable pub counts : Entry → ℕ
counts e = length e.matcher + length e.pattern

-- The first 254 words; with the check behind them.
unfoldable pub laid : ℕ → Entry → List ℕ
unfolding split counts
laid k e = k ∷ e.version ∷ e.badge ∷ counts e ∷ (length e.matcher + 32768 * (e.dialect - 1))
    ∷ (split (e.matcher ++ e.pattern) ++ replicate (249 - 2 * counts e) 0)

unfoldable pub sealed : List ℕ → Block
unfolding due
sealed ws = ws ++ (due ws % 65536 ∷ due ws / 65536 ∷ [])

unfoldable pub written : ℕ → Entry → Block
unfolding laid sealed
written k e = sealed (laid k e)

-- "A badge number of 0 marks a withdrawn rule, with all words from 3 to the check zero": number and version stay (reading 64).
unfoldable pub emptied : ℕ → ℕ → Block
unfolding sealed
emptied k v = sealed (k ∷ v ∷ replicate 252 0)

-- ---- What a block says. "Version 2 adds the dialect as the top bit of word 4, set for 2."

unfoldable pub length_in : (version w : ℕ) → ℕ
length_in v w = elim (eqb v 2) [ true ↦ w % 32768 | false ↦ w ]

unfoldable pub dialect_in : (version w : ℕ) → ℕ
dialect_in v w = elim (eqb v 2) [ true ↦ 1 + w / 32768 | false ↦ 1 ]

abbrev pub badge_of : Block → ℕ
badge_of b = word b 2

unfoldable pub entry_of : Block → Entry
unfolding length_in dialect_in joined
entry_of b = record {
  version = word b 1;
  badge = word b 2;
  dialect = dialect_in (word b 1) (word b 4);
  matcher = take (length_in (word b 1) (word b 4)) (joined (word b 3) (drop 5 b));
  pattern = drop (length_in (word b 1) (word b 4)) (joined (word b 3) (drop 5 b));
}

-- ---- 12 check, 13 block number, 14 version, 15 form.

-- 0, or the refusal if the test fails; the first of two refusals.
unfoldable pub unless : Bool → ℕ → ℕ
unless true n = 0
unless false n = n

unfoldable pub or_else : ℕ → ℕ → ℕ
or_else zero r = r
or_else (suc n) r = suc n

unfoldable pub known : ℕ → Bool
known v = elim (eqb v 1) [ true ↦ true | false ↦ eqb v 2 ]

unfoldable pub zeros : ℕ → List ℕ → Bool
unfolding and_also
zeros zero ws = true
zeros (suc n) [] = true
zeros (suc n) (w ∷ ws) = and_also (eqb w 0) (zeros n ws)

unfoldable pub is_accepted : Judged Rule → Bool
is_accepted (accepted r) = true
is_accepted (refused a i) = false

-- Review's 1 to 4, in the rule's dialect (reading 104).
unfoldable pub is_rule : (dialect : ℕ) (ms ps : List ℤ) → Bool
unfolding is_accepted rule_in dialect_of
is_rule dialect ms ps = elim (dialect_of dialect) [ none ↦ false | some d ↦ is_accepted (rule_in d ms ps) ]

-- A live block: n at most 124, the matcher's length at most n, every word after the rule zero, and review's 1 to 4 (reading 69).
unfoldable pub live_formed : Block → Bool
unfolding and_also zeros length_in is_rule entry_of
live_formed b = and_also (leb (word b 3) 124) (and_also (leb (length_in (word b 1) (word b 4)) (word b 3))
    (and_also (zeros (249 - 2 * word b 3) (drop (5 + 2 * word b 3) b)) (is_rule (entry_of b).dialect (entry_of b).matcher (entry_of b).pattern)))

-- A withdrawn one: "all words from 3 to the check zero".
unfoldable pub formed : Block → Bool
unfolding zeros live_formed
formed b = elim (eqb (badge_of b) 0) [ true ↦ zeros 251 (drop 3 b) | false ↦ live_formed b ]

-- A live rule of this badge; 0 is none.
unfoldable pub holds : ℕ → Block → Bool
unfolding and_also
holds badge b = and_also (not (eqb badge 0)) (eqb (badge_of b) badge)

unfoldable pub taken : ℕ → List Block → Bool
unfolding holds
taken badge [] = false
taken badge (b ∷ bs) = elim (holds badge b) [ true ↦ true | false ↦ taken badge bs ]

-- Block k, after these: "a badge live twice" is told at the second (reading 66).
unfoldable pub verdict : ℕ → List Block → Block → ℕ
unfolding checked unless or_else known and_also formed taken
verdict k earlier b =
    or_else (unless (checked b) 12)
    (or_else (unless (eqb (word b 0) k) 13)
    (or_else (unless (known (word b 1)) 14)
    (unless (and_also (formed b) (not (taken (badge_of b) earlier))) 15)))
