-- Document 02, No. 7: worked scripts, each line computed, under one claim.
use Rattle.std.specs.Prelude.{ℕ, zero, suc, ◌≡◌, refl, List, [], ◌∷◌, ◌++◌, map, length, set, get_or, replicate, ℤ, pos, negsuc, ◌-◌}
use Rattle.std.proofs.Math.Option.{Option, none, some}
use Rattle.rules.specs.Tables.{nums}
use Rattle.book_rules.specs.Sums.{exchanged}
use Rattle.book_rules.specs.Blocks.{Block, Entry}
use Rattle.book_rules.specs.Books.{Book, Told, add, withdraw, total, read}

-- A line of a script: a call with what it must answer (refusal, number, blocks in use), what a block must then be, or a damage.
pub data Line : Type 0 where
  adds : (entry : Entry) (answer used : ℕ) → Line
  withdraws : (badge answer used : ℕ) → Line
  totals : (answer number used : ℕ) → Line
  reads : (badge : ℕ) → Entry → Line
  reads_none : (badge answer used : ℕ) → Line
  block : ℕ → Block → Line
  put : (b i w : ℕ) → Line
  swap : (b i j : ℕ) → Line

-- What a line shows: numbers, the rule that was read, and a block.
pub record Seen : Type 0 where
  pub numbers : List ℕ
  pub rule : Option Entry
  pub words : Block

unfoldable pub of_call : Told → Seen
of_call t = record { numbers = t.answer ∷ t.number ∷ t.book.used ∷ []; rule = t.found; words = [] }

unfoldable pub of_block : Block → Seen
of_block b = record { numbers = []; rule = none; words = b }

unfoldable pub replaced : Book → ℕ → (Block → Block) → Book
replaced b k f = record { lent = set b.lent k (f (get_or b.lent k [])); used = b.used }

unfoldable pub nothing : Seen
nothing = record { numbers = []; rule = none; words = [] }

unfoldable pub carry : Book → Line → Seen × Book
unfolding of_call of_block nothing replaced exchanged add withdraw total read
carry b (adds e a u) = let t = add e b in (of_call t, t.book)
carry b (withdraws k a u) = let t = withdraw k b in (of_call t, t.book)
carry b (totals a n u) = (of_call (total b), b)
carry b (reads k e) = (of_call (read k b), b)
carry b (reads_none k a u) = (of_call (read k b), b)
carry b (block k ws) = (of_block (get_or b.lent k []), b)
carry b (put k i w) = (nothing, replaced b k (λ (x : Block). set x i w))
carry b (swap k i j) = (nothing, replaced b k (λ (x : Block). exchanged x i j))

unfoldable pub trace : Book → List Line → List Seen
unfolding carry
trace b [] = []
trace b (l ∷ ls) = let r = carry b l in r.0 ∷ trace r.1 ls

unfoldable pub numbered : (a n u : ℕ) → Seen
numbered a n u = record { numbers = a ∷ n ∷ u ∷ []; rule = none; words = [] }

unfoldable pub stated : ℕ → List Line → List Seen
unfolding numbered of_block nothing
stated u [] = []
stated v (adds e a u ∷ ls) = numbered a 0 u ∷ stated u ls
stated v (withdraws k a u ∷ ls) = numbered a 0 u ∷ stated u ls
stated v (totals a n u ∷ ls) = numbered a n u ∷ stated u ls
stated v (reads k e ∷ ls) = record { numbers = 0 ∷ 1 ∷ v ∷ []; rule = some e; words = [] } ∷ stated v ls
stated v (reads_none k a u ∷ ls) = numbered a 0 u ∷ stated u ls
stated v (block k ws ∷ ls) = of_block ws ∷ stated v ls
stated v (put k i w ∷ ls) = nothing ∷ stated v ls
stated v (swap k i j ∷ ls) = nothing ∷ stated v ls

-- Lent blocks, each byte 170; none in use.
abbrev opened : ℕ → Book
opened k = record { lent = replicate k (replicate 256 43690); used = 0 }

-- Words 0 to k, zeros up to word 253, and the check.
abbrev words : (low high : ℕ) → List ℕ → Block
words l h ws = ws ++ (replicate (254 - length ws) 0 ++ (l ∷ h ∷ []))

abbrev rule : (version badge dialect : ℕ) (matcher pattern : List ℤ) → Entry
rule v b d ms ps = record { version = v; badge = b; dialect = d; matcher = ms; pattern = ps }

abbrev chain : ℕ → List ℤ → List ℤ
chain zero end = end
chain (suc n) end = pos 5 ∷ pos 0 ∷ chain n end

pub record Script : Type 0 where
  pub blocks : ℕ
  pub lines : List Line

abbrev opening : ℕ → List Line → Script
opening k ls = record { blocks = k; lines = ls }

unfoldable pub computed : Script → List Seen
unfolding trace
computed s = trace (opened s.blocks) s.lines

unfoldable pub told : Script → List Seen
unfolding stated
told s = stated 0 s.lines

unfoldable pub table : List Script
table =
    -- 1 an empty book of two lent blocks
    opening 2 (
    totals 0 0 0
    ∷ withdraws 5 23 0
    ∷ reads_none 5 0 0
    ∷ withdraws 0 23 0
    ∷ [])
    -- 2 the shortest rule: 1*2 + 4*3 + 2*4 + 1*5 = 27
    ∷ opening 1 (
    adds (rule 1 4 1 (nums (0 ∷ [])) (nums (0 ∷ []))) 0 1
    ∷ block 0 (words 27 0 (0 ∷ 1 ∷ 4 ∷ 2 ∷ 1 ∷ []))
    ∷ reads 4 (rule 1 4 1 (nums (0 ∷ [])) (nums (0 ∷ [])))
    ∷ totals 0 1 1
    ∷ [])
    -- 3 two of a rank, badge 11: 2 + 33 + 40 + 10 + 18 + 8 + 50 + 12 + 80 + 54 = 307
    ∷ opening 1 (
    adds (rule 1 11 1 (nums (3 ∷ 1 ∷ [])) (nums (5 ∷ 1 ∷ 0 ∷ 5 ∷ 3 ∷ 0 ∷ 0 ∷ 0 ∷ []))) 0 1
    ∷ block 0 (words 307 0 (0 ∷ 1 ∷ 11 ∷ 10 ∷ 2 ∷ 3 ∷ 0 ∷ 1 ∷ 0 ∷ 5 ∷ 0 ∷ 1 ∷ 0 ∷ 0 ∷ 0 ∷ 5 ∷ 0 ∷ 3 ∷ []))
    ∷ adds (rule 1 12 1 (nums (1 ∷ [])) (nums (0 ∷ []))) 17 1
    ∷ [])
    -- 4 a negative word in dialect 2: 1540139 is 32788 modulo 65537
    ∷ opening 1 (
    adds (rule 2 7 2 (nums (1 ∷ [])) ((pos 2 ∷ negsuc 0 ∷ []))) 0 1
    ∷ block 0 (words 32788 0 (0 ∷ 2 ∷ 7 ∷ 3 ∷ 32769 ∷ 1 ∷ 0 ∷ 2 ∷ 0 ∷ 65535 ∷ 65535 ∷ []))
    ∷ reads 7 (rule 2 7 2 (nums (1 ∷ [])) ((pos 2 ∷ negsuc 0 ∷ [])))
    ∷ adds (rule 1 8 2 (nums (1 ∷ [])) ((pos 2 ∷ negsuc 0 ∷ []))) 15 1
    ∷ [])
    -- 5 withdrawn blocks keep number and version, and the lowest is taken first
    ∷ opening 3 (
    adds (rule 2 21 1 (nums (0 ∷ [])) (nums (0 ∷ []))) 0 1
    ∷ block 0 (words 80 0 (0 ∷ 2 ∷ 21 ∷ 2 ∷ 1 ∷ []))
    ∷ adds (rule 1 22 1 (nums (0 ∷ [])) (nums (0 ∷ []))) 0 2
    ∷ block 1 (words 82 0 (1 ∷ 1 ∷ 22 ∷ 2 ∷ 1 ∷ []))
    ∷ adds (rule 2 23 1 (nums (0 ∷ [])) (nums (0 ∷ []))) 0 3
    ∷ block 2 (words 88 0 (2 ∷ 2 ∷ 23 ∷ 2 ∷ 1 ∷ []))
    ∷ withdraws 23 0 3
    ∷ block 2 (words 6 0 (2 ∷ 2 ∷ []))
    ∷ withdraws 21 0 3
    ∷ block 0 (words 4 0 (0 ∷ 2 ∷ []))
    ∷ totals 0 1 3
    ∷ withdraws 21 23 3
    ∷ adds (rule 1 24 1 (nums (0 ∷ [])) (nums (0 ∷ []))) 0 3
    ∷ block 0 (words 87 0 (0 ∷ 1 ∷ 24 ∷ 2 ∷ 1 ∷ []))
    ∷ adds (rule 1 21 1 (nums (0 ∷ [])) (nums (0 ∷ []))) 0 3
    ∷ block 2 (words 80 0 (2 ∷ 1 ∷ 21 ∷ 2 ∷ 1 ∷ []))
    ∷ adds (rule 1 25 1 (nums (0 ∷ [])) (nums (0 ∷ []))) 17 3
    ∷ totals 0 3 3
    ∷ [])
    -- 6 a changed word and exchanged words are 12, and the book is good again when it is put back
    ∷ opening 2 (
    adds (rule 1 11 1 (nums (3 ∷ 1 ∷ [])) (nums (5 ∷ 1 ∷ 0 ∷ 5 ∷ 3 ∷ 0 ∷ 0 ∷ 0 ∷ []))) 0 1
    ∷ block 0 (words 307 0 (0 ∷ 1 ∷ 11 ∷ 10 ∷ 2 ∷ 3 ∷ 0 ∷ 1 ∷ 0 ∷ 5 ∷ 0 ∷ 1 ∷ 0 ∷ 0 ∷ 0 ∷ 5 ∷ 0 ∷ 3 ∷ []))
    ∷ put 0 2 10
    ∷ totals 12 0 1
    ∷ withdraws 11 12 1
    ∷ put 0 2 11
    ∷ swap 0 2 3
    ∷ totals 12 0 1
    ∷ adds (rule 1 11 1 (nums (0 ∷ [])) (nums (0 ∷ []))) 12 1
    ∷ swap 0 2 3
    ∷ totals 0 1 1
    ∷ [])
    -- 7 word 0 and word 255 exchanged where the check is 65536: the check holds again, the number does not
    ∷ opening 1 (
    adds (rule 1 21754 1 (nums (3 ∷ 1 ∷ [])) (nums (5 ∷ 1 ∷ 0 ∷ 5 ∷ 3 ∷ 0 ∷ 0 ∷ 0 ∷ []))) 0 1
    ∷ block 0 (words 0 1 (0 ∷ 1 ∷ 21754 ∷ 10 ∷ 2 ∷ 3 ∷ 0 ∷ 1 ∷ 0 ∷ 5 ∷ 0 ∷ 1 ∷ 0 ∷ 0 ∷ 0 ∷ 5 ∷ 0 ∷ 3 ∷ []))
    ∷ swap 0 0 255
    ∷ totals 13 0 1
    ∷ withdraws 21754 13 1
    ∷ swap 0 0 255
    ∷ totals 0 1 1
    ∷ [])
    -- 8 the same in block 1 where the check is 0
    ∷ opening 2 (
    adds (rule 1 4 1 (nums (0 ∷ [])) (nums (0 ∷ []))) 0 1
    ∷ block 0 (words 27 0 (0 ∷ 1 ∷ 4 ∷ 2 ∷ 1 ∷ []))
    ∷ adds (rule 1 21754 1 (nums (3 ∷ 1 ∷ [])) (nums (5 ∷ 1 ∷ 0 ∷ 5 ∷ 3 ∷ 0 ∷ 0 ∷ 0 ∷ []))) 0 2
    ∷ block 1 (words 0 0 (1 ∷ 1 ∷ 21754 ∷ 10 ∷ 2 ∷ 3 ∷ 0 ∷ 1 ∷ 0 ∷ 5 ∷ 0 ∷ 1 ∷ 0 ∷ 0 ∷ 0 ∷ 5 ∷ 0 ∷ 3 ∷ []))
    ∷ swap 1 0 255
    ∷ totals 13 0 2
    ∷ reads_none 4 13 2
    ∷ [])
    -- 9 block by block: 15 in block 0 before 12 in block 1; the blocks before the add's own 14
    ∷ opening 3 (
    adds (rule 1 4 1 (nums (0 ∷ [])) (nums (0 ∷ []))) 0 1
    ∷ block 0 (words 27 0 (0 ∷ 1 ∷ 4 ∷ 2 ∷ 1 ∷ []))
    ∷ adds (rule 1 5 1 (nums (0 ∷ [])) (nums (0 ∷ []))) 0 2
    ∷ block 1 (words 31 0 (1 ∷ 1 ∷ 5 ∷ 2 ∷ 1 ∷ []))
    ∷ put 1 254 32
    ∷ totals 12 0 2
    ∷ put 0 253 1
    ∷ put 0 254 281
    ∷ totals 15 0 2
    ∷ adds (rule 3 9 1 (nums (0 ∷ [])) (nums (0 ∷ []))) 15 2
    ∷ put 0 253 0
    ∷ put 0 254 27
    ∷ put 1 254 31
    ∷ adds (rule 3 9 1 (nums (0 ∷ [])) (nums (0 ∷ []))) 14 2
    ∷ [])
    -- 10 an add in a full book: 15, then 16, then 18, then 17
    ∷ opening 1 (
    adds (rule 1 4 1 (nums (0 ∷ [])) (nums (0 ∷ []))) 0 1
    ∷ block 0 (words 27 0 (0 ∷ 1 ∷ 4 ∷ 2 ∷ 1 ∷ []))
    ∷ adds (rule 1 4 1 (nums (3 ∷ 1 ∷ [])) (chain 61 (nums (0 ∷ 0 ∷ [])))) 15 1
    ∷ adds (rule 1 4 1 (nums (3 ∷ 1 ∷ [])) (chain 61 (nums (0 ∷ [])))) 16 1
    ∷ adds (rule 1 5 1 (nums (3 ∷ 1 ∷ [])) (chain 61 (nums (0 ∷ [])))) 18 1
    ∷ adds (rule 1 5 1 (nums (0 ∷ [])) (nums (0 ∷ []))) 17 1
    ∷ [])
    ∷ []

-- THE CLAIM: each call answers as stated, and each block that changed has the words stated.
pub scripts_hold : map computed table ≡ map told table
unfolding computed told table
scripts_hold = refl
