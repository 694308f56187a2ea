-- What is promised of reading, each in two lines: what `notation_read::read_rule` answers and writes (`reading`, its contract) is what the notation says
-- of the text. What to believe: notation_rules' Main, and `answered` of specs/Main, the numbers of the causes (`numbered` of notation_read) and the words
-- of a rule.
use Rattle.std.specs.Prelude.{ℕ, ◌≤◌, ◌≡◌, cond, List, [], ◌∷◌, length, ℤ, pos, Ok, Err}
use Rattle.std.proofs.Common.{arith, sym, ap, ◌∙◌, le-ltb}
use Rattle.notation_rules.specs.Tokens.{Outcome, done, refused}
use Rattle.notation_rules.specs.Letters.{full}
use Rattle.notation_rules.specs.Names.{resolve}
use Rattle.notation_rules.specs.Places.{good, Spot, spots, bare, told, from_spots, from_text}
use Rattle.notation_rules.specs.Rules.{Rule, rule, the_rule, read_text, write_text}
use Rattle.notation_rules.proofs.RulesBack.{Fine, rule_back}
use Rattle.notation_rules.proofs.Kept.{read_fine}
use Rattle.notation_rules.proofs.Main as N
use Rattle.notation_read.specs.Read.{unreadable, judged, reading, ran, stopped}
use Rattle.notation_read.specs.declared.Refusal.TheVariants.{TooLong}
use Rattle.notation_read.specs.Read as Code
use Rattle.notation_same.specs.Scans.{Bytes}
use Rattle.notation_same.proofs.Scans.{from_index}
use Rattle.notation_grammar.specs.One.{begins, run_all, rule_all}
use Rattle.notation_grammar.specs.Written.{written_bytes}
use Rattle.notation_grammar.proofs.ReadsText.{rule_words, rule_parts, Tells, reads_all}
use Rattle.notation_grammar.specs.Main.{answered}

same_spots : (text : List ℕ) → Bytes text → spots (full []) (length text) text ≡ spots (full []) 0 text
same_spots text bytes = from_index text bytes (length text) 0 (omega arith) ∙ sym (from_index text bytes 0 0 (omega arith))

judges : (text : List ℕ) (lent : List ℤ) (xs : List Spot) (o : Outcome Rule) → Tells text (pos 0 ∷ []) o xs (ran text (pos 0 ∷ [])) → Tells text lent o xs (ran text lent)
    → judged text lent (ran text (pos 0 ∷ [])).ran (ran text lent) ≡ answered (told text xs o) lent
unfolding Tells judged answered told unreadable rule_parts rule_words stopped Code.told
judges text lent xs (done (rule u m p)) a b = ap (λ x. judged text lent x.ran (ran text lent)) a ∙ ap (λ x. Code.told (Ok (rule_parts (rule u m p))) x.words) b
judges text lent xs (refused c q) a b = ap (λ x. judged text lent x (ran text lent)) a.0

reads_lem : (text : List ℕ) (lent : List ℤ) → length text ≤ 16384 → Bytes text → reading text lent ≡ answered (read_text text) lent
unfolding reading read_text from_text from_spots
reads_lem text lent h bytes =
    ap (λ b. cond b (Code.told (Err TooLong) lent) (judged text lent (ran text (pos 0 ∷ [])).ran (ran text lent))) (le-ltb 16384 (length text) h)
    ∙ judges text lent (spots (full []) 0 text) (run_all begins (resolve [] (bare (spots (full []) 0 text)))) (reads_all text (pos 0 ∷ []) bytes h) (reads_all text lent bytes h)
    ∙ ap (λ o. answered (told text (spots (full []) 0 text) o) lent) (sym (rule_all (resolve [] (bare (spots (full []) 0 text)))))
    ∙ ap (λ xs. answered (told text xs (the_rule (resolve [] (bare xs)))) lent) (sym (same_spots text bytes))

-- ---- The code reads a text as the notation says.
pub reads_the_notation : (text : List ℕ) (lent : List ℤ) → Bytes text → length text ≤ 16384 → reading text lent ≡ answered (read_text text) lent
reads_the_notation text lent bytes h = reads_lem text lent h bytes

-- ---- What is written the code reads back; what it read and is written again it reads as the same.
pub read_back : (r : Rule) (lent : List ℤ) → Fine r → length (write_text r) ≤ 16384 → reading (write_text r) lent ≡ answered (good r) lent
read_back r lent f h = reads_lem (write_text r) lent h (written_bytes r f) ∙ ap (λ t. answered t lent) (rule_back r f)

pub read_again : (text : List ℕ) (r : Rule) (lent : List ℤ) → Bytes text → length text ≤ 16384 → length (write_text r) ≤ 16384 → read_text text ≡ good r → reading (write_text r) lent ≡ reading text lent
read_again text r lent b h i e =
    reads_lem (write_text r) lent i (written_bytes r (read_fine text r e)) ∙ ap (λ t. answered t lent) (N.read_again text r e) ∙ sym (reads_lem text lent h b)
