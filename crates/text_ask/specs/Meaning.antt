-- What the answers of the readers stand for.
use Rattle.std.specs.Prelude.{ℕ, ◌≤◌, ◌≡◌, List, take, ℤ, Option, option_map, IfSome}
use Rattle.std.specs.Io.KnownBytes.{Consumes}
use Rattle.text_ask.specs.Question.{Limits, Lines, Question, words_of, asked}
use Rattle.text_ask.specs.declared.asked.Bounds.{Bounds}
use Rattle.text_ask.specs.declared.question.Lines as declared
use Rattle.text_ask.specs.declared.asked.Asked.{Asked}

-- The words of a line stand at the start of a table.
unfoldable pub of_line : Option ℕ → List ℤ → Option (List ℤ)
of_line r out = option_map (λ n. take n out) r

pub record ReadWords (line : List ℕ) (r : Option ℕ) (out : List ℤ) : Type 0 where
  pub words : of_line r out ≡ words_of line
  pub few : IfSome r (λ n. n ≤ 2000)

unfoldable pub of_bounds : Option Bounds → Option Limits
of_bounds r = option_map (λ b. record { budget = b.budget; room = b.room }) r

unfoldable pub these : (one two three four : List ℕ) → Lines
these a b c d = record { one = a; two = b; three = c; four = d }

unfoldable pub of_lines : Option declared.Lines → Option Lines
unfolding these
of_lines r = option_map (λ l. these l.one.now l.two.now l.three.now l.four.now) r

-- Each of the three lines' words stand at the start of a table.
unfoldable pub of_asked : Option Asked → (m p t : List ℤ) → Option Question
of_asked r m p t =
    option_map (λ a. record { matcher = take a.matcher m; pattern = take a.pattern p; target = take a.target t; limits = record { budget = a.budget; room = a.room } }) r

-- Some bytes were read, and they ask this.
unfoldable pub AsksOf : (old new : Option (List ℕ)) → Option Question → Type 0
AsksOf old new q = (bytes : List ℕ) × Consumes old new bytes × (q ≡ asked bytes)
