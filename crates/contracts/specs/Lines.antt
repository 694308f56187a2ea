-- Document 01, section 9, "and then each row on its own line": where the input is not refused, what is printed behind the first line are the rows of the
-- first good ways of section 5, in their order, a line for each.
use Rattle.std.specs.Prelude.{◌≡◌, refl, true, ℕ, zero, suc, ◌≤◌, ℤ, length, take, drop}
use Rattle.std.proofs.Math.Path.{sym, ap, ap₂}
use Rattle.std.proofs.Common.{◌∙◌, ⊎_elim, arith}
use mathlib.Core.List.Memᴰ
use mathlib.Core.List.{List, [], ◌∷◌, ◌++◌, map, append-nil}
use Rattle.std.proofs.Math.ListN.{length-map}
use Rattle.std.proofs.Math.Seq.{take_at, length-take-le}
use Rattle.rules.specs.Forms.{Value}
use Rattle.rules.specs.Reading.{ok, ◌then◌, read_pattern}
use Rattle.rules.specs.Variables.{variables}
use Rattle.rules.specs.Dialects.{every_place}
use Rattle.rules.specs.Origins.{Bindings}
use Rattle.rules.specs.Rows.{as_words, row}
use Rattle.rules.specs.Following.{Solution}
use Rattle.forms.specs.Lists.{Mem}
use Rattle.rules.specs.Services.{accepted, Rule, rule_of, target_of, Matched, match}
use Rattle.forms.specs.Written.{variable_tags}
use Rattle.forms.specs.Faults.{rule_accepted}
use Rattle.promises.specs.Matching.{ways, rows_of_ways}
use Rattle.promises.proofs.Main.Ways.{ways_listed}
use Rattle.promises.proofs.Main.Runs.{room_holds, rows_whole}
use Rattle.promises.proofs.Main.Bounds.{variables_counted}
use Rattle.text_print.specs.Rows.{cut_rows, lines}
use Rattle.text_print.specs.Cut.{written, Each, cut_written}
use Rattle.text.specs.Printed.{or_zero, variables_of, first_line, report}

-- What is bound in each of some ways.
abbrev bounds : List Solution → List Bindings
bounds ss = map (λ (s : Solution). s.bound) ss

written_ways : (ss : List Solution) → written (bounds ss) ≡ rows_of_ways as_words ss
unfolding written rows_of_ways
written_ways [] = refl
written_ways (s ∷ ss) = ap (λ (l : List ℤ). row as_words s.bound ++ l) (written_ways ss)

mem_take : {A : Type 0} (n : ℕ) (xs : List A) {x : A} → Mem x (take n xs) → Mem x xs
mem_take zero xs m = absurd (Memᴰ.not-nil m)
mem_take (suc n) [] m = m
mem_take (suc n) (y ∷ ys) m = ⊎_elim (λ e. Memᴰ.head e) (λ k. Memᴰ.tail (mem_take n ys k)) (Memᴰ.cases_cons m)

each_of : (n : ℕ) (ss : List Solution) → ((s : Solution) → Mem s ss → length s.bound ≡ n) → Each n (bounds ss)
unfolding Each
each_of n [] h = tt
each_of n (s ∷ ss) h = (h s (Memᴰ.head refl), each_of n ss (λ t m. h t (Memᴰ.tail m)))

map_map : (ss : List Solution) → map (row as_words) (bounds ss) ≡ map (λ (s : Solution). row as_words s.bound) ss
map_map [] = refl
map_map (s ∷ ss) = ap (λ (l : List (List ℤ)). row as_words s.bound ∷ l) (map_map ss)

module _ (ms ps ts : List ℤ) (budget : ℕ) (room : List ℤ) (r : Rule) (v : Value)
    (rule : rule_of ms ps ≡ accepted r) (target : target_of r.matcher ts ≡ accepted v) where
  abbrev it : Matched
  it = match ms ps ts budget room

  abbrev first : List Solution
  first = take it.rows (ways every_place r v)

  values_are : variables_of ps ≡ variable_tags r.pattern
  unfolding variables_of or_zero ◌then◌
  values_are = rw (((rule_accepted ms ps r).0 rule).pattern, (variables_counted ms ps r rule).0)

  words_are : take it.words it.room ≡ rows_of_ways as_words first
  unfolding match
  words_are =
      let h = room_holds every_place as_words ms ps ts budget room r v rule target in
      ap (take it.words) h.2 ∙ take_at (rows_of_ways as_words first) (drop it.words room) it.words (sym h.1)

  count_is : length (bounds first) ≡ it.rows
  unfolding match
  count_is =
      let h = room_holds every_place as_words ms ps ts budget room r v rule target in
      length-map first (λ (s : Solution). s.bound) ∙ length-take-le it.rows (ways every_place r v) h.0

  each : Each (variables_of ps) (bounds first)
  each = each_of (variables_of ps) first (λ s m.
      rows_whole every_place as_words ms ps ts budget room r v rule target s.way s.bound ((ways_listed every_place r v).sound s (mem_take it.rows (ways every_place r v) m)) ∙ sym values_are)

  pub rows_on_lines : report (variables_of ps) it ≡ first_line it ++ lines (map (λ (s : Solution). row as_words s.bound) first)
  unfolding report
  rows_on_lines = ap (λ (l : List (List ℤ)). first_line it ++ lines l) (
      ap₂ (λ (n : ℕ) (l : List ℤ). cut_rows (variables_of ps) n l) (sym count_is) (words_are ∙ sym (written_ways first) ∙ sym (append-nil (written (bounds first))))
      ∙ cut_written (variables_of ps) (bounds first) [] each ∙ map_map first)
