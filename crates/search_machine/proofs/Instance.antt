-- Held values by places and marks are what the machine asks for; and the target, held whole, is where it starts. Assumes nothing.
use Prim.Native.Nat.{ℕ}
use mathlib.Core.Path.{◌≡◌, sym, ◌∙◌, ap, subst}
use mathlib.Core.List.{List}
use lib.IntN.{ℤ}
use Rattle.rules.specs.Forms.{Matcher, Value}
use Rattle.rules.specs.Origins.{plain, placed, target}
use Rattle.rules.specs.Rows.{Form, told}
use Rattle.rules.specs.Reading.{ok, read_target}
use Rattle.rules.specs.Fit.{fits_value}
use Rattle.value_places.specs.Places.{Target}
use Rattle.value_places.specs.Held.{whole_at}
use Rattle.value_rows.specs.Row.{origin_of}
use Rattle.value_rows.specs.declared.Binding.{Binding}
use Rattle.value_places.proofs.Accepted.{read_target_lem, read_tag, read_value, read_held}
use Rattle.value_places.proofs.Origins.{origin_whole}
use Rattle.forms.specs.Origins.{plain_placed}
use Rattle.rules.specs.Dialects.{Dialect}
use Rattle.search_machine.specs.Fitting.{Fitting}
use Rattle.search_machine.specs.Held.{Data}
use Rattle.search_machine.specs.Operations.{binding, Is, Left, is_none, is_number, is_same, is_wide, part_of, opens, pick}
use Rattle.search_machine.proofs.Fitting.{fits_value_lem}
use Rattle.search_machine.proofs.Tests.{none_ok, number_ok, same_ok, words_ok}
use Rattle.search_machine.proofs.Tuples.{parts_ok}
use Rattle.search_machine.proofs.Choices.{opens_ok, pick_ok}

abbrev pub places : Dialect → Form → (s : List ℤ) → Target s → Data
places dialect form s g = record {
  Held = Binding;
  Rem = ℕ;
  Is = Is s;
  Left = Left s;
  is_empty_held = is_none;
  is_empty_held_ok = none_ok s g;
  is_number = is_number s;
  is_number_ok = number_ok s g;
  is_same = is_same s;
  is_same_ok = same_ok s g;
  dialect = dialect;
  opens = opens dialect s;
  opens_ok = opens_ok s g dialect;
  pick = pick s;
  pick_ok = pick_ok s g;
  is_wide = is_wide s;
  part = part_of s;
  parts_ok = parts_ok s g;
  stale = λ now before. binding now.at before.marks;
  form = form;
  words_of = λ h. told form (origin_of s h);
  words_of_ok = words_ok s g form;
}

module _ (s : List ℤ) (v : Value) (e : read_target s ≡ ok v) where
  pub target_is : (m : Matcher) → fits_value m v 0 ≡ ok tt → Is s m (binding 0 (whole_at s 0)) (target v)
  unfolding target
  target_is m f = record {
    held = read_held s v e;
    place = 0;
    is = origin_whole s 0 0 (read_target_lem s v e) (read_tag s v e) ∙ ap (placed 0 0) (read_value s v e);
    fits = subst (Fitting m) (sym (plain_placed 0 0 v)) (fits_value_lem m v 0 f);
  }
