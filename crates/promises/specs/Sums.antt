-- Document 02, No. 2: what tag 3 under integer compares. In the signed 32-bit range the sum is the sum of the integers; outside it equals nothing.
use Rattle.std.specs.Prelude.{◌≡◌, true, false, List, ℤ, ◌+ℤ◌}
use Rattle.std.proofs.Math.Option.{none, some}
use Rattle.rules.specs.Numbers.{same, in_range, plus_inside, plus_outside}
use Rattle.rules.specs.Forms.{integer, Value, int}
use Rattle.rules.specs.Reading.{entry}
use Rattle.rules.specs.Equality.{equal, raised, equal_to, is_value}

raised_inside : (x c : ℤ) → in_range (x +ℤ c) ≡ true → raised c (int x) ≡ some (int (x +ℤ c))
unfolding raised
raised_inside x c h = rw (plus_inside x c h, raised)

raised_outside : (x c : ℤ) → in_range (x +ℤ c) ≡ false → raised c (int x) ≡ none
unfolding raised
raised_outside x c h = rw (plus_outside x c h, raised)

module _ (e : List Value) (v : ℤ) (x c : ℤ) (held : entry e v ≡ some (int x)) where
  pub sum_inside : in_range (x +ℤ c) ≡ true → (y : ℤ) → is_value integer e v c (int y) ≡ same (x +ℤ c) y
  unfolding is_value equal_to equal
  sum_inside h y = rw (held, is_value, raised_inside x c h)

  pub sum_outside : in_range (x +ℤ c) ≡ false → (w : Value) → is_value integer e v c w ≡ false
  unfolding is_value equal_to
  sum_outside h w = rw (held, is_value, raised_outside x c h)
