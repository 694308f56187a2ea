-- The document's number of a refusal; 0 is that of a call that is not refused.
use Rattle.std.specs.Prelude.{ℕ, Result, Ok, Err}
use Rattle.book_blocks.specs.declared.fault.Fault.{Fault}
use Rattle.book_blocks.specs.declared.fault.Fault.TheVariants.{Check, Number, Version, Form, Live, NoBlock, TooLong, NotLive}

abbrev pub number_of : Fault → ℕ
number_of Check = 12
number_of Number = 13
number_of Version = 14
number_of Form = 15
number_of Live = 16
number_of NoBlock = 17
number_of TooLong = 18
number_of NotLive = 23

abbrev pub answer_of : {A : Type 0} → Result A Fault → ℕ
answer_of (Ok x) = 0
answer_of (Err f) = number_of f
