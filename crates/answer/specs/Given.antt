-- What a call gives that may be refused: its value, or why it is refused (SCOPE, "What comes back"). Each refusal has its number in the table.
use Rattle.std.specs.Prelude.{Result, Ok, Err, ℕ}
use Rattle.answer.specs.declared.Refused.{Refused}
use Rattle.answer.specs.declared.Refused.TheVariants.{Length, Unknown, Count, Range, Sync, Pad, Check, Stuffing, Flag, Escape, Size}

-- the number of a refusal in the table
abbrev pub number_of : Refused → ℕ
number_of Length = 1
number_of Unknown = 2
number_of Count = 3
number_of Range = 4
number_of Sync = 5
number_of Pad = 6
number_of Check = 7
number_of Stuffing = 9
number_of Flag = 10
number_of Escape = 11
number_of Size = 12

-- the number that a call answers: 0 with a value
abbrev pub answer_of : {A : Type 0} → Result A Refused → ℕ
answer_of (Ok v) = 0
answer_of (Err e) = number_of e
