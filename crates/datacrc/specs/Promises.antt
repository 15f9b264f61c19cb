-- What the crate promises: the six check bits that stand in a frame, and those due in the next.
use Rattle.std.specs.Prelude.{◌≡◌, List, ℕ, Result, IfOk}
use Rattle.std.specs.Borrow.{Bor}
use Rattle.answer.specs.declared.Refused.{Refused}
use Rattle.answer.specs.Answer.{answer}
use Rattle.answer.specs.Given.{answer_of}
use Rattle.octets.specs.Bits.{bits_of}
use Rattle.remainder.specs.Division.{polynomial}
use Rattle.dataframe.specs.declared.Room.{Room}
use Rattle.dataframe.specs.Table.{crc}
use Rattle.dataframe.specs.Frame.{carried, due_of, Due}
use Rattle.dataframe.specs.Refusals.{crc_refusals}
use Rattle.dataframe.specs.Rooms.{form_in, bits_in, DueIn, IsRoomOf}
use Rattle.datacrc.specs.declared.Sixes.{Sixes}

-- room: what is wrong with a room, a form and a size, or the three together
pub record RoomChecked (form k : ℕ) (octets : Bor (List ℕ)) (r : Result Room Refused) : Type 0 where
  pub answered : answer_of r ≡ answer (crc_refusals form k octets.now)
  pub given : IfOk r (IsRoomOf form k octets)

-- the six that stand in a frame, and the six due in the next
abbrev pub sixes_of : ℕ → ℕ → List ℕ → Sixes
sixes_of form k bits = record { carried = polynomial (carried crc form k bits); due = due_of form k bits }

-- sixes_in: these; the six due are what is left of the division
pub record SixesGiven (r : Room) (s : Sixes) : Type 0 where
  pub given : s ≡ sixes_of (form_in r) r.size (bits_in r)
  pub due_right : DueIn r s.due

-- crc: the answer, and with 0 the same
pub record CrcGiven (form k : ℕ) (frame : List ℕ) (r : Result Sixes Refused) : Type 0 where
  pub answered : answer_of r ≡ answer (crc_refusals form k frame)
  pub given : IfOk r (λ s. s ≡ sixes_of form k (bits_of frame))
  pub due_right : IfOk r (λ s. Due form k (bits_of frame) s.due)
