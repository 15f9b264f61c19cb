-- What checking a data-mode frame promises.
use Rattle.std.specs.Prelude.{◌≡◌, List, ℕ, Result, IfOk}
use Rattle.std.specs.Borrow.{Bor}
use Rattle.answer.specs.declared.Refused.{Refused}
use Rattle.answer.specs.Answer.{answer}
use Rattle.answer.specs.Given.{answer_of}
use Rattle.octets.specs.Bits.{bits_of}
use Rattle.dataframe.specs.declared.Room.{Room}
use Rattle.dataframe.specs.Frame.{overhead_in, Due}
use Rattle.dataframe.specs.Refusals.{check_refusals}
use Rattle.dataframe.specs.Rooms.{IsRoomOf}
use Rattle.datachecker.specs.declared.Verdict.{Verdict}

-- check: the answer; with 0 the six given are what is left of the frame's division, with 7 they are not
pub record DataChecked (form k word next : ℕ) (frame : List ℕ) (r : ℕ) : Type 0 where
  pub answered : r ≡ answer (check_refusals form k word next frame)
  pub due_right : r ≡ 0 → Due form k (bits_of frame) next
  pub due_wrong : r ≡ 7 → Due form k (bits_of frame) next → ⊥

-- what was found on the way: the frame in its room, how many stuffing bits it has, and the six that stand in it
pub record Found (form k : ℕ) (frame : Bor (List ℕ)) (v : Verdict) : Type 0 where
  pub room : Room
  pub room_is : IsRoomOf form k frame room
  pub stuffing_is : v.stuffing ≡ (overhead_in form k (bits_of frame.now)).stuffing
  pub crc_is : v.crc ≡ (overhead_in form k (bits_of frame.now)).crc

-- judge: the answer of check, and with 0 this
pub record VerdictGiven (form k word next : ℕ) (frame : Bor (List ℕ)) (r : Result Verdict Refused) : Type 0 where
  pub given : IfOk r (Found form k frame)
  pub checked : DataChecked form k word next frame.now (answer_of r)
