-- What reading a data-mode frame promises.
use Rattle.std.specs.Prelude.{◌≡◌, List, ℕ, Result, IfOk}
use Rattle.answer.specs.declared.Refused.{Refused}
use Rattle.answer.specs.Answer.{answer, held}
use Rattle.answer.specs.Given.{answer_of}
use Rattle.octets.specs.Bits.{bits_of}
use Rattle.dataframe.specs.declared.Overhead.{Overhead}
use Rattle.dataframe.specs.Frame.{overhead_in, payload_in, Due}
use Rattle.dataframe.specs.Refusals.{read_refusals}

-- read: the answer; with 0 what the frame carries and the payload's octets, otherwise what the room held. With 0 the six given are what is left of the
-- frame's division, with 7 they are not
pub record DataRead (form k word next : ℕ) (frame octets : List ℕ) (r : Result Overhead Refused) (exit : List ℕ) : Type 0 where
  pub answered : answer_of r ≡ answer (read_refusals form k word next frame octets)
  pub found : IfOk r (λ o. o ≡ overhead_in form k (bits_of frame))
  pub payload_left : exit ≡ held (answer (read_refusals form k word next frame octets)) octets (payload_in form k (bits_of frame))
  pub due_right : answer_of r ≡ 0 → Due form k (bits_of frame) next
  pub due_wrong : answer_of r ≡ 7 → Due form k (bits_of frame) next → ⊥
