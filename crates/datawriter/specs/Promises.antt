-- What writing a data-mode frame promises.
use Rattle.std.specs.Prelude.{◌≡◌, List, ℕ, Result, IfOk}
use Rattle.answer.specs.declared.Refused.{Refused}
use Rattle.answer.specs.Answer.{answer, held}
use Rattle.answer.specs.Given.{answer_of}
use Rattle.octets.specs.Bits.{bits_of}
use Rattle.dataframe.specs.declared.Overhead.{Overhead}
use Rattle.dataframe.specs.Frame.{data_octets, due_of, Due}
use Rattle.dataframe.specs.Refusals.{write_refusals}

-- write: the answer; with 0 the six that the next frame has to carry, what is left of the division of what was written; and the frame written, or as
-- it was
pub record DataWritten (form k word : ℕ) (o : Overhead) (octets frame : List ℕ) (r : Result ℕ Refused) (exit : List ℕ) : Type 0 where
  pub answered : answer_of r ≡ answer (write_refusals form k word o octets frame)
  pub given : IfOk r (λ six. six ≡ due_of form k (bits_of (data_octets form k word o octets)))
  pub left : exit ≡ held (answer (write_refusals form k word o octets frame)) frame (data_octets form k word o octets)
  pub due_right : IfOk r (λ six. Due form k (bits_of exit) six)
