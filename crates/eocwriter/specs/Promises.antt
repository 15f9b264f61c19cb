-- What writing an operations channel message promises.
use Rattle.std.specs.Prelude.{◌≡◌, Result, IfOk, List, ℕ, length}
use Rattle.answer.specs.Answer.{answer, held}
use Rattle.answer.specs.declared.Refused.{Refused}
use Rattle.answer.specs.Given.{answer_of}
use Rattle.eoc.specs.Message.{Message, written, form_most, padded}
use Rattle.eoc.specs.Refusals.{write_refusals}

-- the message of what is handed in
abbrev pub message_from : ℕ → ℕ → ℕ → List ℕ → Message
message_from source destination number contents = record { source = source; destination = destination; number = number; contents = contents }

-- write: the answer, the form's length where it is 0, and the message's one written form with zeros behind it, or what the room held
pub record MessageWritten (source destination number : ℕ) (contents room : List ℕ) (r : Result ℕ Refused) (exit : List ℕ) : Type 0 where
  pub answered : answer_of r ≡ answer (write_refusals source destination number contents room)
  pub size : IfOk r (λ n. n ≡ length (written (message_from source destination number contents)))
  pub room_left : exit ≡ held (answer (write_refusals source destination number contents room)) room
      (padded form_most (written (message_from source destination number contents)))
