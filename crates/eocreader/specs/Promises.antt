-- What reading an operations channel message promises.
use Rattle.std.specs.Prelude.{◌≡◌, Result, IfOk, List, ℕ, length}
use Rattle.answer.specs.Answer.{answer, held}
use Rattle.answer.specs.declared.Refused.{Refused}
use Rattle.answer.specs.Given.{answer_of}
use Rattle.eoc.specs.Message.{Message, contents_most, padded}
use Rattle.eoc.specs.Reading.{message_in}
use Rattle.eoc.specs.Refusals.{read_refusals}
use Rattle.eocreader.specs.declared.Found.{Found}

-- the message's numbers and how many octets its contents have
abbrev pub found_of : Message → Found
found_of m = record { source = m.source; destination = m.destination; number = m.number; length = length m.contents }

-- read: the answer, the message's numbers where it is 0, and the contents with zeros behind them, or what the room held
pub record MessageRead (s room : List ℕ) (r : Result Found Refused) (exit : List ℕ) : Type 0 where
  pub answered : answer_of r ≡ answer (read_refusals s room)
  pub numbers : IfOk r (λ f. f ≡ found_of (message_in s))
  pub room_left : exit ≡ held (answer (read_refusals s room)) room (padded contents_most (message_in s).contents)
