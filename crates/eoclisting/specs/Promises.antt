-- What the functions for the lines of messages promise.
use Rattle.std.specs.Prelude.{◌≡◌, IfOk, List, ℕ}
use Rattle.answer.specs.Answer.{answer}
use Rattle.answer.specs.Given.{answer_of}
use Rattle.ascii.specs.Promises.{Told}
use Rattle.eoc.specs.Reading.{message_in}
use Rattle.eoc.specs.Refusals.{form_refusals}
use Rattle.eoclisting.specs.declared.Listed.{Listed}
use Rattle.eoclisting.specs.Line.{line_of}

-- line: the answer, to whom the message goes where it is 0, and in the room its line
pub record Lined (n : ℕ) (s room : List ℕ) (r : Listed) (exit : List ℕ) : Type 0 where
  pub answered : answer_of r.destination ≡ answer (form_refusals s)
  pub to : IfOk r.destination (λ d. d ≡ (message_in s).destination)
  pub told : Told (line_of n s) room r.length exit
