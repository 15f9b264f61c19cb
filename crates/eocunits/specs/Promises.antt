-- What handing a message up promises.
use Rattle.std.specs.Prelude.{◌≡◌, Result, IfOk, List, ℕ}
use Rattle.answer.specs.Answer.{answer, held}
use Rattle.answer.specs.declared.Refused.{Refused}
use Rattle.answer.specs.Given.{answer_of}
use Rattle.eoc.specs.Reading.{message_in}
use Rattle.eocunits.specs.Units.{records_in, count_taking, units_after, hand_up_refusals}

-- hand_up: the answer, how many units took the message where it is 0, and every record as it is afterwards, or what it held
pub record MessageHandedUp (s units : List ℕ) (r : Result ℕ Refused) (exit : List ℕ) : Type 0 where
  pub answered : answer_of r ≡ answer (hand_up_refusals s units)
  pub taken : IfOk r (λ n. n ≡ count_taking (message_in s) (records_in units))
  pub units_left : exit ≡ held (answer (hand_up_refusals s units)) units (units_after (message_in s) units)
