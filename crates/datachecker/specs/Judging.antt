-- For the private function that looks at a frame's bits only; no promise of a public function names this.
use Rattle.std.specs.Prelude.{◌≡◌, ℕ, Result, IfOk}
use Rattle.answer.specs.declared.Refused.{Refused}
use Rattle.answer.specs.Answer.{answer}
use Rattle.answer.specs.Given.{answer_of}
use Rattle.dataframe.specs.declared.Room.{Room}
use Rattle.dataframe.specs.Refusals.{frame_refusals}
use Rattle.dataframe.specs.Rooms.{form_in, bits_in, carried_by}

-- the answer of the checks behind room, form and size, and with 0 how many stuffing bits the frame has
pub record StuffingGiven (r : Room) (word next : ℕ) (s : Result ℕ Refused) : Type 0 where
  pub answered : answer_of s ≡ answer (frame_refusals (form_in r) r.size word next (bits_in r))
  pub given : IfOk s (λ n. n ≡ (carried_by r).stuffing)
