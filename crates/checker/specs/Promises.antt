-- What checking a frame promises.
use Rattle.std.specs.Prelude.{◌≡◌, cond, List, ℕ, Result, IfOk}
use Rattle.answer.specs.Answer.{answer}
use Rattle.answer.specs.Given.{answer_of}
use Rattle.answer.specs.declared.Refused.{Refused}
use Rattle.octets.specs.Bits.{bits_of}
use Rattle.layout.specs.Frame.{training_sync}
use Rattle.layout.specs.Refusals.{has_sync, RightCheck, check_refusals}
use Rattle.checker.specs.declared.Kind.{Kind}
use Rattle.checker.specs.declared.Kind.TheVariants.{Training, Final}

-- check: the answer; with 0 the check bits are the remainder of the message, with 7 they are not
pub record Checked (frame : List ℕ) (r : ℕ) : Type 0 where
  pub answered : r ≡ answer (check_refusals frame)
  pub check_right : r ≡ 0 → RightCheck (bits_of frame)
  pub check_wrong : r ≡ 7 → RightCheck (bits_of frame) → ⊥

-- a kind's number
abbrev pub kind_number : Kind → ℕ
kind_number Training = 0
kind_number Final = 1

-- kind_of: the answer of check, and of a frame that is right the kind: training where sync is the training frame's, else final
pub record KindChecked (frame : List ℕ) (r : Result Kind Refused) : Type 0 where
  pub checked : Checked frame (answer_of r)
  pub kind_is : IfOk r (λ k. kind_number k ≡ cond (has_sync training_sync (bits_of frame)) 0 1)
