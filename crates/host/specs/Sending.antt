-- What sending a frame promises: what sender promises, with the coefficients as 720 octets, and the answer and the next state as two numbers.
use Rattle.std.specs.Prelude.{◌≡◌, List, ◌∷◌, ℕ}
use Rattle.answer.specs.Answer.{Refusal, wrong_length, answer, held}
use Rattle.octets.specs.Bits.{bits_of}
use Rattle.layout.specs.Refusals.{RightCheck}
use Rattle.numbers.specs.Promises.{coefficients_length, numbers_of}
use Rattle.recurrence.specs.Run.{after_of}
use Rattle.recurrence.specs.declared.Way.TheVariants.{Scramble as scramble}
use Rattle.scrambler.specs.Ends.{tap_of}
use Rattle.scrambler.specs.Promises.{clocked, frame_out}
use Rattle.sender.specs.Promises.{frame_octets, send_refusals}
use Rattle.host.specs.declared.scrambling.Scrambled.{Scrambled}

-- the checks of sending: a wrong length of the coefficients is 1 too
abbrev pub frame_send_refusals : ℕ → ℕ → ℕ → ℕ → List ℕ → ℕ → ℕ → List ℕ → List ℕ → List Refusal
frame_send_refusals end state kind count os a b vendor frame =
    wrong_length os coefficients_length ∷ send_refusals (record { end = end; state = state }) kind count (numbers_of os) a b vendor frame

-- sdsl_frame_send: the answer, the next state, and the frame as it goes out, or the room as it was; the check bits under the scrambling are the remainder
-- of the frame's message
pub record FrameSent (end state kind count : ℕ) (os : List ℕ) (a b : ℕ) (vendor frame : List ℕ) (r : Scrambled) (exit : List ℕ) : Type 0 where
  pub answered : r.answer ≡ answer (frame_send_refusals end state kind count os a b vendor frame)
  pub next : r.state ≡ held r.answer state (after_of scramble (tap_of end) state (clocked (frame_octets kind count (numbers_of os) a b vendor)))
  pub left : exit ≡ held r.answer frame (frame_out scramble (record { end = end; state = state }) (frame_octets kind count (numbers_of os) a b vendor))
  pub check_right : r.answer ≡ 0 → RightCheck (bits_of (frame_octets kind count (numbers_of os) a b vendor))
