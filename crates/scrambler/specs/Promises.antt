-- What the scrambler's functions promise.
use Rattle.std.specs.Prelude.{◌≡◌, not, List, [], ◌∷◌, ◌++◌, ℕ, ◌-◌, ◌*◌, eqb, ltb, length, replicate, Result, IfOk}
use Rattle.answer.specs.Answer.{Refusal, refuse, wrong_length, answer, held}
use Rattle.answer.specs.Given.{answer_of}
use Rattle.answer.specs.declared.Refused.{Refused}
use Rattle.octets.specs.Bits.{value_of, bits_of, octets_of, part, laid}
use Rattle.layout.specs.Places.{pad_width, frame_length, place_of, sync_field, coefficients_field, pad_field}
use Rattle.layout.specs.Frame.{field_of}
use Rattle.scrambler.specs.Ends.{ntu, tap_of}
use Rattle.recurrence.specs.Promises.{wide_state}
use Rattle.recurrence.specs.Promises as OnLine
use Rattle.recurrence.specs.Run.{out_of, next_of, run_of, after_of}
use Rattle.recurrence.specs.declared.Way.{Way}
use Rattle.scrambler.specs.declared.Scrambler.{Scrambler}
use Rattle.scrambler.specs.declared.Step.{Step}

-- an unknown end is 2
abbrev pub unknown_end : ℕ → Refusal
unknown_end end = refuse 2 (ltb ntu end)

-- Scrambler::start: the starting state is 0
pub record StartPromise (end : ℕ) (r : Result Scrambler Refused) : Type 0 where
  pub answered : answer_of r ≡ answer (unknown_end end ∷ [])
  pub next : IfOk r (λ y. y ≡ record { end = end; state = 0 })

-- a step: a bit over 1 is 4 too
abbrev pub step_refusals : Scrambler → ℕ → List Refusal
step_refusals x bit = unknown_end x.end ∷ wide_state x.state ∷ refuse 4 (ltb 1 bit) ∷ []

-- Scrambler::scramble and Scrambler::descramble: the bit that comes out and the next state
pub record StepPromise (way : Way) (x : Scrambler) (bit : ℕ) (r : Result Step Refused) : Type 0 where
  pub answered : answer_of r ≡ answer (step_refusals x bit)
  pub next : IfOk r (λ s. s ≡ record {
    bit = out_of (tap_of x.end) x.state bit;
    next = record { end = x.end; state = next_of way (tap_of x.end) x.state bit };
  })

-- the bits of a run: the first so many of the input
abbrev pub given : List ℕ → ℕ → List ℕ
given input bits = part 0 bits (bits_of input)

-- a run: a count over eight times the length, or unequal lengths, is 1
abbrev pub run_refusals : Scrambler → List ℕ → ℕ → List ℕ → List Refusal
run_refusals x input bits output =
    refuse 1 (ltb (8 * length input) bits) ∷ refuse 1 (not (eqb (length input) (length output))) ∷ unknown_end x.end ∷ wide_state x.state ∷ []

-- Scrambler::scramble_run and Scrambler::descramble_run: the next state, and the output, whose bits past the count stay
pub record RunPromise (way : Way) (x : Scrambler) (input : List ℕ) (bits : ℕ) (output : List ℕ) (r : Result Scrambler Refused) (exit : List ℕ) : Type 0 where
  pub answered : answer_of r ≡ answer (run_refusals x input bits output)
  pub next : IfOk r (λ y. y ≡ record { end = x.end; state = after_of way (tap_of x.end) x.state (given input bits) })
  pub left : exit ≡ held (answer_of r) output (laid output 0 (run_of way (tap_of x.end) x.state (given input bits)))

-- a whole frame: lengths, the end, the state, then the pad (6)
abbrev pub frame_refusals : Scrambler → List ℕ → List ℕ → List Refusal
frame_refusals x frame output =
    wrong_length frame frame_length ∷ wrong_length output frame_length ∷ unknown_end x.end ∷ wide_state x.state
    ∷ refuse 6 (not (eqb (value_of (field_of pad_field (bits_of frame))) 0)) ∷ []

-- the bits of a frame that clock the state: 15 to 4,227
abbrev pub clocked : List ℕ → List ℕ
clocked frame = part (place_of coefficients_field) (place_of pad_field - place_of coefficients_field) (bits_of frame)

-- for Scrambler::clocked and the sender, and no public promise names it: sync is laid into the output, and the line's run behind it
abbrev pub ClockedPromise : Way → Scrambler → List ℕ → List ℕ → Result ℕ Refused → List ℕ → Type 0
ClockedPromise way x frame output r exit =
    OnLine.RunPromise way (tap_of x.end) x.state frame (place_of coefficients_field) (place_of pad_field - place_of coefficients_field)
    (laid output 0 (field_of sync_field (bits_of frame))) r exit

-- a frame's 14 sync bits straight through, these bits for the rest, and the pad zero
abbrev pub around : List ℕ → List ℕ → List ℕ
around frame bits = octets_of frame_length (field_of sync_field (bits_of frame) ++ (bits ++ replicate pad_width 0))

-- the octets that come out
abbrev pub frame_out : Way → Scrambler → List ℕ → List ℕ
frame_out way x frame = around frame (run_of way (tap_of x.end) x.state (clocked frame))

-- what a whole frame comes to in a direction: Scrambler::descramble_frame's promise, and what sending a frame is built of
pub record FramePromise (way : Way) (x : Scrambler) (frame output : List ℕ) (r : Result Scrambler Refused) (exit : List ℕ) : Type 0 where
  pub answered : answer_of r ≡ answer (frame_refusals x frame output)
  pub next : IfOk r (λ y. y ≡ record { end = x.end; state = after_of way (tap_of x.end) x.state (clocked frame) })
  pub left : exit ≡ held (answer_of r) output (frame_out way x frame)
