-- What the functions on the line promise.
use Rattle.std.specs.Prelude.{◌≡◌, List, [], ◌∷◌, ℕ, ◌+◌, ◌*◌, ◌^◌, eqb, leb, ltb, length, Result, IfOk}
use Rattle.answer.specs.Answer.{Refusal, refuse, answer, held}
use Rattle.answer.specs.Given.{answer_of}
use Rattle.answer.specs.declared.Refused.{Refused}
use Rattle.octets.specs.Bits.{bits_of, part, laid}
use Rattle.recurrence.specs.Run.{out_of, next_of, run_of, after_of}
use Rattle.recurrence.specs.declared.Way.{Way}
use Rattle.recurrence.specs.declared.Stepped.{Stepped}

-- a state of 2^23 or more is 4
abbrev pub wide_state : ℕ → Refusal
wide_state state = refuse 4 (leb (2 ^ 23) state)

-- a step: a tap outside 1 to 23 is 4, and so is a state that is too wide, or a bit over 1
abbrev pub step_refusals : ℕ → ℕ → ℕ → List Refusal
step_refusals tap state bit = refuse 4 (eqb tap 0) ∷ refuse 4 (ltb 23 tap) ∷ wide_state state ∷ refuse 4 (ltb 1 bit) ∷ []

-- step: the bit that comes out and the next state
pub record StepPromise (way : Way) (tap state bit : ℕ) (r : Result Stepped Refused) : Type 0 where
  pub answered : answer_of r ≡ answer (step_refusals tap state bit)
  pub next : IfOk r (λ s. s ≡ record { bit = out_of tap state bit; state = next_of way tap state bit })

-- a run: more bits than the input has from the place on are 1
abbrev pub run_refusals : ℕ → ℕ → List ℕ → ℕ → ℕ → List Refusal
run_refusals tap state input at bits = refuse 1 (ltb (8 * length input) (at + bits)) ∷ step_refusals tap state 0

-- run: the next state, and the output, whose other bits stay
pub record RunPromise (way : Way) (tap state : ℕ) (input : List ℕ) (at bits : ℕ) (output : List ℕ) (r : Result ℕ Refused) (exit : List ℕ) : Type 0 where
  pub answered : answer_of r ≡ answer (run_refusals tap state input at bits)
  pub next : IfOk r (λ next. next ≡ after_of way tap state (part at bits (bits_of input)))
  pub left : exit ≡ held (answer_of r) output (laid output at (run_of way tap state (part at bits (bits_of input))))
