-- What the exported scrambler promises: that of the crate, with the answer and the next state as two numbers.
use Rattle.std.specs.Prelude.{◌≡◌, List, [], ◌∷◌, ℕ, Result, Ok, Err}
use Rattle.answer.specs.Answer.{answer, held}
use Rattle.answer.specs.Given.{number_of}
use Rattle.answer.specs.declared.Refused.{Refused}
use Rattle.octets.specs.Bits.{laid}
use Rattle.recurrence.specs.Run.{out_of, next_of, run_of, after_of}
use Rattle.recurrence.specs.declared.Way.{Way}
use Rattle.recurrence.specs.declared.Way.TheVariants.{Descramble as descramble}
use Rattle.scrambler.specs.Ends.{tap_of}
use Rattle.scrambler.specs.Promises.{unknown_end, step_refusals, given, run_refusals, frame_refusals, clocked, frame_out}
use Rattle.scrambler.specs.declared.Scrambler.{Scrambler}
use Rattle.scrambler.specs.declared.Step.{Step}
use Rattle.host.specs.declared.scrambling.Scrambled.{Scrambled}
use Rattle.host.specs.declared.scrambling.ScrambledBit.{ScrambledBit}

-- struct sdsl_scrambled: what a start or a run from a state gives, as it crosses; a refused call hands the state back
abbrev pub crossing : ℕ → Result Scrambler Refused → Scrambled
crossing state (Ok next) = record { answer = 0; state = next.state }
crossing state (Err e) = record { answer = number_of e; state = state }

-- struct sdsl_scrambled_bit: what a step gives, as it crosses
abbrev pub bit_crossing : ℕ → Result Step Refused → ScrambledBit
bit_crossing state (Ok step) = record { answer = 0; bit = step.bit; state = step.next.state }
bit_crossing state (Err e) = record { answer = number_of e; bit = 0; state = state }

-- a scrambler with the end and the state that came in
abbrev pub scrambler_in : ℕ → ℕ → Scrambler
scrambler_in end state = record { end = end; state = state }

-- sdsl_scrambler_start
abbrev pub ScramblerStarted : ℕ → Scrambled → Type 0
ScramblerStarted end r = r ≡ record { answer = answer (unknown_end end ∷ []); state = 0 }

-- sdsl_scramble_bit, sdsl_descramble_bit: the bit that comes out and the next state, or 0 and the same state
abbrev pub BitScrambled : Way → ℕ → ℕ → ℕ → ScrambledBit → Type 0
BitScrambled way end state bit r =
    r ≡ record {
      answer = answer (step_refusals (scrambler_in end state) bit);
      bit = held (answer (step_refusals (scrambler_in end state) bit)) 0 (out_of (tap_of end) state bit);
      state = held (answer (step_refusals (scrambler_in end state) bit)) state (next_of way (tap_of end) state bit);
    }

-- sdsl_scramble, sdsl_descramble: the next state, and the output, whose bits past the count stay
pub record ScrambledRun (way : Way) (end state : ℕ) (input : List ℕ) (bits : ℕ) (output : List ℕ) (r : Scrambled) (exit : List ℕ) : Type 0 where
  pub answered : r.answer ≡ answer (run_refusals (scrambler_in end state) input bits output)
  pub next : r.state ≡ held r.answer state (after_of way (tap_of end) state (given input bits))
  pub left : exit ≡ held r.answer output (laid output 0 (run_of way (tap_of end) state (given input bits)))

-- sdsl_descramble_frame: the next state, and the frame
pub record FrameDescrambled (end state : ℕ) (frame output : List ℕ) (r : Scrambled) (exit : List ℕ) : Type 0 where
  pub answered : r.answer ≡ answer (frame_refusals (scrambler_in end state) frame output)
  pub next : r.state ≡ held r.answer state (after_of descramble (tap_of end) state (clocked frame))
  pub left : exit ≡ held r.answer output (frame_out descramble (scrambler_in end state) frame)
