-- What sending a frame promises (SCOPE, "Sending a frame"): the fields, the end and the scrambler's state go in; the scrambled frame and the next state
-- come out.
use Rattle.std.specs.Prelude.{◌≡◌, cond, not, ◌&&◌, ◌||◌, List, [], ◌∷◌, ◌++◌, ℕ, zero, suc, eqb, ltb, ℤ, take, Result, IfOk}
use Rattle.answer.specs.Answer.{Refusal, refuse, wrong_length, answer, held}
use Rattle.answer.specs.Given.{answer_of}
use Rattle.answer.specs.declared.Refused.{Refused}
use Rattle.octets.specs.Bits.{bits_of, octets_of}
use Rattle.ranges.specs.Ranges.{coefficient_count, is_coefficient, is_word, every}
use Rattle.layout.specs.Places.{vendor_length, frame_length}
use Rattle.layout.specs.Frame.{training_bits, final_bits}
use Rattle.layout.specs.Refusals.{fewest, write_refusals, RightCheck}
use Rattle.recurrence.specs.Run.{after_of}
use Rattle.recurrence.specs.declared.Way.TheVariants.{Scramble as scramble}
use Rattle.recurrence.specs.Promises.{wide_state}
use Rattle.scrambler.specs.Ends.{tap_of}
use Rattle.scrambler.specs.Promises.{unknown_end, frame_refusals, clocked, frame_out}
use Rattle.scrambler.specs.declared.Scrambler.{Scrambler}

-- the frame's octets as they are written: of a training frame its fields, of a final frame vendor data only
abbrev pub frame_octets : ℕ → ℕ → List ℤ → ℕ → ℕ → List ℕ → List ℕ
frame_octets kind count cs a b vendor = octets_of frame_length (cond (eqb kind 0) (training_bits count cs a b vendor) (final_bits vendor))

-- "those of writing and of scrambling together, in number order": 1 the three lengths; 2 the kind and the end; of a training frame 3 the count, 4 the
-- coefficients in use, A and B; 4 the state
abbrev pub send_refusals : Scrambler → ℕ → ℕ → List ℤ → ℕ → ℕ → List ℕ → List ℕ → List Refusal
send_refusals x kind count cs a b vendor frame =
    wrong_length cs coefficient_count ∷ wrong_length vendor vendor_length ∷ wrong_length frame frame_length
    ∷ refuse 2 (ltb 1 kind)
    ∷ unknown_end x.end
    ∷ refuse 3 (eqb kind 0 && (ltb count fewest || ltb coefficient_count count))
    ∷ refuse 4 (eqb kind 0 && not (every is_coefficient (take count cs)))
    ∷ refuse 4 (eqb kind 0 && not (is_word a && is_word b))
    ∷ wide_state x.state ∷ []

-- send: the next state, that after the frame's clocked bits; and what goes out, the frame's octets scrambled. The check bits under the scrambling are
-- the remainder of the frame's message
pub record Sent (x : Scrambler) (kind count : ℕ) (cs : List ℤ) (a b : ℕ) (vendor frame : List ℕ) (r : Result Scrambler Refused) (exit : List ℕ) : Type 0 where
  pub answered : answer_of r ≡ answer (send_refusals x kind count cs a b vendor frame)
  pub next : IfOk r (λ y. y ≡ record {
    end = x.end;
    state = after_of scramble (tap_of x.end) x.state (clocked (frame_octets kind count cs a b vendor));
  })
  pub left : exit ≡ held (answer_of r) frame (frame_out scramble x (frame_octets kind count cs a b vendor))
  pub check_right : answer_of r ≡ 0 → RightCheck (bits_of (frame_octets kind count cs a b vendor))

-- of two answers the least that is not 0, and 0 where both are
abbrev pub least_of : ℕ → ℕ → ℕ
least_of zero n = n
least_of (suc m) zero = suc m
least_of (suc m) (suc n) = cond (ltb (suc n) (suc m)) (suc n) (suc m)

-- sending refuses what writing the frame refuses and what scrambling it refuses, and nothing else (theorem `together`)
abbrev pub Together : Type 0
Together =
    (x : Scrambler) (kind count : ℕ) (cs : List ℤ) (a b : ℕ) (vendor frame : List ℕ)
    → answer (send_refusals x kind count cs a b vendor frame)
    ≡ least_of (answer (write_refusals kind count cs a b vendor frame)) (answer (frame_refusals x (frame_octets kind count cs a b vendor) frame))

-- for the two parts of the code's checks, which no public promise names: of the fields' numbers, with at least so many coefficients in use,
abbrev pub field_refusals : ℕ → ℕ → List ℤ → ℕ → ℕ → List Refusal
field_refusals lowest count cs a b =
    refuse 3 (ltb count lowest || ltb coefficient_count count)
    ∷ refuse 4 (not (every is_coefficient (take count cs)))
    ∷ refuse 4 (not (is_word a && is_word b)) ∷ []

-- and of all numbers: the end before them, and the state behind
abbrev pub number_refusals : Scrambler → ℕ → ℕ → List ℤ → ℕ → ℕ → List Refusal
number_refusals x lowest count cs a b = unknown_end x.end ∷ field_refusals lowest count cs a b ++ wide_state x.state ∷ []
