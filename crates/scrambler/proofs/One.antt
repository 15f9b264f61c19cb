-- One result per call, and the order of the checks. Assumes nothing.
use mathlib.Core.Path.{◌≡◌, refl, sym, ap, ◌∙◌}
use mathlib.Core.Bool.{true}
use mathlib.Core.List.{List}
use Prim.Native.Nat.{ℕ}
use Rattle.std.specs.Prelude.{Result}
use Rattle.answer.specs.Answer.{held, in_order}
use Rattle.answer.specs.declared.Refused.{Refused}
use Rattle.answer.proofs.Given.{value-one}
use Rattle.octets.specs.Bits.{bits_of, part, laid}
use Rattle.scrambler.specs.Ends.{tap_of}
use Rattle.recurrence.specs.Run.{run_of}
use Rattle.recurrence.specs.declared.Way.{Way}
use Rattle.scrambler.specs.declared.Scrambler.{Scrambler}
use Rattle.scrambler.specs.declared.Step.{Step}
use Rattle.scrambler.specs.Promises.{StartPromise, step_refusals, StepPromise, run_refusals, RunPromise, frame_refusals, frame_out, FramePromise}

pub tap-one : (end r r' : ℕ) → r ≡ tap_of end → r' ≡ tap_of end → r ≡ r'
tap-one end r r' p q = p ∙ sym q

pub start-one : (end : ℕ) (r r' : Result Scrambler Refused) → StartPromise end r → StartPromise end r' → r ≡ r'
start-one end r r' p q = value-one _ r r' (p.answered ∙ sym q.answered) p.next q.next

-- scramble and descramble
pub step-one : (way : Way) (x : Scrambler) (bit : ℕ) (r r' : Result Step Refused) → StepPromise way x bit r → StepPromise way x bit r' → r ≡ r'
step-one way x bit r r' p q = value-one _ r r' (p.answered ∙ sym q.answered) p.next q.next

pub step-order : (x : Scrambler) (bit : ℕ) → in_order 1 (step_refusals x bit) ≡ true
unfolding in_order
step-order x bit = refl

-- scramble_run and descramble_run
module _ (way : Way) (x : Scrambler) (input : List ℕ) (bits : ℕ) (output : List ℕ) where
  pub run-one : (r r' : Result Scrambler Refused) (t t' : List ℕ) → RunPromise way x input bits output r t → RunPromise way x input bits output r' t'
      → (r ≡ r') × (t ≡ t')
  run-one r r' t t' p q =
      let F = part 0 bits (bits_of input) in
      let e = p.answered ∙ sym q.answered in (
        value-one _ r r' e p.next q.next,
        p.left ∙ ap (λ (k : ℕ). held k output (laid output 0 (run_of way (tap_of x.end) x.state F))) e ∙ sym q.left,
      )

  pub run-order : in_order 1 (run_refusals x input bits output) ≡ true
  unfolding in_order
  run-order = refl

-- descramble_frame
module _ (way : Way) (x : Scrambler) (frame output : List ℕ) where
  pub frame-one : (r r' : Result Scrambler Refused) (t t' : List ℕ) → FramePromise way x frame output r t → FramePromise way x frame output r' t'
      → (r ≡ r') × (t ≡ t')
  frame-one r r' t t' p q =
      let e = p.answered ∙ sym q.answered in
      (value-one _ r r' e p.next q.next, p.left ∙ ap (λ (k : ℕ). held k output (frame_out way x frame)) e ∙ sym q.left)

  pub frame-order : in_order 1 (frame_refusals x frame output) ≡ true
  unfolding in_order
  frame-order = refl
