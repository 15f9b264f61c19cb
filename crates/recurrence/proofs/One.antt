-- One result per call, and the order of the checks. Assumes nothing.
use mathlib.Core.Path.{◌≡◌, refl, sym, ap, ◌∙◌}
use mathlib.Core.Bool.{true}
use mathlib.Core.List.{List}
use Prim.Native.Nat.{ℕ}
use Rattle.std.specs.Prelude.{Result}
use Rattle.answer.specs.Answer.{held, in_order}
use Rattle.answer.specs.declared.Refused.{Refused}
use Rattle.answer.proofs.Given.{value-one}
use Rattle.octets.specs.Bits.{bits_of, part, laid}
use Rattle.recurrence.specs.Run.{run_of}
use Rattle.recurrence.specs.declared.Way.{Way}
use Rattle.recurrence.specs.Promises.{step_refusals, StepPromise, run_refusals, RunPromise}
use Rattle.recurrence.specs.declared.Stepped.{Stepped}

pub step-one : (way : Way) (tap state bit : ℕ) (r r' : Result Stepped Refused) → StepPromise way tap state bit r → StepPromise way tap state bit r' → r ≡ r'
step-one way tap state bit r r' p q = value-one _ r r' (p.answered ∙ sym q.answered) p.next q.next

pub step-order : (tap state bit : ℕ) → in_order 1 (step_refusals tap state bit) ≡ true
unfolding in_order
step-order tap state bit = refl

module _ (way : Way) (tap state : ℕ) (input : List ℕ) (at bits : ℕ) (output : List ℕ) where
  pub run-one : (r r' : Result ℕ Refused) (t t' : List ℕ) → RunPromise way tap state input at bits output r t → RunPromise way tap state input at bits output r' t'
      → (r ≡ r') × (t ≡ t')
  run-one r r' t t' p q =
      let F = part at bits (bits_of input) in
      let e = p.answered ∙ sym q.answered in
      (value-one _ r r' e p.next q.next, p.left ∙ ap (λ (k : ℕ). held k output (laid output at (run_of way tap state F))) e ∙ sym q.left)

  pub run-order : in_order 1 (run_refusals tap state input at bits) ≡ true
  unfolding in_order
  run-order = refl
