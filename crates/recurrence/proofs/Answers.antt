-- What the answer of a run says. Assumes nothing.
use mathlib.Core.Path.{◌≡◌, ap, ◌∙◌}
use mathlib.Core.List.{List}
use Prim.Native.Nat.{ℕ, ◌+◌, ◌*◌, ◌^◌, ◌≤◌, ◌<◌}
use native.Mathlib.Omega.{arith}
use borrow.Author.Tests.{le-ltb, lt-leb, ne_eqb}
use lib.ListN.{length, drop}
use Rattle.std.specs.Prelude.{Result, Ok, Err}
use Rattle.answer.specs.Answer.{answer}
use Rattle.answer.specs.declared.Refused.{Refused}
use Rattle.answer.proofs.Laws.{passed}
use Rattle.answer.proofs.Given.{refused-number}
use Rattle.octets.specs.Bits.{bits_of, part, laid}
use Rattle.recurrence.specs.Run.{run_of, after_of}
use Rattle.recurrence.specs.declared.Way.{Way}
use Rattle.recurrence.specs.Promises.{run_refusals, RunPromise}

module _ (tap state : ℕ) (input : List ℕ) (at bits : ℕ) where
  -- nothing else is refused
  pub run-complete : 1 ≤ tap → tap ≤ 23 → state < 2 ^ 23 → at + bits ≤ 8 * length input → answer (run_refusals tap state input at bits) ≡ 0
  run-complete h l s r =
      let R = run_refusals tap state input at bits in
      passed 1 (drop 1 R) (le-ltb _ _ r) ∙ passed 4 (drop 2 R) (ne_eqb tap 0 (λ e. omega arith)) ∙ passed 4 (drop 3 R) (le-ltb 23 tap l)
      ∙ passed 4 (drop 4 R) (lt-leb _ _ s)

  -- what a run gives that is not refused
  module _ (way : Way) (output : List ℕ) (t : List ℕ) (z : answer (run_refusals tap state input at bits) ≡ 0) where
    pub run-given : (r : Result ℕ Refused) → RunPromise way tap state input at bits output r t
        → (r ≡ Ok (after_of way tap state (part at bits (bits_of input)))) × (t ≡ laid output at (run_of way tap state (part at bits (bits_of input))))
    run-given (Ok s) p = (ap Ok p.next, p.left)
    run-given (Err e) p = let n = refused-number e in absurd (omega (arith, p.answered ∙ z))
