-- From sender's promise to the exported one. Assumes nothing.
use mathlib.Core.Path.{◌≡◌, refl, ap, ◌∙◌}
use mathlib.Core.List.{List}
use Prim.Native.Nat.{ℕ}
use borrow.Author.Tests.{eq-eqb, ne_eqb}
use native.Mathlib.Omega.{arith}
use lib.ListN.{length}
use Rattle.std.specs.Prelude.{Result, Ok, Err}
use Rattle.answer.specs.declared.Refused.{Refused}
use Rattle.numbers.specs.Promises.{numbers_of}
use Rattle.scrambler.specs.declared.Scrambler.{Scrambler}
use Rattle.sender.specs.Promises.{Sent}
use Rattle.host.specs.Scrambling.{crossing}
use Rattle.host.specs.Sending.{FrameSent}
use Rattle.host.proofs.ScramblingLaws.{refused-kept}

module _ (end state kind count : ℕ) (os : List ℕ) (a b : ℕ) (vendor frame : List ℕ) where
  -- coefficients of another length
  pub not-sent : (length os ≡ 720 → ⊥) → FrameSent end state kind count os a b vendor frame (record { answer = 1; state = state }) frame
  not-sent n =
      record {
        answered = simp (ne_eqb _ _ n);
        next = refl;
        left = refl;
        check_right = λ z. absurd (omega arith);
      }

  -- the rest is sender's
  pub frame-sent : length os ≡ 720 → (r : Result Scrambler Refused) (exit : List ℕ)
      → Sent (record { end = end; state = state }) kind count (numbers_of os) a b vendor frame r exit
      → FrameSent end state kind count os a b vendor frame (crossing state r) exit
  frame-sent l (Ok y) exit p =
      record {
        answered = p.answered ∙ simp (eq-eqb _ _ l);
        next = ap (λ (s : Scrambler). s.state) p.next;
        left = p.left;
        check_right = p.check_right;
      }
  frame-sent l (Err e) exit p =
      record {
        answered = p.answered ∙ simp (eq-eqb _ _ l);
        next = refused-kept e state _;
        left = p.left;
        check_right = p.check_right;
      }
