-- From the frame written and scrambled to the promise. Assumes nothing.
use mathlib.Core.Path.{◌≡◌, refl, sym, ◌∙◌}
use mathlib.Core.Bool.{Bool, true, false}
use mathlib.Core.List.{List}
use Prim.Native.Nat.{ℕ, zero, suc}
use native.Mathlib.Omega.{arith}
use lib.IntN.{ℤ}
use lib.Dec.{ltb}
use Rattle.std.specs.Prelude.{Result, Err}
use Rattle.answer.specs.Answer.{answer}
use Rattle.answer.specs.Given.{number_of}
use Rattle.answer.specs.declared.Refused.{Refused}
use Rattle.answer.proofs.Given.{refused-number}
use Rattle.answer.proofs.Laws.{kept}
use Rattle.layout.specs.Refusals.{write_refusals}
use Rattle.recurrence.specs.declared.Way.TheVariants.{Scramble as scramble}
use Rattle.scrambler.specs.Promises.{frame_refusals, FramePromise}
use Rattle.scrambler.specs.declared.Scrambler.{Scrambler}
use Rattle.sender.specs.Promises.{frame_octets, send_refusals, least_of, Sent}
use Rattle.sender.proofs.Promise.{frame-check}
use Rattle.sender.proofs.Together.{together}

-- where the least is 0, both are
least-none : (m n : ℕ) → least_of m n ≡ 0 → (m ≡ 0) × (n ≡ 0)
least-none zero n e = (refl, e)
least-none (suc m) zero e = absurd (omega arith)
least-none (suc m) (suc n) e = pick (ltb (suc n) (suc m)) e
  where
    pick : (t : Bool) → mathlib.Core.Bool.cond t (suc n) (suc m) ≡ 0 → (suc m ≡ 0) × (suc n ≡ 0)
    pick true e = absurd (omega arith)
    pick false e = absurd (omega arith)

module _ (x : Scrambler) (kind count : ℕ) (cs : List ℤ) (a b : ℕ) (vendor frame : List ℕ) where
  abbrev F : List ℕ
  F = frame_octets kind count cs a b vendor

  -- what is not refused by sending is refused neither by writing nor by scrambling
  pub neither : answer (send_refusals x kind count cs a b vendor frame) ≡ 0
      → (answer (write_refusals kind count cs a b vendor frame) ≡ 0) × (answer (frame_refusals x F frame) ≡ 0)
  neither z = least-none _ _ (sym (together x kind count cs a b vendor frame) ∙ z)

  pub refused-sent : (e : Refused) → number_of e ≡ answer (send_refusals x kind count cs a b vendor frame) → Sent x kind count cs a b vendor frame (Err e) frame
  refused-sent e h =
      let n = refused-number e in
      record {
        answered = h;
        next = tt;
        left = sym (kept (number_of e) frame _ (λ z. omega arith));
        check_right = λ z. absurd (omega arith);
      }

  pub frame-sent : answer (send_refusals x kind count cs a b vendor frame) ≡ 0 → (r : Result Scrambler Refused) (exit : List ℕ)
      → FramePromise scramble x F frame r exit → Sent x kind count cs a b vendor frame r exit
  frame-sent z r exit p =
      record {
        answered = p.answered ∙ (neither z).1 ∙ sym z;
        next = p.next;
        left = p.left;
        check_right = λ y. frame-check kind count cs a b vendor frame (neither z).0;
      }
