-- One result per call, and the order of the checks. Assumes nothing.
use mathlib.Core.Path.{◌≡◌, refl, sym, ap, ◌∙◌}
use mathlib.Core.Bool.{true}
use mathlib.Core.List.{List}
use Prim.Native.Nat.{ℕ}
use lib.IntN.{ℤ}
use Rattle.std.specs.Prelude.{Result}
use Rattle.answer.specs.Answer.{held, in_order}
use Rattle.answer.specs.declared.Refused.{Refused}
use Rattle.answer.proofs.Given.{value-one}
use Rattle.recurrence.specs.declared.Way.TheVariants.{Scramble as scramble}
use Rattle.scrambler.specs.Promises.{frame_out}
use Rattle.scrambler.specs.declared.Scrambler.{Scrambler}
use Rattle.sender.specs.Promises.{frame_octets, send_refusals, Sent}

module _ (x : Scrambler) (kind count : ℕ) (cs : List ℤ) (a b : ℕ) (vendor frame : List ℕ) where
  pub send-one : (r r' : Result Scrambler Refused) (t t' : List ℕ) → Sent x kind count cs a b vendor frame r t → Sent x kind count cs a b vendor frame r' t'
      → (r ≡ r') × (t ≡ t')
  send-one r r' t t' p q =
      let F = frame_octets kind count cs a b vendor in
      let e = p.answered ∙ sym q.answered in
      (value-one _ r r' e p.next q.next, p.left ∙ ap (λ (k : ℕ). held k frame (frame_out scramble x F)) e ∙ sym q.left)

  pub send-order : in_order 1 (send_refusals x kind count cs a b vendor frame) ≡ true
  unfolding in_order
  send-order = refl
