-- `octets::put_zeros` meets its contract.
use mathlib.Core.Path.{◌≡◌, ap, ◌∙◌}
use Prim.Native.Nat.{ℕ, ◌+◌}
use native.Mathlib.Omega.{arith}
use lib.ListN.{replicate}
use Rattle.octets.specs.Bits.{laid}
use Rattle.octets.proofs.Digits.{zeros-digits}
use Rattle.octets.proofs.Laws.{laid_none}
use Rattle.octets.proofs.put_zeros.Goals as goal

pub returns-then-n-ne0 : goal.returns-then-n-ne0
returns-then-n-ne0 c =
    let a = c.args in
    c.put_at.ensures ∙ ap (laid a.s.now (a.at + a.k)) (zeros-digits a.n)

pub returns-else-n-ne0 : goal.returns-else-n-ne0
returns-else-n-ne0 c =
    let a = c.args in
    let e : 0 ≡ a.n = omega arith in
    laid_none a.s.now (a.at + a.k) (λ i. omega (arith, c.slice_known-1.given i)) ∙ ap (λ (n : ℕ). laid a.s.now (a.at + a.k) (replicate n 0)) e
