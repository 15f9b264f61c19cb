-- `octets::replaced` meets its contract.
use mathlib.Core.Path.{ap₂, ◌∙◌}
use Prim.Native.Nat.{ℕ, ◌+◌, ◌*◌, ◌/◌, ◌%◌, ◌^◌, ◌≤◌}
use native.Mathlib.Omega.{arith}
use lib.Bits.{bit_or}
use Rattle.octets.specs.Bits.{digits_of}
use Rattle.octets.proofs.Words.{size_is, replaced-is}
use Rattle.octets.proofs.replaced.Goals as goal

pub returns : goal.returns
returns c =
    let a = c.args in
    let h : a.r ≤ 63 = omega arith in
    ap₂ (λ (p q : ℕ). digits_of 64 (bit_or (a.x / 2 ^ (a.r + a.n) * 2 ^ (a.r + a.n) % 2 ^ 64) (bit_or (a.v % p * 2 ^ a.r % 2 ^ 64) (a.x % q))))
    (size_is a.n (omega arith)) (size_is a.r h)
    ∙ replaced-is a.x a.r a.n a.v c.requires (omega arith)
