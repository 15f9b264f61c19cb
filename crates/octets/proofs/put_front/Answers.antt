-- `octets::put_front` meets its contract.
use mathlib.Core.Path.{◌≡◌, ap₂, ◌∙◌}
use Prim.Native.Nat.{ℕ, ◌+◌, ◌*◌}
use native.Mathlib.Omega.{arith}
use Rattle.octets.specs.Bits.{digits_of, laid}
use Rattle.octets.proofs.put_front.Goals as goal

pub returns : goal.returns
returns c =
    let a = c.args in
    let e : 8 * a.i + 0 ≡ 8 * a.i = omega arith in
    c.put_part.ensures ∙ ap₂ (λ (p n : ℕ). laid a.s.now p (digits_of n a.v)) e c.min.ensures
