-- `bitfields::put_field` meets its contract.
use mathlib.Core.Path.{◌≡◌, ap₂, ◌∙◌}
use Prim.Native.Nat.{ℕ, ◌+◌, min}
use native.Mathlib.Omega.{arith}
use Rattle.octets.specs.Bits.{digits_of, laid}
use Rattle.bitfields.proofs.put_field.Goals as goal

pub returns : goal.returns
returns c =
    let a = c.args in
    let w = c.min in
    let p : a.at + 0 ≡ a.at = omega arith in
    let n : min w.result 56 ≡ min a.w 32 = omega (arith, w.ensures) in
    rw (← c.from.ensures) c.put_bits.ensures ∙ ap₂ (λ (x k : ℕ). laid a.s.now x (digits_of k a.v)) p n
