-- `octets::bit` meets its contract.
use mathlib.Core.Path.{◌≡◌, sym, ◌∙◌}
use Prim.Native.Nat.{◌+◌, ◌*◌}
use native.Mathlib.Omega.{arith}
use Rattle.octets.specs.Bits.{value_of, bits_of, bit_of}
use Rattle.octets.proofs.Digits.{value-head}
use Rattle.octets.proofs.Laws.{part-lt}
use Rattle.octets.proofs.bit.Goals as goal

pub overflow_cast-result : goal.overflow_cast-result
overflow_cast-result c =
    let a = c.args in
    omega (arith, c.bits.ensures, part-lt a.s.now (a.at + a.k) 1)

pub returns : goal.returns
unfolding value_of
returns c =
    let a = c.args in
    let e : 0 * 2 + bit_of a.s.now (a.at + a.k) ≡ bit_of a.s.now (a.at + a.k) = omega arith in
    c.bits.ensures ∙ sym (value-head (bits_of a.s.now) (a.at + a.k) 0) ∙ e
