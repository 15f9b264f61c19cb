-- `remainder::brought_round` meets its contract.
use mathlib.Core.Path.{◌≡◌, sym, ap, subst, ◌∙◌}
use Prim.Native.Nat.{ℕ, ◌-◌, ◌*◌, ◌/◌, ◌%◌, ◌^◌, ◌≤◌, ◌<◌}
use native.Mathlib.Nat.{mod-lt}
use native.Mathlib.Omega.{arith}
use lib.Bits.{bit_xor, bit_or}
use lib.Dec.{lit≤}
use lib.Pow.{pow_pos, shl_exact}
use Rattle.octets.specs.Bits.{digits_of}
use Rattle.octets.proofs.Words.{size_is}
use Rattle.remainder.specs.Register.{register_of}
use Rattle.remainder.proofs.Period.{six-degree, six-round, brought-lt, brought-is}
use Rattle.remainder.proofs.brought_round.Goals as goal

pub returns : goal.returns
returns c =
    let a = c.args in
    let n = a.n in
    let y = bit_xor a.x a.t in
    let h : n ≤ 63 = omega arith in
    let e : bit_or (y / 2 ^ n) (y % (1 * 2 ^ n % 2 ^ 64) * 2 ^ (63 - n) % 2 ^ 64) ≡ bit_or (y / 2 ^ n) (y % 2 ^ n * 2 ^ (63 - n)) =
    ap (bit_or (y / 2 ^ n))
    (ap (λ (z : ℕ). y % z * 2 ^ (63 - n) % 2 ^ 64) (size_is n h) ∙ shl_exact n (63 - n) 64 (mod-lt y (pow_pos n)) (omega arith)) in (
      subst (λ (z : ℕ). z < 2 ^ 63) (sym e) (brought-lt 6 67 63 (lit≤ tt) six-degree six-round a.x a.t n h c.requires.2 c.requires.3),
      brought-is 6 67 63 (lit≤ tt) six-degree six-round a.x a.t n h c.requires.2 c.requires.3 ∙ ap (λ (z : ℕ). register_of 6 67 0 (digits_of 63 z)) (sym e),
    )
