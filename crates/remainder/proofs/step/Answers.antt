-- `remainder::step` meets its contract.
use mathlib.Core.Path.{◌≡◌}
use Prim.Native.Nat.{ℕ, zero, suc, ◌-◌, ◌*◌, ◌/◌, ◌%◌, ◌^◌, ◌≤◌, ◌<◌}
use native.Mathlib.Nat.{mod-lt}
use native.Mathlib.Omega.{arith}
use lib.Bits.{bit_xor, xor_lt}
use lib.Pow.{pow_pos, pow_mono}
use Rattle.remainder.proofs.Division.{top_lt}
use Rattle.remainder.proofs.step.Goals as goal

-- 2 to the degree, as the code shifts it, fits
size_is : (c : goal.Start) → 1 * 2 ^ c.args.degree % 2 ^ 32 ≡ 2 ^ c.args.degree
size_is c = let h : c.args.degree ≤ 16 = c.requires.1 in omega (arith, pow_mono h)

few : (b n : ℕ) → b < 2 → n < 2 ^ 32 → b * n < 2 ^ 32
few zero n h l = omega arith
few (suc zero) n h l = omega arith
few (suc (suc b)) n h l = absurd (omega arith)

pub overflow_mul-result-2 : goal.overflow_mul-result-2
overflow_mul-result-2 c =
    let a = c.args in
    let top = a.register / 2 ^ (a.degree - 1) in
    let size = 1 * 2 ^ a.degree % 2 ^ 32 in
    let r : a.generator % size < size = mod-lt a.generator (omega (arith, size_is c, pow_pos a.degree)) in
    record { fits = few (bit_xor top a.bit) (a.generator % size) (xor_lt 1 top a.bit (top_lt a.degree a.register c.requires.0 c.requires.2) c.requires.3) (omega arith) }
