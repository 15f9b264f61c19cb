-- `bitfields::field` meets its contract.
use mathlib.Core.Path.{◌≡◌, sym, ap₂, subst, ◌∙◌}
use Prim.Native.Nat.{ℕ, ◌+◌, ◌^◌, ◌≤◌, ◌<◌, min}
use native.Mathlib.Omega.{arith}
use lib.Pow.{pow_mono}
use Rattle.octets.specs.Bits.{bits_of, value_of, part}
use Rattle.octets.proofs.Laws.{part-lt}
use Rattle.bitfields.proofs.field.Goals as goal

-- what is read, by the width as it counts
read : (c : goal.After-bits) → c.bits.result ≡ value_of (part c.args.at (min c.args.w 32) (bits_of c.args.s.now))
read c =
    let a = c.args in
    let p : a.at + 0 ≡ a.at = omega arith in
    let n : min c.min.result 56 ≡ min a.w 32 = omega (arith, c.min.ensures) in
    c.bits.ensures ∙ ap₂ (λ (x k : ℕ). value_of (part x k (bits_of a.s.now))) p n

pub overflow_cast-result : goal.overflow_cast-result
overflow_cast-result c =
    let a = c.args in
    let m : min a.w 32 ≤ 32 = omega arith in
    let l = part-lt a.s.now a.at (min a.w 32) in
    record { fits = subst (λ (x : ℕ). x < 2 ^ 32) (sym (read c)) (omega (arith, pow_mono m)) }
