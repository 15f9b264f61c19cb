-- `bitfields::turned` meets its contract. After k turns r has the k low digits of v, the other end first.
use mathlib.Core.Path.{◌≡◌, sym, ap, subst, ◌∙◌}
use mathlib.Core.List.{reverse}
use Prim.Native.Nat.{ℕ, ◌+◌, ◌*◌, ◌%◌, ◌^◌, ◌≤◌, ◌<◌, min}
use native.Mathlib.Nat.{div-one}
use native.Mathlib.Omega.{arith}
use lib.Pow.{pow_mono}
use Rattle.octets.specs.Bits.{digits_of, value_of}
use Rattle.octets.proofs.Digits.{turned-next, rest-next, turned_lt, turned_none}
use Rattle.bitfields.proofs.turned.Goals as goal

pub loop-init : goal.loop-init
loop-init c =
    let a = c.args in
    (omega arith, omega arith, sym (div-one a.v), turned_none a.v)

-- r with one digit more, and that it fits
next : (c : goal.In-loop)
    → let a = c.args in let l = c.loop in
    l.r * 2 + l.rest % 2 ≡ value_of (reverse (digits_of (l.counter + 1) a.v))
next c =
    let a = c.args in
    let l = c.loop in
    ap (λ (x : ℕ). x * 2 + l.rest % 2) l.invariant.3 ∙ turned-next a.v l.counter l.invariant.2

fits : (c : goal.In-loop) → c.loop.r * 2 + c.loop.rest % 2 < 2 ^ 32
fits c =
    let a = c.args in
    let k = c.loop.counter in
    let h : k + 1 ≤ 32 = omega arith in
    subst (λ (x : ℕ). x < 2 ^ 32) (sym (next c)) (omega (arith, turned_lt (k + 1) a.v, pow_mono h))

pub overflow_mul-r : goal.overflow_mul-r
overflow_mul-r c = omega (arith, fits c)

pub overflow_add-r : goal.overflow_add-r
overflow_add-r c = omega (arith, fits c)

pub loop-preserved : goal.loop-preserved
loop-preserved c =
    let l = c.loop in
    (omega arith, omega arith, rest-next _ l.counter l.invariant.2, next c)

pub returns : goal.returns
returns c =
    let a = c.args in
    let l = c.loop in
    let e : l.counter ≡ min a.w 32 = omega arith in
    l.invariant.3 ∙ ap (λ (k : ℕ). value_of (reverse (digits_of k a.v))) e
