-- `remainder::six_after` meets its contract: the digits that stand for the bits, and the register that they leave.
use borrow.Author.Tests.{ltb-true, not-false}
use mathlib.Core.Path.{◌≡◌, sym, ap, subst, ◌∙◌}
use Prim.Native.Nat.{ℕ, ◌+◌, ◌-◌, ◌*◌, ◌%◌, ◌^◌, ◌<◌}
use native.Mathlib.Omega.{arith}
use lib.Dec.{lit≤, lit<}
use lib.ListN.{length}
use Rattle.octets.specs.Bits.{digits_of, bits_of, part}
use Rattle.octets.proofs.Digits.{digits-bits, turned_lt}
use Rattle.octets.proofs.Laws.{bits-length}
use Rattle.octets.proofs.Turn.{turn_of, turn-turn}
use Rattle.remainder.specs.Register.{register_of}
use Rattle.remainder.proofs.Period.{six-degree, zero-first}
use Rattle.remainder.proofs.Quotient.{register-none, register-lt}
use Rattle.remainder.proofs.six_after.Goals as goal

pub returns-then-n-eq0 : goal.returns-then-n-eq0
returns-then-n-eq0 c =
    let a = c.args in
    register-none 6 67 (lit≤ tt) six-degree a.start
    ∙ ap (λ (n : ℕ). register_of 6 67 a.start (part a.at n (bits_of a.s.now))) (sym c.if-n-eq0.true)

pub stands_for-x-requires : goal.stands_for-x-requires
stands_for-x-requires c =
    let a = c.args in
    let n : a.n ≡ 0 → ⊥ = c.if-n-eq0.false in
    let there : a.at + (a.n - 1) < length (bits_of a.s.now) = ltb-true _ _ (sym c.has.ensures ∙ not-false _ c.if-not-has.false-raw) in
    (c.requires, omega (arith, bits-length a.s.now))

-- the 63 digits after a zero
abbrev word : ℕ → ℕ
word x = x * 2 ^ 1 % 2 ^ 64

pub overflow_cast-six_settled : goal.overflow_cast-six_settled
overflow_cast-six_settled c =
    let s = c.six_settled in
    let lt : s.result < 2 ^ 6 =
    subst (λ (x : ℕ). x < 2 ^ 6) (sym s.ensures) (turned_lt 6 (register_of 6 67 0 (digits_of 64 (word c.stands_for-x.result)))) in
    omega arith

pub returns : goal.returns
returns c =
    let x = c.stands_for-x in
    let R = register_of 6 67 0 (digits_of 64 (word x.result)) in
    let h : x.result < 2 ^ 63 = x.ensures.0 in
    let e : word x.result ≡ x.result * 2 = omega arith in
    c.turned.ensures ∙ ap (turn_of 6) c.six_settled.ensures
    ∙ turn-turn 6 R (register-lt 6 67 (lit≤ tt) six-degree 0 (digits_of 64 (word x.result)) (lit< tt) (digits-bits 64 (word x.result)))
    ∙ ap (λ (y : ℕ). register_of 6 67 0 (digits_of 64 y)) e ∙ zero-first 6 67 63 x.result ∙ sym x.ensures.1
