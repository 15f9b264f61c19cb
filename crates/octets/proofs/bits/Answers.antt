-- `octets::bits` meets its contract.
use mathlib.Core.Path.{◌≡◌, ap, ap₂, ◌∙◌}
use Prim.Native.Nat.{ℕ, ◌+◌, ◌*◌, ◌/◌, ◌%◌, ◌^◌, ◌≤◌}
use native.Mathlib.Omega.{arith}
use Rattle.octets.specs.Bits.{value_of, bits_of, part}
use Rattle.octets.proofs.Laws.{bits-bits}
use Rattle.octets.proofs.Words.{size_is, bits_in}
use Rattle.octets.proofs.bits.Goals as goal

-- the size that the length gives
size : (c : goal.After-word) → 1 * 2 ^ c.min-m.result % 2 ^ 64 ≡ 2 ^ c.min-m.result
size c = size_is c.min-m.result (omega (arith, c.min-m.ensures))

pub returns : goal.returns
returns c =
    let a = c.args in
    let s = a.s.now in
    let m = c.min-m in
    let j = a.at % 8 + a.k in
    let i = a.at / 8 + j / 8 in
    let le : m.result ≤ 56 = omega (arith, m.ensures) in
    let e : 8 * i + j % 8 ≡ a.at + a.k = omega arith in
    ap₂ (λ (x z : ℕ). x / 2 ^ (j % 8) % z) c.word.ensures (size c)
    ∙ bits_in (bits_of s) (bits-bits s) (8 * i) (j % 8) m.result (a.at + a.k) e (omega arith)
    ∙ ap (λ (n : ℕ). value_of (part (a.at + a.k) n (bits_of s))) m.ensures
