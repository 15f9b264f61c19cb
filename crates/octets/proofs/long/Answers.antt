-- `octets::long` meets its contract.
use mathlib.Core.Path.{ap₂, ◌∙◌}
use Prim.Native.Nat.{ℕ, ◌+◌, ◌-◌, ◌*◌, ◌/◌, ◌%◌, ◌^◌}
use native.Mathlib.Omega.{arith}
use lib.Bits.{bit_or}
use Rattle.octets.proofs.Words.{long-is}
use Rattle.octets.proofs.long.Goals as goal

pub returns : goal.returns
returns c =
    let a = c.args in
    let j = a.at % 8 + a.k in
    ap₂ (λ (x y : ℕ). bit_or (x * 2 ^ (63 - j % 8) % 2 ^ 64 * 2 ^ 1 % 2 ^ 64) (y / 2 ^ (j % 8))) c.word.ensures c.word-2.ensures
    ∙ long-is a.s.now (a.at / 8 + j / 8) (j % 8) (a.at + a.k) (omega arith) (omega arith)
