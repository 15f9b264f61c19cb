-- `remainder::joined` meets its contract.
use mathlib.Core.Path.{◌∙◌}
use Prim.Native.Nat.{◌-◌, ◌*◌, ◌/◌, ◌%◌, ◌^◌, ◌<◌}
use native.Mathlib.Omega.{arith}
use lib.Bits.{bit_or, or_lt}
use lib.Dec.{lit≤}
use lib.Pow.{shr_le}
use Rattle.remainder.proofs.Errors.{generator-degree}
use Rattle.remainder.specs.Division.{generator}
use Rattle.remainder.proofs.Quotient.{moved_up}
use Rattle.remainder.proofs.joined.Goals as goal

pub returns : goal.returns
returns c =
    let a = c.args in
    let B = a.x / 2 ^ a.n in
    let high = bit_or (a.t * 2 ^ (64 - a.n) % 2 ^ 64) B in
    let lt : high < 2 ^ 64 = or_lt 64 (a.t * 2 ^ (64 - a.n) % 2 ^ 64) B (omega arith) (omega (arith, shr_le a.x a.n)) in
    moved_up 16 generator (lit≤ tt) generator-degree a.x a.t a.n c.requires.0 c.requires.1 (omega arith) ∙ c.folded.ensures high lt
