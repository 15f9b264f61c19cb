-- `remainder::word_left` meets its contract.
use mathlib.Core.Path.{sym, subst}
use Prim.Native.Nat.{ℕ, ◌^◌, ◌<◌}
use native.Mathlib.Omega.{arith}
use lib.Dec.{lit≤}
use Rattle.octets.specs.Bits.{digits_of}
use Rattle.octets.proofs.Digits.{digits-bits, turned_lt}
use Rattle.remainder.specs.Division.{generator}
use Rattle.remainder.specs.Register.{register_of}
use Rattle.remainder.proofs.Division.{exists}
use Rattle.remainder.proofs.Errors.{generator-degree}
use Rattle.remainder.proofs.word_left.Goals as goal

pub overflow_cast-result : goal.overflow_cast-result
overflow_cast-result c =
    let s = c.settled in
    let R = register_of 16 generator 0 (digits_of 64 c.args.x) in
    let lt : s.result < 2 ^ 16 = subst (λ (x : ℕ). x < 2 ^ 16) (sym s.ensures) (turned_lt 16 R) in
    omega arith

pub returns : goal.returns
returns c =
    let D = digits_of 64 c.args.x in
    record {
      left = register_of 16 generator 0 D;
      divided = exists 16 generator (lit≤ tt) generator-degree D (digits-bits 64 c.args.x);
      turned = c.settled.ensures;
    }
