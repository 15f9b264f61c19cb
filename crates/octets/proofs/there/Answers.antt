-- `octets::there` meets its contract.
use borrow.Author.Tests.{ltb-true, ltb-false}
use mathlib.Core.Path.{sym, ◌∙◌}
use Prim.Native.Nat.{◌+◌, ◌≤◌}
use native.Mathlib.Omega.{arith}
use lib.ListN.{length}
use Rattle.octets.specs.Bits.{bits_of}
use Rattle.octets.proofs.Laws.{bits-length}
use Rattle.octets.proofs.there.Goals as goal

pub returns-then-has : goal.returns-then-has
returns-then-has c =
    let a = c.args in
    omega (arith, bits-length a.s.now, ltb-true (a.from + a.n) (length (bits_of a.s.now)) (sym c.has.ensures ∙ c.if-has.true))

-- there is no bit behind the last of the bits
short : (c : goal.Else-s-from) → length (bits_of c.args.s.now) ≤ c.args.from + c.args.n
short c = ltb-false _ _ (sym c.has.ensures ∙ c.if-has.false)

pub overflow_mul-result : goal.overflow_mul-result
overflow_mul-result c = omega (arith, short c, bits-length c.args.s.now)

pub overflow_cast-result : goal.overflow_cast-result
overflow_cast-result c = omega (arith, short c, bits-length c.args.s.now)

pub returns : goal.returns
returns c = omega (arith, short c, bits-length c.args.s.now)
