-- `highest::highest` meets its contract.
use native.Mathlib.Omega.{arith}
use Rattle.std.proofs.Common.{rules}
use Rattle.highest.proofs.NonZero.{highest-at, highest-none}
use Rattle.highest.proofs.highest.Goals as goal

pub returns-in-Some : goal.returns-in-Some
returns-in-Some c = omega (arith, highest-at c.args.cs.now c.in-Some.i (search rules) (search rules))

pub returns-in-None : goal.returns-in-None
returns-in-None c = highest-none c.args.cs.now (search rules)
