-- `remainder::settled` meets its contract.
use mathlib.Core.Path.{sym}
use native.Mathlib.Omega.{arith}
use Rattle.remainder.proofs.Quotient.{settled_is}
use Rattle.remainder.proofs.settled.Goals as goal

pub returns : goal.returns
returns c = sym (settled_is c.args.x (omega arith) c.fourth-c.result (omega arith) c.fourth-c.ensures)
