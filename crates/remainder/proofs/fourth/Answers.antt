-- `remainder::fourth` meets its contract.
use native.Mathlib.Omega.{arith}
use Rattle.remainder.proofs.Quotient.{fourth-is}
use Rattle.remainder.proofs.fourth.Goals as goal

pub returns : goal.returns
returns c = fourth-is c.args.x (omega arith)
