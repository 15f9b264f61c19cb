-- `remainder::six_settled` meets its contract.
use mathlib.Core.Path.{sym}
use native.Mathlib.Omega.{arith}
use Rattle.remainder.proofs.Period.{six-settled-is}
use Rattle.remainder.proofs.six_settled.Goals as goal

pub returns : goal.returns
returns c = sym (six-settled-is c.args.x (omega arith))
