-- `remainder::folded` meets its contract.
use native.Mathlib.Omega.{arith}
use Rattle.remainder.proofs.Quotient.{folded-is}
use Rattle.remainder.proofs.folded.Goals as goal

pub returns : goal.returns
returns c = λ w h. folded-is c.args.x (omega arith) c.fourth-q.result (omega arith) c.fourth-q.ensures w
