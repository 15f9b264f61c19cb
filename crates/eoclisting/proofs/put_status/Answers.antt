-- `eoclisting::put_status` meets its contract.
use Rattle.ascii.proofs.Room.{puts_as}
use Rattle.eoclisting.proofs.Laws.{status-short, status-whole}
use native.Mathlib.Omega.{arith}
use Rattle.eoclisting.proofs.put_status.Goals as goal

pub returns-in_default : goal.returns-in_default
returns-in_default c = puts_as c.put_short.ensures (status-short c.args.contents.now (omega (arith, c.in_default.len_below)))

pub returns-in-len3-up : goal.returns-in-len3-up
returns-in-len3-up c = puts_as c.put_margins.ensures (status-whole c.args.contents.now c.in-len3-up.len_at_least)
