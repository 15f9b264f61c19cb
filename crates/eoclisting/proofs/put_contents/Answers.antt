-- `eoclisting::put_contents` meets its contract.
use Rattle.ascii.proofs.Room.{puts_as}
use Rattle.eoclisting.proofs.Laws.{of-status, of-inventory, of_others}
use native.Mathlib.Omega.{arith}
use Rattle.eoclisting.proofs.put_contents.Goals as goal

pub returns-in-139 : goal.returns-in-139
returns-in-139 c = puts_as c.put_status.ensures (of-status c.args.number c.args.contents.now c.in-139.is)

pub returns-in-130 : goal.returns-in-130
returns-in-130 c = puts_as c.put_inventory.ensures (of-inventory c.args.number c.args.contents.now (λ e. absurd (omega arith)) c.in-130.is)

pub returns-in_default : goal.returns-in_default
returns-in_default c = puts_as c.put_hex.ensures (of_others c.args.number c.args.contents.now (λ e. absurd (omega arith)) (λ e. absurd (omega arith)))
