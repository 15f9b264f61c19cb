-- `recurrence::Line::out` meets its contract.
use Rattle.recurrence.proofs.Laws.{out-is}
use Rattle.recurrence.proofs.Line.out.Goals as goal

pub returns : goal.returns
returns c = out-is c.args.self.tap c.args.state c.args.bit c.requires
