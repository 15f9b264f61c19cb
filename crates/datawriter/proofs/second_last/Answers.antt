-- `datawriter::second_last` meets its contract.
use Rattle.datawriter.proofs.Laws.{second-last-is}
use Rattle.datawriter.proofs.second_last.Goals as goal

pub returns : goal.returns
returns c = second-last-is c.args.segd c.args.eoc c.args.mark
