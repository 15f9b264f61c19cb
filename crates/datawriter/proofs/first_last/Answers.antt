-- `datawriter::first_last` meets its contract.
use Rattle.datawriter.proofs.Laws.{first-last-is}
use Rattle.datawriter.proofs.first_last.Goals as goal

pub returns : goal.returns
returns c = first-last-is c.args.ps c.args.mark c.args.eoc
