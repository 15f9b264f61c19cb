-- `datawriter::head` meets its contract.
use Rattle.datawriter.proofs.Laws.{head_is}
use Rattle.datawriter.proofs.head.Goals as goal

pub returns : goal.returns
returns c = head_is c.args.sync c.args.indicators
