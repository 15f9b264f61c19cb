-- `datacrc::due` meets its contract.
use Rattle.datacrc.proofs.Laws.{due-in}
use Rattle.datacrc.proofs.due.Goals as goal

pub returns : goal.returns
returns c =
    due-in c.args.room c.block-n.result c.spare.result c.left-first.result c.left-second.result c.left-third.result c.left.result c.block-n.ensures
    c.spare.ensures c.left-first.ensures c.left-second.ensures c.left-third.ensures c.left.ensures
