-- `datacrc::carried` meets its contract.
use Rattle.datacrc.proofs.Laws.{carried-in}
use Rattle.datacrc.proofs.carried.Goals as goal

pub returns : goal.returns
returns c =
    carried-in c.args.room c.block-m.result c.piece-first.result c.piece-second.result c.piece-third.result c.turned.result c.block-m.ensures
    c.piece-first.ensures.0 c.piece-second.ensures.0 c.piece-third.ensures.0 c.turned.ensures
