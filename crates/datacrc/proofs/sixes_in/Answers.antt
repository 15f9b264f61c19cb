-- `datacrc::sixes_in` meets its contract.
use Rattle.datacrc.proofs.Laws.{sixes-are}
use Rattle.datacrc.proofs.sixes_in.Goals as goal

pub returns : goal.returns
returns c = sixes-are c.args.room c.carried.result c.due.result c.carried.ensures c.due.ensures
