-- `receiver::may_begin` meets its contract.
use Rattle.receiver.proofs.Laws.{may-begin}
use Rattle.receiver.proofs.may_begin.Goals as goal

pub returns : goal.returns
returns c = may-begin c.args.x
