-- `cardline::put_like` meets its contract.
use Rattle.ascii.proofs.Room.{puts_as}
use Rattle.cardline.specs.Line.{like_cell}
use Rattle.cardline.proofs.put_like.Goals as goal

pub returns : goal.returns
unfolding like_cell
returns c = puts_as c.word.ensures c.row.ensures
