-- `cardline::put_reference` meets its contract.
use Rattle.ascii.proofs.Room.{puts-more}
use Rattle.cardline.specs.Line.{reference_name}
use Rattle.cardline.proofs.put_reference.Goals as goal

pub returns : goal.returns
unfolding reference_name
returns c = puts-more (puts-more c.word.ensures c.put_shown.ensures) c.word-2.ensures
