-- `cardline::put_training` meets its contract.
use Rattle.ascii.proofs.Room.{puts-more}
use Rattle.cardline.specs.Line.{training_cells}
use Rattle.cardline.proofs.put_training.Goals as goal

pub returns : goal.returns
unfolding training_cells
returns c = puts-more c.form.ensures c.put_vendor.ensures
