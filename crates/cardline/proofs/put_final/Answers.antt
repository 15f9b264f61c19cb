-- `cardline::put_final` meets its contract.
use Rattle.ascii.proofs.Room.{puts-more}
use Rattle.cardline.specs.Line.{final_cells}
use Rattle.cardline.proofs.put_final.Goals as goal

pub returns : goal.returns
unfolding final_cells
returns c = puts-more c.word.ensures c.put_vendor.ensures
