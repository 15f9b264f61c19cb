-- `cardline::put_vendor` meets its contract.
use Rattle.ascii.proofs.Room.{puts-more}
use Rattle.cardline.specs.Line.{vendor_cells}
use Rattle.cardline.proofs.put_vendor.Goals as goal

pub returns : goal.returns
unfolding vendor_cells
returns c = puts-more (puts-more c.hexes.ensures c.put.ensures) c.put_text.ensures
