-- `cardline::csv` meets its contract.
use mathlib.Core.Path.{refl}
use Rattle.std.proofs.Common.{rules}
use Rattle.ascii.proofs.Room.{puts-more, puts-told}
use Rattle.cardline.specs.Line.{csv_line}
use Rattle.cardline.proofs.csv.Goals as goal

pub returns : goal.returns
unfolding csv_line
returns c = puts-told (puts-more c.put.ensures c.put_csvs.ensures) refl (search rules)
