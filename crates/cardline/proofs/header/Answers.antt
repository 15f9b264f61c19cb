-- `cardline::header` meets its contract.
use mathlib.Core.Path.{refl}
use Rattle.std.proofs.Common.{rules}
use Rattle.ascii.proofs.Room.{puts-told}
use Rattle.cardline.proofs.header.Goals as goal

pub returns : goal.returns
returns c = puts-told c.put_heading.ensures refl (search rules)
