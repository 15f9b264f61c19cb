-- `eoclisting::totals` meets its contract.
use mathlib.Core.Path.{refl}
use Rattle.std.proofs.Common.{rules}
use Rattle.ascii.proofs.Room.{puts-more, puts-told}
use Rattle.eoclisting.specs.Totals.{totals_text}
use Rattle.eoclisting.proofs.totals.Goals as goal

pub returns : goal.returns
unfolding totals_text
returns c = puts-told (puts-more (puts-more (puts-more c.put_left.ensures c.put_count.ensures) c.put_taken.ensures) c.put.ensures) refl (search rules)
