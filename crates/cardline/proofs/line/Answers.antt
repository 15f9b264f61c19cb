-- `cardline::line` meets its contract.
use mathlib.Core.Path.{refl}
use Rattle.std.proofs.Common.{rules}
use Rattle.ascii.proofs.Room.{puts-more, puts-told}
use Rattle.cardline.specs.Line.{card_line}
use Rattle.cardline.proofs.line.Goals as goal

pub returns : goal.returns
unfolding card_line
returns c =
    puts-told
    (puts-more (puts-more (puts-more (puts-more (puts-more c.put_shown.ensures c.put_findings.ensures) c.put_cells.ensures) c.put_like.ensures) c.put_like-2.ensures)
    c.put.ensures)
    refl (search rules)
