-- `cardline::put_heading` meets its contract.
use Rattle.ascii.proofs.Room.{puts-more}
use Rattle.cardline.specs.Line.{heading}
use Rattle.cardline.proofs.put_heading.Goals as goal

pub returns-then-given : goal.returns-then-given
unfolding heading
returns-then-given c = rw c.if-given.true (puts-more c.word.ensures c.word-then-given.ensures)

pub returns-else-given : goal.returns-else-given
unfolding heading
returns-else-given c = rw c.if-given.false (puts-more c.word.ensures c.word-else-given.ensures)
