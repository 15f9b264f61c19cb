-- `cardline::put_cells` meets its contract.
use Rattle.ascii.proofs.Room.{puts_as}
use Rattle.cardline.proofs.Lines.{bad-cells, training-cells, final-cells}
use Rattle.cardline.proofs.put_cells.Goals as goal

pub returns-then-v-ne0 : goal.returns-then-v-ne0
returns-then-v-ne0 c =
    puts_as c.word.ensures (bad-cells c.args.v c.if-v-ne0.true)

pub returns-then-v-eq-TRAINING : goal.returns-then-v-eq-TRAINING
returns-then-v-eq-TRAINING c =
    puts_as c.put_training.ensures (training-cells c.args.v c.if-v-ne0.false c.if-v-eq-TRAINING.true)

pub returns-else-v-eq-TRAINING : goal.returns-else-v-eq-TRAINING
returns-else-v-eq-TRAINING c =
    puts_as c.put_final.ensures (final-cells c.args.v c.if-v-ne0.false c.if-v-eq-TRAINING.false)
