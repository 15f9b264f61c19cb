-- `Text::word` meets its contract. After k turns the word's first k octets stand in the room.
use Rattle.ascii.proofs.Room.{puts-more, puts_as}
use Rattle.ascii.proofs.Numbers.{word_next}
use Rattle.ascii.proofs.Text.word.Goals as goal

pub loop-octet-preserved : goal.loop-octet-preserved
loop-octet-preserved c =
    let l = c.loop-octet in
    puts_as (puts-more l.invariant c.put.ensures) (word_next c.args.word.now l.octet-index c.loop-octet-test.true)
