-- `cardline::put_shown` meets its contract. After k turns the first k octets of the name stand in the room.
use Rattle.ascii.proofs.Room.{puts-none, puts-more, puts_as}
use Rattle.cardline.proofs.Lines.{shown-none, shown-next}
use Rattle.cardline.proofs.put_shown.Goals as goal

pub loop-octet-init : goal.loop-octet-init
loop-octet-init c = puts_as (puts-none c.args.text.now) shown-none

pub loop-octet-preserved : goal.loop-octet-preserved
loop-octet-preserved c =
    let l = c.loop-octet in
    puts_as (puts-more l.invariant c.put.ensures)
    (shown-next c.args.name.now l.octet-index c.shown_octet.result c.loop-octet-test.true c.shown_octet.ensures)
