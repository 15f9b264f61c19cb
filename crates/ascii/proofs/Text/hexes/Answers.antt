-- `Text::hexes` meets its contract. After k turns the first k octets stand in the room.
use Rattle.ascii.proofs.Room.{puts-none, puts-more, puts_as}
use Rattle.ascii.proofs.Numbers.{hexes-none, hexes-next}
use Rattle.ascii.proofs.Text.hexes.Goals as goal

pub loop-octet-init : goal.loop-octet-init
loop-octet-init c = puts_as (puts-none c.args.self.now) hexes-none

pub loop-octet-preserved : goal.loop-octet-preserved
loop-octet-preserved c =
    let l = c.loop-octet in
    puts_as (puts-more l.invariant c.hex.ensures) (hexes-next c.args.octets.now l.octet-index c.loop-octet-test.true)
