-- `cardline::put_csvs` meets its contract. After k turns the first k octets stand in the room in their form.
use Rattle.ascii.proofs.Room.{puts-none, puts-more, puts_as}
use Rattle.cardline.proofs.Lines.{csv-none, csv-next}
use Rattle.cardline.proofs.put_csvs.Goals as goal

pub loop-octet-init : goal.loop-octet-init
loop-octet-init c = puts_as (puts-none c.args.text.now) csv-none

pub loop-octet-preserved : goal.loop-octet-preserved
loop-octet-preserved c =
    let l = c.loop-octet in
    puts_as (puts-more l.invariant c.put_csv.ensures) (csv-next c.args.line.now l.octet-index c.loop-octet-test.true)
