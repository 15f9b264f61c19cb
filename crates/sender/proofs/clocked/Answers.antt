-- `sender::clocked` meets its contract.
use Rattle.recurrence.specs.declared.Way.TheVariants.{Scramble as scramble}
use Rattle.scrambler.proofs.Laws.{frame-clocked}
use Rattle.sender.proofs.clocked.Goals as goal

pub returns : goal.returns
returns c =
    let r = c.run in
    let t = c.tap in
    let a = c.args in
    frame-clocked a.x a.plain.now a.room.now scramble t.result r.result c.copy.new.s
    r.new.output t.ensures c.copy.ensures r.ensures
