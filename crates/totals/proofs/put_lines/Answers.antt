-- `totals::put_lines` meets its contract. After n turns the lines of the verdicts below n stand in the room.
use Rattle.ascii.proofs.Room.{puts-none, puts-more, puts_as}
use Rattle.totals.proofs.Counting.{lines_none, lines_next}
use Rattle.totals.proofs.put_lines.Goals as goal

pub loop-rank-init : goal.loop-rank-init
loop-rank-init c = puts_as (puts-none c.args.text.now) (lines_none c.args.ranks.now)

pub loop-rank-preserved : goal.loop-rank-preserved
loop-rank-preserved c =
    let l = c.loop-rank in
    puts_as (puts-more l.invariant c.put_line.ensures) (lines_next l.rank _ c.args.ranks.now c.how_many.ensures)
