-- `totals::put_line` meets its contract.
use Rattle.ascii.proofs.Room.{puts-none, puts-more, puts_as}
use Rattle.totals.proofs.Counting.{line-none, line-some}
use Rattle.totals.proofs.put_line.Goals as goal

pub returns-then-count-eq0 : goal.returns-then-count-eq0
returns-then-count-eq0 c = let a = c.args in puts_as (puts-none a.text.now) (line-none a.rank a.count c.if-count-eq0.true)

pub returns : goal.returns
returns c =
    let a = c.args in
    puts_as
    (puts-more (puts-more (puts-more (puts-more c.form.ensures c.put_name.ensures) c.put_joint.ensures) c.put_todo.ensures) c.put.ensures)
    (line-some a.rank a.count c.written.result c.if-count-eq0.false c.written.ensures)
