-- `eoclisting::put_count` meets its contract.
use Rattle.ascii.proofs.Room.{puts_as}
use Rattle.eoclisting.proofs.Laws.{count-one, count-more}
use Rattle.eoclisting.proofs.put_count.Goals as goal

pub returns-then-n-eq1 : goal.returns-then-n-eq1
returns-then-n-eq1 c =
    puts_as c.form.ensures (count-one c.args.n c.args.good c.saturating_sub.result c.saturating_sub.ensures c.if-n-eq1.true)

pub returns-else-n-eq1 : goal.returns-else-n-eq1
returns-else-n-eq1 c =
    puts_as c.form-else-n-eq1.ensures (count-more c.args.n c.args.good c.saturating_sub.result c.saturating_sub.ensures c.if-n-eq1.false)
