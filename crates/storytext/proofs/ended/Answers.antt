-- `storytext::ended` meets its contract.
use Rattle.ascii.proofs.Room.{puts_as}
use Rattle.storytext.proofs.EndWords.{data-mode-said, exception-mode-said}
use Rattle.storytext.proofs.ended.Goals as goal

pub returns-then-last-eq-DATA : goal.returns-then-last-eq-DATA
returns-then-last-eq-DATA c = puts_as c.say.ensures (data-mode-said c.args.story c.if-last-eq-DATA.true)

pub returns-else-last-eq-DATA : goal.returns-else-last-eq-DATA
returns-else-last-eq-DATA c =
    puts_as c.say-else-last-eq-DATA.ensures
    (exception-mode-said c.args.story _ _ c.if-last-eq-DATA.false c.cause_row.ensures c.short_row.ensures)
