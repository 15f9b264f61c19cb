-- `storytext::now` meets its contract.
use mathlib.Core.Path.{sym, ◌∙◌}
use Rattle.ascii.proofs.Room.{puts_as}
use Rattle.storytext.proofs.EndWords.{line-over, now-said}
use Rattle.storytext.proofs.now.Goals as goal

pub returns-then-is_told : goal.returns-then-is_told
returns-then-is_told c = puts_as c.say.ensures (line-over c.args.story (sym c.is_told.ensures ∙ c.if-is_told.true))

pub returns : goal.returns
returns c =
    puts_as c.say-2.ensures
    (now-said c.args.story _ _ _ _ _ _ c.behind_row.ensures c.wait_row.ensures c.rest.ensures c.left_row.ensures
    c.lasts.ensures c.rest-2.ensures (sym c.is_told.ensures ∙ c.if-is_told.false))
