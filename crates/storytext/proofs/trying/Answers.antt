-- `storytext::trying` meets its contract.
use Rattle.ascii.proofs.Room.{puts_as}
use Rattle.storytext.proofs.EndWords.{trying-said}
use Rattle.storytext.proofs.trying.Goals as goal

pub returns : goal.returns
returns c = puts_as c.say.ensures (trying-said c.args.story _ _ _ c.short_row.ensures c.rest.ensures c.lacks.ensures)
