-- `storytext::put_end` meets its contract.
use Rattle.ascii.proofs.Room.{puts-more, puts_as}
use Rattle.storytext.proofs.EndWords.{end-said}
use Rattle.storytext.proofs.put_end.Goals as goal

pub returns : goal.returns
returns c = puts_as (puts-more c.verdict.ensures c.now.ensures) (end-said c.args.story)
