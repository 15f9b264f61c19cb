-- `recurrence::later` meets its contract.
use Rattle.recurrence.proofs.Block.{later-few, later-many}
use Rattle.recurrence.proofs.later.Goals as goal

pub returns-then-n-lt-REACH : goal.returns-then-n-lt-REACH
returns-then-n-lt-REACH c = let a = c.args in later-few a.window a.line a.n c.requires.0 c.if-n-lt-REACH.true

pub returns-else-n-lt-REACH : goal.returns-else-n-lt-REACH
returns-else-n-lt-REACH c = let a = c.args in later-many a.window a.line a.n c.requires.0 c.if-n-lt-REACH.false
