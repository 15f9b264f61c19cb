-- `receiver::is_sync` meets its contract.
use borrow.Author.Tests.{eq-eqb}
use mathlib.Core.Path.{◌∙◌}
use Rattle.receiver.proofs.Laws.{sync-is, sync-other}
use Rattle.receiver.proofs.is_sync.Goals as goal

pub returns-then-word-eq-TRAINING_SYNC : goal.returns-then-word-eq-TRAINING_SYNC
returns-then-word-eq-TRAINING_SYNC c = eq-eqb _ _ c.if-word-eq-TRAINING_SYNC.true ∙ sync-is c.args.x c.if-word-eq-TRAINING_SYNC.true

pub returns-else-word-eq-TRAINING_SYNC : goal.returns-else-word-eq-TRAINING_SYNC
returns-else-word-eq-TRAINING_SYNC c = sync-other c.args.x c.if-word-eq-TRAINING_SYNC.false
