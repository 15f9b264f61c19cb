-- `verdict::refused_rank` meets its contract.
use borrow.Author.Tests.{lt-ltb, le-ltb}
use Rattle.verdict.proofs.refused_rank.Goals as goal

pub returns-then-n-gt-LAST_REFUSAL : goal.returns-then-n-gt-LAST_REFUSAL
returns-then-n-gt-LAST_REFUSAL c = simp (lt-ltb _ _ c.if-n-gt-LAST_REFUSAL.true)

pub returns-else-n-gt-LAST_REFUSAL : goal.returns-else-n-gt-LAST_REFUSAL
returns-else-n-gt-LAST_REFUSAL c = simp (le-ltb _ _ c.if-n-gt-LAST_REFUSAL.false)
