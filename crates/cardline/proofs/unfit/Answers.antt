-- `cardline::unfit` meets its contract.
use borrow.Author.Tests.{eq-eqb, ne_eqb}
use Rattle.cardline.proofs.unfit.Goals as goal

pub returns-then-rank-eq-GOOD : goal.returns-then-rank-eq-GOOD
returns-then-rank-eq-GOOD c = simp (eq-eqb _ _ c.if-rank-eq-GOOD.true)

pub returns-else-rank-eq-GOOD : goal.returns-else-rank-eq-GOOD
returns-else-rank-eq-GOOD c = simp (ne_eqb _ _ c.if-rank-eq-GOOD.false)
