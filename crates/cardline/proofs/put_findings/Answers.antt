-- `cardline::put_findings` meets its contract.
use Rattle.ascii.proofs.Room.{puts-more}
use Rattle.cardline.specs.Line.{findings}
use Rattle.cardline.proofs.put_findings.Goals as goal

pub returns : goal.returns
unfolding findings
returns c = puts-more (puts-more (puts-more c.put.ensures c.put_verdict.ensures) c.put-2.ensures) c.put_todo.ensures
