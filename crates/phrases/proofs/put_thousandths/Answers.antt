-- `phrases::put_thousandths` meets its contract.
use Rattle.ascii.proofs.Room.{puts_as}
use Rattle.phrases.proofs.Laws.{thousandths-form}
use Rattle.phrases.proofs.put_thousandths.Goals as goal

pub returns : goal.returns
returns c = puts_as c.form.ensures (thousandths-form c.args.n)
