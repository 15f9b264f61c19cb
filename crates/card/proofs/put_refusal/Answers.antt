-- `card::put_refusal` meets its contract.
use Rattle.ascii.proofs.Room.{puts-more, puts_as}
use Rattle.card.specs.Words.{refusal}
use Rattle.card.proofs.put_refusal.Goals as goal

pub returns : goal.returns
unfolding refusal
returns c = puts-more c.form.ensures (puts_as c.word.ensures c.row.ensures)
