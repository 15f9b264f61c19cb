-- `eoclisting::put_field` meets its contract.
use Rattle.ascii.proofs.Room.{puts-more}
use Rattle.eoclisting.proofs.put_field.Goals as goal

pub returns : goal.returns
returns c = puts-more c.word.ensures c.put_string.ensures
