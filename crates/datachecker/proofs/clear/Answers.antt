-- `datachecker::clear` meets its contract.
use Rattle.datachecker.proofs.Laws.{clear-in}
use Rattle.datachecker.proofs.clear.Goals as goal

pub returns : goal.returns
returns c = clear-in c.args.room c.line_bits-n.result c.args.stuffing c.is_clear.result c.line_bits-n.ensures c.requires.0 c.is_clear.ensures
