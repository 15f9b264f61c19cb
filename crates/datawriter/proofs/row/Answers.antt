-- `datawriter::row` meets its contract.
use Rattle.datawriter.proofs.Laws.{row_is}
use Rattle.datawriter.proofs.row.Goals as goal

pub returns : goal.returns
returns c = row_is c.args.eoc c.args.crc c.args.last
