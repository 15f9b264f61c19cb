-- `datawriter::rows_of` meets its contract.
use Rattle.datawriter.proofs.Laws.{rows_are}
use Rattle.datawriter.proofs.rows_of.Goals as goal

pub returns : goal.returns
returns c =
    let a = c.args in
    rows_are a.sync a.overhead a.marks c.turned-crc.result c.turned-crc.ensures c.head.result c.first_last.result c.row.result
    c.second_last.result c.row-2.result c.row-3.result c.head.ensures c.first_last.ensures c.row.ensures c.second_last.ensures
    c.row-2.ensures c.row-3.ensures
