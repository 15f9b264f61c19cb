-- `host::data::sdsl_data_read` meets its contract.
use Rattle.host.proofs.DataLaws.{read-ok, read-err}
use Rattle.host.proofs.data.sdsl_data_read.Goals as goal

pub returns-in-Ok : goal.returns-in-Ok
returns-in-Ok c =
    let a = c.args in
    read-ok a.form a.size a.sync a.next a.frame.now a.payload.now c.read.new.payload c.in-Ok.overhead c.from.result c.from.ensures c.in-Ok.ensures

pub returns-in-Err : goal.returns-in-Err
returns-in-Err c =
    let a = c.args in
    rw c.number.ensures (read-err a.form a.size a.sync a.next a.frame.now a.payload.now c.read.new.payload c.in-Err.no c.in-Err.ensures)
