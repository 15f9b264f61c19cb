-- `host::data::sdsl_data_write` meets its contract.
use Rattle.host.proofs.DataLaws.{written-ok, written-err}
use Rattle.host.proofs.data.sdsl_data_write.Goals as goal

pub returns-in-Ok : goal.returns-in-Ok
returns-in-Ok c =
    let a = c.args in
    written-ok a.form a.size a.sync a.overhead a.payload.now a.frame.now c.write.new.frame c.in-Ok.crc (rw c.from.ensures at c.in-Ok.ensures)

pub returns-in-Err : goal.returns-in-Err
returns-in-Err c =
    let a = c.args in
    rw c.number.ensures
    (written-err a.form a.size a.sync a.overhead a.payload.now a.frame.now c.write.new.frame c.in-Err.no (rw c.from.ensures at c.in-Err.ensures))
