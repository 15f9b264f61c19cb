-- `host::data::sdsl_data_crc` meets its contract.
use Rattle.host.proofs.DataLaws.{crc-ok, crc-err}
use Rattle.host.proofs.data.sdsl_data_crc.Goals as goal

pub returns-in-Ok : goal.returns-in-Ok
returns-in-Ok c = crc-ok c.args.form c.args.size c.args.frame.now c.in-Ok.six c.in-Ok.ensures

pub returns-in-Err : goal.returns-in-Err
returns-in-Err c = rw c.number.ensures (crc-err c.args.form c.args.size c.args.frame.now c.in-Err.no c.in-Err.ensures)
