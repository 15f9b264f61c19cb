-- `eocunits::put_record` meets its contract.
use Rattle.eocunits.proofs.Laws.{record-put}
use Rattle.eocunits.proofs.put_record.Goals as goal

pub returns : goal.returns
returns c =
    let a = c.args in
    let f = a.found in
    record-put a.unit.now c.copy_from_slice.new.self a.contents.now f.source f.destination f.number f.length c.requires c.copy_from_slice.ensures.after
