-- `datawriter::put` meets its contract.
use Rattle.datawriter.proofs.Laws.{put_is}
use Rattle.datawriter.proofs.put.Goals as goal

pub returns : goal.returns
returns c =
    let a = c.args in
    put_is a.frame.now a.payload.now a.rows a.n a.rest c.requires.1 c.requires.2 c.requires.3
    c.put_run.new.frame c.put_run-2.new.frame c.put_run-3.new.frame c.put_run-4.new.frame c.put_field.new.s c.clear.new.s
    c.put_run.ensures c.put_run-2.ensures c.put_run-3.ensures c.put_run-4.ensures c.put_field.ensures c.clear.ensures
