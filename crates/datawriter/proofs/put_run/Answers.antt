-- `datawriter::put_run` meets its contract.
use native.Mathlib.Omega.{arith}
use Rattle.datawriter.proofs.Laws.{run_is}
use Rattle.datawriter.proofs.put_run.Goals as goal

pub returns : goal.returns
returns c =
    let a = c.args in
    run_is a.frame.now a.payload.now a.at a.w a.run a.from a.n c.put_field.new.s c.copy.new.s (omega (arith, c.requires.1))
    c.put_field.ensures c.copy.ensures
