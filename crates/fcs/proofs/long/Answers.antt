-- `fcs::long` meets its contract.
use Rattle.std.proofs.lemmas.Result.{IfOk-at_ok}
use Rattle.fcs.proofs.Laws.{long-is}
use Rattle.fcs.proofs.long.Goals as goal

pub returns : goal.returns
returns c =
    let a = c.args in
    let d = IfOk-at_ok _ c.unwrap-left.ensures c.from_start.ensures.given in
    long-is a.s.now a.n c.unwrap-left.result c.turned.result (rw (← c.from.ensures) d) c.turned.ensures
