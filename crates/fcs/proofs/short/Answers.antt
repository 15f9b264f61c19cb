-- `fcs::short` meets its contract.
use Rattle.fcs.proofs.Laws.{short-is}
use Rattle.fcs.proofs.short.Goals as goal

pub returns : goal.returns
returns c =
    let w = c.word in
    let a = c.args in
    short-is a.s.now a.n w.result c.word_left.result c.requires.0 c.requires.1 c.requires.2 w.ensures c.word_left.ensures
