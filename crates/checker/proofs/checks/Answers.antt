-- `checker::checks` meets its contract.
use Rattle.checker.proofs.Laws.{checks-is}
use Rattle.checker.proofs.checks.Goals as goal

pub returns : goal.returns
returns c =
    let a = c.args in
    let r = c.check_bits-r in
    checks-is a.frame.now r.result a.c c.turned.result c.requires.0 r.ensures
    c.requires.1 c.turned.ensures
