-- `sender::allowed` meets its contract.
use mathlib.Core.Path.{sym, ◌∙◌}
use borrow.Author.Tests.{eqb-true, not-false}
use Rattle.sender.proofs.Checks.{all_whole, of-final}
use Rattle.sender.proofs.allowed.Goals as goal

pub returns-in-1 : goal.returns-in-1
returns-in-1 c =
    let w = all_whole _ _ _ (sym c.whole.ensures ∙ not-false _ c.if-not-whole.false-raw) in
    let a = c.args in
    c.numbers_allowed-in-1.ensures
    ∙ sym (of-final a.x a.kind a.count a.coefficients.now a.a a.b a.vendor.now a.frame.now (eqb-true _ _ w.0) (eqb-true _ _ w.1) (eqb-true _ _ w.2) c.in-1.is)
