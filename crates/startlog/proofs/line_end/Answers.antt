-- `startlog::line_end` meets its contract.
use mathlib.Core.Path.{sym, ◌∙◌}
use native.Mathlib.Omega.{arith}
use Prim.Native.Nat.{◌-◌}
use lib.ListN.{length, drop, length-drop}
use lib.Seq.{take_all}
use Rattle.startlog.proofs.Laws.{end-past, line-ends}
use Rattle.startlog.proofs.line_end.Goals as goal

pub returns-in-Some : goal.returns-in-Some
returns-in-Some c =
    let f = c.in-Some.ensures.lookup in
    let l = c.args.log.now in
    let at = c.args.at in
    let whole = take_all (length l - at) (drop at l) (omega (arith, length-drop at l)) in
    line-ends l c.in-Some.rest.now at c.newline.result c.unwrap_or.result (f.0.2 ∙ whole) c.newline.ensures c.unwrap_or.ensures

pub returns-in-None : goal.returns-in-None
returns-in-None c =
    let f = c.in-None.ensures.lookup in
    sym (end-past c.args.log.now c.args.at (omega arith))
