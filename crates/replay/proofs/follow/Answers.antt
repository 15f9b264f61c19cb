-- `replay::follow` meets its contract. After k turns the code has times - k turns to come.
use mathlib.Core.Path.{refl, sym, ap}
use Prim.Native.Nat.{◌+◌, ◌-◌}
use native.Mathlib.Omega.{arith}
use Rattle.std.proofs.Common.{rules}
use Rattle.story.specs.Events.{numbers, refused_with}
use Rattle.replay.specs.Replay.{followed}
use Rattle.replay.proofs.Laws.{repeat-more, alike-then, alike-with, line-refused, code-refused, codes-over}
use Rattle.replay.proofs.follow.Goals as goal

pub returns-in_err-said : goal.returns-in_err-said
returns-in_err-said c =
    let n = c.in_err-said.field-0.0 in
    line-refused c.args.line.now c.args.story.now n c.from_residual.result c.in_err-said.ensures (search rules)

pub returns-in_err-event : goal.returns-in_err-event
returns-in_err-event c =
    let i = c.loop-k in
    let a = c.in_ok-said.said in
    code-refused a.code (a.times - i.k) i.story c.in_err-event.field-0.0 c.from_residual-in_err-event.result _
    (alike-with i.invariant (ap (followed c.args.story.now) c.in_ok-said.ensures)) (omega arith) c.in_err-event.ensures (search rules)

pub loop-k-preserved : goal.loop-k-preserved
loop-k-preserved c =
    let i = c.loop-k in
    let a = c.in_ok-said.said in
    alike-then
    (repeat-more a.code (a.times - i.k) (a.times - (i.k + 1)) (refused_with i.story 0) (numbers c.in_ok-event.event) (sym c.in_ok-event.ensures) refl (omega arith))
    i.invariant

pub returns : goal.returns
returns c =
    let i = c.loop-k in
    let a = c.in_ok-said.said in
    codes-over a.code (a.times - i.k) i.story _ (alike-with i.invariant (ap (followed c.args.story.now) c.in_ok-said.ensures)) (omega arith)
