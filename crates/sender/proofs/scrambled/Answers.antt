-- `sender::scrambled` meets its contract.
use mathlib.Core.Path.{subst}
use Prim.Native.Nat.{ℕ}
use Rattle.std.specs.Prelude.{Result}
use Rattle.answer.specs.declared.Refused.{Refused}
use Rattle.recurrence.specs.declared.Way.TheVariants.{Scramble as scramble}
use Rattle.scrambler.specs.Promises.{FramePromise}
use Rattle.scrambler.proofs.Laws.{framed, frame-taken}
use Rattle.sender.proofs.scrambled.Goals as goal

pub returns : goal.returns
returns c =
    let a = c.args in
    subst (λ (r : Result ℕ Refused). FramePromise scramble a.x a.plain.now a.room.now (framed a.x.end r) c.clear.new.s)
    c.in_ok-state.was
    (frame-taken a.x a.plain.now a.room.now scramble c.clocked.result c.clocked.new.room c.clear.new.s c.clocked.ensures c.clear.ensures c.requires)
