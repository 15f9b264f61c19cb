-- `scrambler::Scrambler::descramble_frame` meets its contract.
use mathlib.Core.Path.{sym, ap, subst, ◌∙◌}
use Prim.Native.Nat.{ℕ}
use Rattle.std.specs.Prelude.{Result}
use Rattle.answer.specs.Given.{answer_of}
use Rattle.answer.specs.declared.Refused.{Refused}
use Rattle.recurrence.specs.declared.Way.TheVariants.{Descramble as descramble}
use Rattle.scrambler.specs.Promises.{FramePromise}
use Rattle.scrambler.proofs.Laws.{framed, frame-taken}
use Rattle.scrambler.proofs.Scrambler.descramble_frame.Goals as goal

pub returns : goal.returns
returns c =
    let a = c.args in
    let z = sym c.frame_allowed.ensures ∙ ap answer_of c.in_ok-frame_allowed.was in
    subst (λ (r : Result ℕ Refused). FramePromise descramble a.self a.frame.now a.output.now (framed a.self.end r) c.clear.new.s)
    c.in_ok-state.was
    (frame-taken a.self a.frame.now a.output.now descramble c.clocked.result c.clocked.new.output c.clear.new.s c.clocked.ensures c.clear.ensures z)
