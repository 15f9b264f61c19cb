-- `sender::send` meets its contract.
use mathlib.Core.Path.{◌≡◌, sym, ap, subst, ◌∙◌}
use mathlib.Core.List.{List}
use Prim.Native.Nat.{ℕ}
use Rattle.answer.specs.Answer.{answer}
use Rattle.answer.specs.Given.{answer_of}
use Rattle.recurrence.specs.declared.Way.TheVariants.{Scramble as scramble}
use Rattle.scrambler.specs.Promises.{frame_refusals, FramePromise}
use Rattle.sender.proofs.Sent.{neither, frame-sent}
use Rattle.sender.proofs.send.Goals as goal

pub scrambled-requires : goal.scrambled-requires
scrambled-requires c =
    let a = c.args in
    let z = sym c.allowed.ensures ∙ ap answer_of c.in_ok-allowed.was in
    let w = (neither a.x a.kind a.count a.coefficients.now a.a a.b a.vendor.now a.frame.now z).1 in
    subst (λ (f : List ℕ). answer (frame_refusals a.x f a.frame.now) ≡ 0) (sym c.put.ensures) w

pub returns : goal.returns
returns c =
    let s = c.scrambled in
    let a = c.args in
    let z = sym c.allowed.ensures ∙ ap answer_of c.in_ok-allowed.was in
    frame-sent a.x a.kind a.count a.coefficients.now a.a a.b a.vendor.now a.frame.now z s.result s.new.room
    (subst (λ (f : List ℕ). FramePromise scramble a.x f a.frame.now s.result s.new.room) c.put.ensures s.ensures)
