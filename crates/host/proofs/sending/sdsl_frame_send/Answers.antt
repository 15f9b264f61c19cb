-- `host::sending::sdsl_frame_send` meets its contract.
use mathlib.Core.Path.{sym, subst, ◌∙◌}
use mathlib.Core.List.{List}
use lib.IntN.{ℤ}
use Rattle.numbers.proofs.Laws.{numbers-whole}
use Rattle.sender.specs.Promises.{Sent}
use Rattle.host.specs.declared.scrambling.Scrambled.{Scrambled}
use Rattle.host.specs.Sending.{FrameSent}
use Rattle.host.proofs.SendLaws.{not-sent, frame-sent}
use Rattle.host.proofs.sending.sdsl_frame_send.Goals as goal

pub returns-then-coefficients-ne-COEFFICIENT_OCTETS : goal.returns-then-coefficients-ne-COEFFICIENT_OCTETS
returns-then-coefficients-ne-COEFFICIENT_OCTETS c =
    let a = c.args in
    subst (λ (r : Scrambled). FrameSent a.end a.state a.kind a.count a.coefficients.now a.a a.b a.vendor.now a.frame.now r a.frame.now) (sym c.scrambled_out.ensures)
    (not-sent a.end a.state a.kind a.count a.coefficients.now a.a a.b a.vendor.now a.frame.now c.if-coefficients-ne-COEFFICIENT_OCTETS.true)

pub returns : goal.returns
returns c =
    let s = c.send-ran in
    let a = c.args in
    let whole = c.if-coefficients-ne-COEFFICIENT_OCTETS.false in
    let room = s.new.frame in
    subst (λ (r : Scrambled). FrameSent a.end a.state a.kind a.count a.coefficients.now a.a a.b a.vendor.now a.frame.now r room) (sym c.scrambled_out-2.ensures)
    (frame-sent a.end a.state a.kind a.count a.coefficients.now a.a a.b a.vendor.now a.frame.now whole s.result room
    (subst (λ (cs : List ℤ).
    Sent (record { end = a.end; state = a.state }) a.kind a.count cs a.a a.b a.vendor.now a.frame.now s.result room)
    (c.numbers-cs.ensures ∙ numbers-whole a.coefficients.now whole) s.ensures))
