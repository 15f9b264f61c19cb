-- `receiver::Receiver::receive` meets its contract.
use mathlib.Core.Path.{refl, sym, ap, ◌∙◌}
use native.Mathlib.Omega.{arith}
use Rattle.std.specs.Prelude.{Ok}
use Rattle.answer.specs.Given.{answer_of}
use Rattle.receiver.specs.Promises.{got}
use Rattle.receiver.proofs.Cut.{call-sound}
use Rattle.receiver.proofs.Call.{done-call, room-length, is_found, place-there, room-is, line-is}
use Rattle.receiver.proofs.Receiver.receive.Goals as goal

pub join-requires : goal.join-requires
join-requires c =
    let a = c.args in
    let none = sym c.allowed.ensures ∙ ap answer_of c.in_ok-allowed.was in
    let w = call-sound a.self a.line.now a.lump.now a.bits a.frame.now none in
    (refl, w.1, w.0, w.4)

pub overflow_add-stop : goal.overflow_add-stop
overflow_add-stop c =
    let a = c.args in
    let none = sym c.allowed.ensures ∙ ap answer_of c.in_ok-allowed.was in
    let w = call-sound a.self a.line.now a.lump.now a.bits a.frame.now none in
    omega (arith, w.4)

pub first-at-requires : goal.first-at-requires
first-at-requires c =
    let a = c.args in
    let none = sym c.allowed.ensures ∙ ap answer_of c.in_ok-allowed.was in
    let w = call-sound a.self a.line.now a.lump.now a.bits a.frame.now none in
    let e = c.begin-start.ensures in (
      omega (arith, e),
      omega (arith, e),
      omega (arith, w.4, room-length a.self a.line.now a.lump.now a.bits a.frame.now c.join.new.room none c.join.ensures),
      w.2,
    )

pub received-requires : goal.received-requires
received-requires c =
    let a = c.args in
    let none = sym c.allowed.ensures ∙ ap answer_of c.in_ok-allowed.was in
    let w = call-sound a.self a.line.now a.lump.now a.bits a.frame.now none in (
      place-there a.self a.line.now a.lump.now a.bits a.frame.now c.join.new.room none c.join.ensures c.begin-start.result
          c.first-at.result c.begin-start.ensures c.first-at.ensures.0,
      w.4,
      w.5,
    )

pub returns : goal.returns
returns c =
    let a = c.args in
    let z = sym c.allowed.ensures ∙ ap answer_of c.in_ok-allowed.was in
    let k = c.copy in
    let s = a.self in
    let line = a.line.now in
    let lump = a.lump.now in
    let room = c.join.new.room in
    done-call s line lump a.bits a.frame.now (got s (Ok c.received.result)) c.first-at.result k.new.s c.first-at.new.frame z
    (is_found s line lump a.bits a.frame.now room z c.join.ensures c.begin-start.result c.first-at.result c.begin-start.ensures c.first-at.ensures.0)
    c.received.ensures
    (line-is s line lump a.bits a.frame.now room z c.join.ensures k.new.s k.ensures)
    (room-is s line lump a.bits a.frame.now room z c.join.ensures c.begin-start.result c.first-at.result c.begin-start.ensures c.first-at.ensures.0
    c.first-at.new.frame c.first-at.ensures.1)
