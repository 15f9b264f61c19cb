-- What our receiver computes, by the definitions that its contracts cite; it keeps these. Assumes nothing.
use mathlib.Core.Path.{refl}
use Prim.Native.Nat.{ℕ}
use Rattle.answer.specs.Answer.{answer, held}
use Rattle.receiver.specs.Promises.{joined, found, received_of, line_after, room_after}
use Rattle.host.specs.declared.receiving.Receiver.{Receiver}
use Rattle.host.specs.Receiving.{receiver_in, ReceiverStarted, LumpReceived}
use Rattle.demands.specs.Handed.{Outcome}
use Rattle.demands.specs.HandedLine.{ReceiveCall, GivenPlace, LineRooms}
use Rattle.demands.specs.Checks.{receive_start_checks, receive_checks}

abbrev pub starts : ℕ → Outcome GivenPlace Receiver
starts end =
    record { answer = answer (receive_start_checks end); numbers = record { given = 0; place = 0 }; memory = record { end = end; heard = 0; from = 0 } }

abbrev pub receives-lump : ReceiveCall → Outcome GivenPlace LineRooms
receives-lump c =
    let x = receiver_in c.state in
    let n = answer (receive_checks c) in
    let b = found x c.line c.lump c.bits in
    let r = received_of n x b c.bits in
    record {
      answer = r.answer;
      numbers = record { given = r.given; place = r.place };
      memory = record {
        state = record { end = r.next.end; heard = r.next.heard; from = r.next.from };
        line = held n c.line (line_after c.line c.lump c.bits);
        frame = held n c.frame (room_after x.end (joined c.line c.lump c.bits) b c.bits c.frame);
      };
    }

-- ---- they keep the contracts

pub starts-keep : (end : ℕ) → ReceiverStarted end
    (record { answer = (starts end).answer; given = (starts end).numbers.given; place = (starts end).numbers.place; state = (starts end).memory })
starts-keep end = refl

pub receives-lump-keep : (c : ReceiveCall) → let r = receives-lump c in LumpReceived c.state c.line c.lump c.bits c.frame
    (record { answer = r.answer; given = r.numbers.given; place = r.numbers.place; state = r.memory.state }) r.memory.line r.memory.frame
receives-lump-keep c = record { returned = refl; line_left = refl; room_left = refl }
