-- One result per call of the receiver's functions. Assumes nothing.
use mathlib.Core.Path.{◌≡◌, sym, ap, ◌∙◌}
use mathlib.Core.List.{List}
use Prim.Native.Nat.{ℕ}
use Rattle.receiver.specs.Promises.{Got}
use Rattle.receiver.proofs.One.{received-one}
use Rattle.host.specs.declared.receiving.Receiver.{Receiver}
use Rattle.host.specs.declared.receiving.Received.{Received}
use Rattle.host.specs.Receiving.{receiver_in, got_in, ReceiverStarted, LumpReceived}

-- as it crosses
abbrev out : Got → Received
out g =
    record {
      answer = g.answer;
      given = g.given;
      place = g.place;
      state = record { end = g.next.end; heard = g.next.heard; from = g.next.from };
    }

pub sdsl-receive-start-one : (end : ℕ) (r r' : Received) → ReceiverStarted end r → ReceiverStarted end r' → r ≡ r'
sdsl-receive-start-one end r r' p q = ap out (p ∙ sym q)

pub sdsl-receive-one : (s : Receiver) (line lump : List ℕ) (bits : ℕ) (frame : List ℕ) (r r' : Received) (t t' u u' : List ℕ)
    → LumpReceived s line lump bits frame r t u → LumpReceived s line lump bits frame r' t' u' → (r ≡ r') × (t ≡ t') × (u ≡ u')
sdsl-receive-one s line lump bits frame r r' t t' u u' p q =
    let e = received-one (receiver_in s) line lump bits frame (got_in r) (got_in r') t t' u u' p q in (ap out e.0, e.1, e.2)
