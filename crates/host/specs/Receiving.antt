-- What the exported receiver promises: that of the crate, with the same numbers in the structs that cross.
use Rattle.std.specs.Prelude.{List, ℕ}
use Rattle.receiver.specs.declared.Receiver.{Receiver as State}
use Rattle.receiver.specs.Promises.{Got, StartPromise, ReceivePromise}
use Rattle.host.specs.declared.receiving.Receiver.{Receiver}
use Rattle.host.specs.declared.receiving.Received.{Received}

-- struct sdsl_receiver, as it comes in
abbrev pub receiver_in : Receiver → State
receiver_in s = record { end = s.end; heard = s.heard; from = s.from }

-- struct sdsl_received, as what a start or a call of the crate gives
abbrev pub got_in : Received → Got
got_in r = record { answer = r.answer; given = r.given; place = r.place; next = receiver_in r.state }

-- sdsl_receive_start
abbrev pub ReceiverStarted : ℕ → Received → Type 0
ReceiverStarted end r = StartPromise end (got_in r)

-- sdsl_receive
abbrev pub LumpReceived : Receiver → List ℕ → List ℕ → ℕ → List ℕ → Received → List ℕ → List ℕ → Type 0
LumpReceived s line lump bits frame r line' frame' = ReceivePromise (receiver_in s) line lump bits frame (got_in r) line' frame'
