-- Demand 2's second sentence, over two libraries of any make: what one card writes or scrambles, the other gets back unchanged. A frame is written and
-- scrambled at once, and comes back by two steps.
use Rattle.std.specs.Prelude.{◌≡◌, List, [], ◌∷◌, ℕ, length}
use Rattle.octets.specs.Bits.{laid}
use Rattle.layout.specs.Places.{vendor_length, reserved_length, frame_length}
use Rattle.layout.specs.Frame.{used}
use Rattle.numbers.specs.Promises.{coefficients_length, numbers_of, number_octets}
use Rattle.scrambler.specs.Promises.{given}
use Rattle.recurrence.specs.declared.Way.TheVariants.{Scramble as scramble, Descramble as descramble}
use Rattle.demands.specs.Handed.{Outcome, None, none, SendCall, BitCall, RunCall, Line, PrecodeCall}
use Rattle.demands.specs.Library.{Library}
use Rattle.demands.specs.Checks.{frame_of, send_checks, bit_checks, run_checks, precode_checks}
use Rattle.demands.specs.Frames.{Right, Octets, done, none_set}
use Rattle.demands.specs.DataBack.{DataBack}
use Rattle.demands.specs.MessagesBack.{MessagesBack}
use Rattle.demands.specs.ReceivingBack.{ReceivedBack}

-- what y makes of a frame that x sends: it descrambles it into room of its own, with the sender's end and the state that the sender had
abbrev pub heard_from : Library → Library → SendCall → List ℕ → Outcome None Line
heard_from x y c room = y.descramble_frame (record { end = c.end; state = c.state; frame = (x.send c).memory.output; output = room })

-- a call with the state that another call gave
abbrev pub going_on : SendCall → ℕ → SendCall
going_on c state =
    record {
      end = c.end;
      state = state;
      kind = c.kind;
      count = c.count;
      coefficients = c.coefficients;
      a = c.a;
      b = c.b;
      vendor = c.vendor;
      output = c.output;
    }

-- a frame to send, and the room into which it is descrambled
pub record Hop : Type 0 where
  pub call : SendCall
  pub room : List ℕ

-- frames that x sends one after the other, each with the state that came back with the one before, and y descrambles one after the other,
-- likewise with the states that come back to it: what each of its calls gives
unfoldable pub heard_in_turn : Library → Library → ℕ → ℕ → List Hop → List (Outcome None Line)
heard_in_turn x y there here [] = []
heard_in_turn x y there here (h ∷ hs) =
    let sent = x.send (going_on h.call there) in
    let got = y.descramble_frame (record { end = h.call.end; state = here; frame = sent.memory.output; output = h.room }) in
    got ∷ heard_in_turn x y sent.memory.state got.memory.state hs

-- what they are to give: 0, the frame of the fields, and the sender's next state
unfoldable pub sent_in_turn : Library → ℕ → List Hop → List (Outcome None Line)
sent_in_turn x state [] = []
sent_in_turn x state (h ∷ hs) =
    let sent = x.send (going_on h.call state) in
    done none (record { state = sent.memory.state; output = frame_of h.call }) ∷ sent_in_turn x sent.memory.state hs

-- no check applies to any of them, and the rooms fit
pub data AllSent (x : Library) : ℕ → List Hop → Type 0 where
  no_frame : (state : ℕ) → AllSent x state []
  one_frame : (state : ℕ) (h : Hop) (hs : List Hop) → Right (send_checks (going_on h.call state)) → length h.room ≡ frame_length
      → AllSent x (x.send (going_on h.call state)).memory.state hs → AllSent x state (h ∷ hs)

-- BACK: what one card writes or scrambles, the other gets back unchanged
pub record Back (x y : Library) : Type 0 where
  -- "Descrambling with the sender's end and starting state gives the input back and the sender's next state": the frame of the fields,
  pub frame : (c : SendCall) (room : List ℕ) → Right (send_checks c) → length room ≡ frame_length
      → heard_from x y c room ≡ done none (record { state = (x.send c).memory.state; output = frame_of c })
  -- and any number of them, one after the other, with the state handed on
  pub in_turn : (state : ℕ) (hs : List Hop) → AllSent x state hs → heard_in_turn x y state state hs ≡ sent_in_turn x state hs
  -- a training frame reads with its kind, A and B; all 180 coefficients, zero beyond the count; vendor data; no reserved bit is set
  pub training : (c : SendCall) (room coefficients vendor reserved : List ℕ) → c.kind ≡ 0 → Right (send_checks c) → Octets c.vendor
      → length room ≡ frame_length → length coefficients ≡ coefficients_length → length vendor ≡ vendor_length → length reserved ≡ reserved_length
      → y.read (record { frame = (heard_from x y c room).memory.output; coefficients = coefficients; vendor = vendor; reserved = reserved })
      ≡ done (record { kind = 0; a = c.a; b = c.b })
      (record {
        coefficients = number_octets (used c.count (numbers_of c.coefficients));
        vendor = c.vendor;
        reserved = none_set;
      })
  -- a final frame with its kind and vendor data; the other rooms are as they were
  pub final : (c : SendCall) (room coefficients vendor reserved : List ℕ) → c.kind ≡ 1 → Right (send_checks c) → Octets c.vendor
      → length room ≡ frame_length → length coefficients ≡ coefficients_length → length vendor ≡ vendor_length → length reserved ≡ reserved_length
      → y.read (record { frame = (heard_from x y c room).memory.output; coefficients = coefficients; vendor = vendor; reserved = reserved })
      ≡ done (record { kind = 1; a = 0; b = 0 }) (record { coefficients = coefficients; vendor = c.vendor; reserved = reserved })
  -- data-mode frames: overhead and payload
  pub data_frames : DataBack x y
  -- operations channel messages: addresses, message number and contents
  pub messages : MessagesBack x y
  -- the scrambler by itself: a bit,
  pub bit : (c : BitCall) → Right (bit_checks c)
      → y.bit descramble (record { end = c.end; state = c.state; bit = (x.bit scramble c).numbers }) ≡ done c.bit (x.bit scramble c).memory
  -- and a run
  pub run : (c : RunCall) (room : List ℕ) → Right (run_checks c) → length room ≡ length c.output
      → y.run descramble (record { end = c.end; state = c.state; input = (x.run scramble c).memory.output; bits = c.bits; output = room })
      ≡ done none (record { state = (x.run scramble c).memory.state; output = laid room 0 (given c.input c.bits) })
  -- and over the line: a frame that is sent is what the receiver gives, however the bits are cut
  pub received : ReceivedBack x y
  -- "The receiving end, given y, the same coefficients and the same past, gets x back."
  pub precoded : (c : PrecodeCall) (room : List ℕ) → Right (precode_checks c) → Octets c.symbols → length room ≡ length c.symbols
      → y.decode (record { coefficients = c.coefficients; history = c.history; symbols = (x.precode c).memory.room; room = room })
      ≡ done none (record { history = (x.precode c).memory.history; room = c.symbols })
