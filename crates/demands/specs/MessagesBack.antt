-- Demand 2's second sentence of operations channel messages, over two libraries of any make: what one card writes, the other gets back unchanged.
use Rattle.std.specs.Prelude.{◌≡◌, List, ℕ, length, take}
use Rattle.eoc.specs.Message.{padded, contents_most, form_most}
use Rattle.eocunits.specs.Units.{records_in, count_taking, units_after}
use Rattle.demands.specs.HandedEoc.{EocWriteCall, EocReadCall}
use Rattle.demands.specs.Library.{Library}
use Rattle.demands.specs.Checks.{eoc_write_checks, eoc_read_checks}
use Rattle.demands.specs.Frames.{Right, Octets, done}
use Rattle.demands.specs.Messages.{message_of, fields_of, form_of}
use Rattle.demands.specs.WholeUnits.{WholeUnits}

-- the call that writes again what y read
abbrev pub write_again : Library → EocReadCall → List ℕ → EocWriteCall
write_again y c room =
    let r = y.eoc_read c in
    record {
      source = r.numbers.source;
      destination = r.numbers.destination;
      number = r.numbers.number;
      contents = take r.numbers.length r.memory;
      room = room;
    }

-- BACK: what one card writes, the other gets back unchanged
pub record MessagesBack (x y : Library) : Type 0 where
  -- addresses, message number and contents
  pub message : (c : EocWriteCall) (room : List ℕ) → Right (eoc_write_checks c) → Octets c.contents → length room ≡ contents_most
      → y.eoc_read (record { octets = form_of x c; contents = room }) ≡ done (fields_of (message_of c)) (padded contents_most c.contents)
  -- what y reads with answer 0 is, octet for octet, what x writes of it
  pub again : (c : EocReadCall) (room : List ℕ) → Right (eoc_read_checks c) → Octets c.octets → length room ≡ form_most
      → x.eoc_write (write_again y c room) ≡ done (length c.octets) (padded form_most c.octets)
  -- and in the records of the units that it is meant for, y puts the message that x wrote
  pub handed : (c : EocWriteCall) (units : List ℕ) → Right (eoc_write_checks c) → Octets c.contents → WholeUnits units
      → y.eoc_hand_up (record { octets = form_of x c; units = units })
      ≡ done (count_taking (message_of c) (records_in units)) (units_after (message_of c) units)
