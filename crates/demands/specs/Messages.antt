-- Demand 2's first sentence of operations channel messages, over libraries of any make: exactly those of 002, clauses 10.5.5.1 to 10.5.5.6, as SCOPE
-- sets them out ("Messages of the operations channel"). What a message looks like is in eoc/specs/Message.antt and Reading.antt, who takes it in
-- eoc/specs/Addresses.antt and eocunits/specs/Units.antt.
use Rattle.std.specs.Prelude.{◌≡◌, List, ℕ, length, take}
use Rattle.fcs.specs.Sequence.{Sequence}
use Rattle.eoc.specs.Message.{Message, written, padded, contents_most, form_most}
use Rattle.eoc.specs.Reading.{fields_in, body_in, sequence_in, message_in}
use Rattle.eocunits.specs.Units.{records_in, count_taking, units_after}
use Rattle.demands.specs.HandedEoc.{EocWriteCall, EocReadCall, EocFields, EocUnitsCall}
use Rattle.demands.specs.Library.{Library}
use Rattle.demands.specs.Checks.{eoc_write_checks, eoc_read_checks, eoc_hand_up_checks}
use Rattle.demands.specs.Frames.{Right, done}

-- the message that a call is to write
abbrev pub message_of : EocWriteCall → Message
message_of c = record { source = c.source; destination = c.destination; number = c.number; contents = c.contents }

-- the numbers of a message
abbrev pub fields_of : Message → EocFields
fields_of m = record { source = m.source; destination = m.destination; number = m.number; length = length m.contents }

-- the form that a library writes: so many octets of the room as it says
abbrev pub form_of : Library → EocWriteCall → List ℕ
form_of x c = take (x.eoc_write c).numbers (x.eoc_write c).memory

-- MESSAGES (002, clauses 10.5.5.2 to 10.5.5.5)
pub record Messages (x : Library) : Type 0 where
  -- "One message has one written form": flag, addresses, message number, contents, check sequence, flag, with the escapes; zero behind it
  pub written_form : (c : EocWriteCall) → Right (eoc_write_checks c)
      → x.eoc_write c ≡ done (length (written (message_of c))) (padded form_most (written (message_of c)))
  -- "the check sequence of RFC 1662": the last two octets of it, without escapes, are what is left of the division of those before
  pub sequence : (c : EocWriteCall) → Right (eoc_write_checks c) → Sequence (body_in (fields_in (form_of x c))) (sequence_in (fields_in (form_of x c)))
  -- "reading is its inverse": the message of the form, its contents with zeros behind them
  pub read : (c : EocReadCall) → Right (eoc_read_checks c)
      → x.eoc_read c ≡ done (fields_of (message_in c.octets)) (padded contents_most (message_in c.octets).contents)
  -- "A unit hands a message up exactly when the destination is its own, or is one that clause 10.5.5.5 makes it answer to. Unit records it isn't
  -- meant for stay as they are."
  pub handed_up : (c : EocUnitsCall) → Right (eoc_hand_up_checks c)
      → x.eoc_hand_up c ≡ done (count_taking (message_in c.octets) (records_in c.units)) (units_after (message_in c.octets) c.units)
