-- What the exported functions of operations channel messages promise: what eocwriter, eocreader and eocunits promise, with the answer's number and
-- the values in the structs that cross.
use Rattle.std.specs.Prelude.{◌≡◌, List, ℕ, zero, suc, length}
use Rattle.answer.specs.Answer.{answer, held}
use Rattle.eoc.specs.Message.{Message, written, form_most, contents_most, padded}
use Rattle.eoc.specs.Reading.{message_in}
use Rattle.eoc.specs.Refusals.{write_refusals, read_refusals}
use Rattle.eocwriter.specs.Promises.{message_from}
use Rattle.eocunits.specs.Units.{records_in, count_taking, units_after, hand_up_refusals}
use Rattle.host.specs.declared.channel.EocForm.{EocForm}
use Rattle.host.specs.declared.channel.EocMessage.{EocMessage}
use Rattle.host.specs.declared.channel.EocHandedUp.{EocHandedUp}

-- what is returned: the form's length; with a refusal 0
abbrev pub written_of : ℕ → Message → EocForm
written_of zero m = record { answer = 0; length = length (written m) }
written_of (suc n) m = record { answer = suc n; length = 0 }

-- the message's numbers and how many octets its contents have; with a refusal 0 for every other number
abbrev pub found_of : ℕ → Message → EocMessage
found_of zero m = record { answer = 0; source = m.source; destination = m.destination; number = m.number; length = length m.contents }
found_of (suc n) m = record { answer = suc n; source = 0; destination = 0; number = 0; length = 0 }

-- how many units took the message; with a refusal 0
abbrev pub handed_of : ℕ → Message → List ℕ → EocHandedUp
handed_of zero m units = record { answer = 0; units = count_taking m (records_in units) }
handed_of (suc n) m units = record { answer = suc n; units = 0 }

-- sdsl_eoc_write: what is returned, and the message's one written form with zeros behind it, or what the room held
pub record EocWritten (source destination number : ℕ) (contents room : List ℕ) (r : EocForm) (exit : List ℕ) : Type 0 where
  pub returned : r ≡ written_of (answer (write_refusals source destination number contents room)) (message_from source destination number contents)
  pub room_left : exit ≡ held (answer (write_refusals source destination number contents room)) room
      (padded form_most (written (message_from source destination number contents)))

-- sdsl_eoc_read: what is returned, and the contents with zeros behind them, or what the room held
pub record EocRead (octets contents : List ℕ) (r : EocMessage) (exit : List ℕ) : Type 0 where
  pub returned : r ≡ found_of (answer (read_refusals octets contents)) (message_in octets)
  pub room_left : exit ≡ held (answer (read_refusals octets contents)) contents (padded contents_most (message_in octets).contents)

-- sdsl_eoc_hand_up: what is returned, and every record as it is afterwards, or what it held
pub record EocHanded (octets units : List ℕ) (r : EocHandedUp) (exit : List ℕ) : Type 0 where
  pub returned : r ≡ handed_of (answer (hand_up_refusals octets units)) (message_in octets) units
  pub units_left : exit ≡ held (answer (hand_up_refusals octets units)) units (units_after (message_in octets) units)
