-- Demand 2's second sentence of data-mode frames, over two libraries of any make: what one card writes, the other gets back unchanged.
use Rattle.std.specs.Prelude.{◌≡◌, cond, List, [], ◌∷◌, ℕ, ◌<◌, ◌^◌, eqb, length}
use Rattle.dataframe.specs.Table.{synchronous, payload_length, room_of}
use Rattle.host.specs.declared.data.DataOverhead.{DataOverhead}
use Rattle.demands.specs.HandedData.{DataWriteCall, DataReadCall}
use Rattle.demands.specs.Library.{Library}
use Rattle.demands.specs.Checks.{data_write_checks, data_read_checks}
use Rattle.demands.specs.Frames.{Right, Octets, done}

-- what a frame of the form carries: spare is 0 where the form has none
abbrev pub carried_by : ℕ → DataOverhead → DataOverhead
carried_by form o =
    record { indicators = o.indicators; eoc = o.eoc; spare = cond (eqb form synchronous) o.spare 0; stuffing = o.stuffing; crc = o.crc }

-- a frame that x writes is read by y with these six: overhead and payload come back
abbrev pub ComesBack : Library → Library → DataWriteCall → ℕ → Type 0
ComesBack x y c six =
    (room : List ℕ) → length room ≡ payload_length c.size
    → y.data_read (record { form = c.form; size = c.size; sync = c.sync; next = six; frame = (x.data_write c).memory; payload = room })
    ≡ done (carried_by c.form c.overhead) c.payload

-- a frame to write with these six in it
abbrev pub with_six : ℕ → DataWriteCall → DataWriteCall
with_six six c =
    let o = c.overhead in
    record {
      form = c.form;
      size = c.size;
      sync = c.sync;
      overhead = record { indicators = o.indicators; eoc = o.eoc; spare = o.spare; stuffing = o.stuffing; crc = six };
      payload = c.payload;
      frame = c.frame;
    }

-- frames one after the other: the first with these six in it, and each other with the six that writing the one before handed out
abbrev pub in_a_row : Library → ℕ → List DataWriteCall → List DataWriteCall
in_a_row x six [] = []
in_a_row x six (c ∷ cs) = with_six six c ∷ in_a_row x (x.data_write (with_six six c)).numbers cs

-- the six that y finds in a frame that x wrote
abbrev pub six_in : Library → Library → DataWriteCall → ℕ
six_in x y c = (y.data_crc (record { form = c.form; size = c.size; frame = (x.data_write c).memory })).numbers.carried

-- each of them comes back with the six that y finds in the next, and the last with the six that writing it handed out
pub data AllComeBack (x y : Library) : List DataWriteCall → Type 0 where
  nothing : AllComeBack x y []
  last : {c : DataWriteCall} → ComesBack x y c (x.data_write c).numbers → AllComeBack x y (c ∷ [])
  before : {c d : DataWriteCall} {cs : List DataWriteCall} → ComesBack x y c (six_in x y d) → AllComeBack x y (d ∷ cs) → AllComeBack x y (c ∷ d ∷ cs)

-- calls to which no check applies, with octets of payload
pub data AllRight : List DataWriteCall → Type 0 where
  none : AllRight []
  one : {c : DataWriteCall} {cs : List DataWriteCall} → Right (data_write_checks c) → Octets c.payload → AllRight cs → AllRight (c ∷ cs)

-- BACK: what one card writes, the other gets back unchanged
pub record DataBack (x y : Library) : Type 0 where
  -- a frame with the six that writing it handed out
  pub frame : (c : DataWriteCall) → Right (data_write_checks c) → Octets c.payload → ComesBack x y c (x.data_write c).numbers
  -- frames one after the other. "When there is no immediately preceding frame, the check bits may be assigned any value."
  pub frames : (six : ℕ) (cs : List DataWriteCall) → six < 2 ^ 6 → AllRight cs → AllComeBack x y (in_a_row x six cs)
  -- and what y reads with answer 0 is, octet for octet, what x writes of it; the six that x hands out are those that y was given
  pub again : (c : DataReadCall) (room : List ℕ) → Right (data_read_checks c) → Octets c.frame → length room ≡ room_of c.form
      → let r = y.data_read c in
      x.data_write (record { form = c.form; size = c.size; sync = c.sync; overhead = r.numbers; payload = r.memory; frame = room })
      ≡ done c.next c.frame
