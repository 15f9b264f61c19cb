-- What the exported functions of data-mode frames promise: what datawriter, datacrc, datachecker and datareader promise, with the same numbers in
-- the structs that cross, and 0 for every number but the answer where there is a refusal.
use Rattle.std.specs.Prelude.{◌≡◌, List, ℕ, zero, suc}
use Rattle.answer.specs.Answer.{answer, held}
use Rattle.octets.specs.Bits.{bits_of}
use Rattle.dataframe.specs.declared.Overhead.{Overhead}
use Rattle.dataframe.specs.Frame.{data_octets, overhead_in, payload_in, due_of, Due}
use Rattle.dataframe.specs.Refusals.{crc_refusals, write_refusals, read_refusals}
use Rattle.host.specs.declared.data.DataOverhead.{DataOverhead}
use Rattle.host.specs.declared.data.DataSent.{DataSent}
use Rattle.host.specs.declared.data.DataCrcs.{DataCrcs}
use Rattle.host.specs.declared.data.DataFields.{DataFields}

-- struct sdsl_data_overhead, as it comes in
abbrev pub overhead_of : DataOverhead → Overhead
overhead_of o = record { indicators = o.indicators; eoc = o.eoc; spare = o.spare; stuffing = o.stuffing; crc = o.crc }

-- and as it goes out
abbrev pub overhead_for : Overhead → DataOverhead
overhead_for o = record { indicators = o.indicators; eoc = o.eoc; spare = o.spare; stuffing = o.stuffing; crc = o.crc }

-- what is returned where a frame is written: the six that the next frame has to carry; with a refusal 0
abbrev pub written_of : ℕ → ℕ → ℕ → List ℕ → DataSent
written_of zero form k bits = record { answer = 0; crc = due_of form k bits }
written_of (suc n) form k bits = record { answer = suc n; crc = 0 }

-- sdsl_data_write: what is returned, and the frame written, or as it was; the six are what is left of the division of what was written
pub record DataFrameWritten (form k word : ℕ) (o : DataOverhead) (octets frame : List ℕ) (r : DataSent) (exit : List ℕ) : Type 0 where
  pub given : r ≡ written_of (answer (write_refusals form k word (overhead_of o) octets frame)) form k
      (bits_of (data_octets form k word (overhead_of o) octets))
  pub left : exit ≡ held (answer (write_refusals form k word (overhead_of o) octets frame)) frame (data_octets form k word (overhead_of o) octets)
  pub due_right : r.answer ≡ 0 → Due form k (bits_of exit) r.crc

-- what is returned of a frame's check bits; with a refusal 0 for every other number
abbrev pub crc_of : ℕ → ℕ → ℕ → List ℕ → DataCrcs
crc_of zero form k bits = record { answer = 0; carried = (overhead_in form k bits).crc; due = due_of form k bits }
crc_of (suc n) form k bits = record { answer = suc n; carried = 0; due = 0 }

-- sdsl_data_crc: what is returned; the six due are what is left of the division
pub record DataCrcGiven (form k : ℕ) (frame : List ℕ) (r : DataCrcs) : Type 0 where
  pub given : r ≡ crc_of (answer (crc_refusals form k frame)) form k (bits_of frame)
  pub due_right : r.answer ≡ 0 → Due form k (bits_of frame) r.due

-- no overhead
abbrev pub no_overhead : Overhead
no_overhead = record { indicators = 0; eoc = 0; spare = 0; stuffing = 0; crc = 0 }

-- what is returned where a frame is read; with a refusal 0 for every other number
abbrev pub found_of : ℕ → ℕ → ℕ → List ℕ → DataFields
found_of zero form k bits = record { answer = 0; overhead = overhead_for (overhead_in form k bits) }
found_of (suc n) form k bits = record { answer = suc n; overhead = overhead_for no_overhead }

-- sdsl_data_read: what is returned, and the payload's octets, or what the room held; with 0 the six given are what is left of the frame's division
pub record DataFrameRead (form k word next : ℕ) (frame octets : List ℕ) (r : DataFields) (exit : List ℕ) : Type 0 where
  pub found : r ≡ found_of (answer (read_refusals form k word next frame octets)) form k (bits_of frame)
  pub payload_left : exit ≡ held (answer (read_refusals form k word next frame octets)) octets (payload_in form k (bits_of frame))
  pub due_right : r.answer ≡ 0 → Due form k (bits_of frame) next
  pub due_wrong : r.answer ≡ 7 → Due form k (bits_of frame) next → ⊥
