-- Demand 2's first sentence of data-mode frames, over libraries of any make: exactly those of 002, clauses 7.1.2 to 7.1.5, as SCOPE sets them out
-- ("The data-mode frame"). Which bits stand where is in dataframe/specs/Table.antt and Frame.antt.
use Rattle.std.specs.Prelude.{◌≡◌, ◌↔◌, List, [], ◌∷◌}
use Rattle.answer.specs.Answer.{Refusal}
use Rattle.octets.specs.Bits.{bits_of}
use Rattle.remainder.specs.Division.{polynomial}
use Rattle.dataframe.specs.Table.{crc}
use Rattle.dataframe.specs.Frame.{data_octets, carried, overhead_in, payload_in, due_of, Due}
use Rattle.host.specs.Data.{overhead_of, overhead_for}
use Rattle.demands.specs.Handed.{none}
use Rattle.demands.specs.HandedData.{DataWriteCall, DataCrcCall, DataCheckCall, DataReadCall}
use Rattle.demands.specs.Library.{Library}
use Rattle.demands.specs.Checks.{data_write_checks, data_crc_checks, data_check_checks, data_read_checks}
use Rattle.demands.specs.Frames.{Right, done}

-- a list of checks without its last: those that run before it
abbrev pub all_but_last : List Refusal → List Refusal
all_but_last [] = []
all_but_last (t ∷ []) = []
all_but_last (t ∷ u ∷ ts) = t ∷ all_but_last (u ∷ ts)

-- DATA-MODE FRAMES (002, clause 7.1.5)
pub record DataFrames (x : Library) : Type 0 where
  -- SCOPE, M23: writing "gives the frame and its own six, for the next frame". 002: "The CRC is generated for each transmitted frame, and then
  -- transmitted in the following frame."
  pub written : (c : DataWriteCall) → Right (data_write_checks c)
      → let frame = data_octets c.form c.size c.sync (overhead_of c.overhead) c.payload in
      x.data_write c ≡ done (due_of c.form c.size (bits_of frame)) frame
  -- They are what is left of what was written: "all bits of the Nth frame except the fourteen sync word bits, the six crc-bits and any stuffing
  -- bits"; "the polynomial is multiplied by the factor X^6, and the result is divided, modulo 2, by the generator polynomial"
  pub due : (c : DataWriteCall) → Right (data_write_checks c) → Due c.form c.size (bits_of (x.data_write c).memory) (x.data_write c).numbers
  -- of any frame, the six that stand in it, and the six due in the next: "the coefficient of the term X^5 in the remainder polynomial is check bit
  -- crc1"
  pub sixes : (c : DataCrcCall) → Right (data_crc_checks c)
      → x.data_crc c ≡ done (record {
        carried = polynomial (carried crc c.form c.size (bits_of c.frame));
        due = due_of c.form c.size (bits_of c.frame);
      }) none
  -- these too are what is left of the frame
  pub sixes_due : (c : DataCrcCall) → Right (data_crc_checks c) → Due c.form c.size (bits_of c.frame) (x.data_crc c).numbers.due
  -- a frame to which no check applies is answered 0
  pub checked : (c : DataCheckCall) → Right (data_check_checks c) → x.data_check c ≡ done none none
  -- and read: what it carries, and its payload
  pub read : (c : DataReadCall) → Right (data_read_checks c)
      → x.data_read c ≡ done (overhead_for (overhead_in c.form c.size (bits_of c.frame))) (payload_in c.form c.size (bits_of c.frame))
  -- M40: 7 comes last, exactly where no earlier check applies, and the six that the next frame carries are not what is left of this one
  pub check_seven : (c : DataCheckCall) → ((x.data_check c).answer ≡ 7)
      ↔ (Right (all_but_last (data_check_checks c)) × (Due c.form c.size (bits_of c.frame) c.next → ⊥))
  -- the same in reading
  pub read_seven : (c : DataReadCall) → ((x.data_read c).answer ≡ 7)
      ↔ (Right (all_but_last (data_read_checks c)) × (Due c.form c.size (bits_of c.frame) c.next → ⊥))
