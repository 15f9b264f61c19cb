-- What is handed in to the functions of sdsl.h for data-mode frames, and what comes back.
use Rattle.std.specs.Prelude.{List, ℕ}
use Rattle.host.specs.declared.data.DataOverhead.{DataOverhead}

-- sdsl_data_write: the form, a sub-block's size, the sync word, what else the frame carries, its payload, room for the form's longest frame
pub record DataWriteCall : Type 0 where
  pub form : ℕ
  pub size : ℕ
  pub sync : ℕ
  pub overhead : DataOverhead
  pub payload : List ℕ
  pub frame : List ℕ

-- sdsl_data_crc
pub record DataCrcCall : Type 0 where
  pub form : ℕ
  pub size : ℕ
  pub frame : List ℕ

-- the six check bits that stand in a frame, and those due in the next
pub record Sixes : Type 0 where
  pub carried : ℕ
  pub due : ℕ

-- sdsl_data_check: a frame, and the six that the next one carries
pub record DataCheckCall : Type 0 where
  pub form : ℕ
  pub size : ℕ
  pub sync : ℕ
  pub next : ℕ
  pub frame : List ℕ

-- sdsl_data_read: the same, and room for the payload
pub record DataReadCall : Type 0 where
  pub form : ℕ
  pub size : ℕ
  pub sync : ℕ
  pub next : ℕ
  pub frame : List ℕ
  pub payload : List ℕ
