-- LIBRARIES WITH WRONG DATA-MODE FRAMES, which have to be rejected by demand 2 as those of WrongLibraries.antt: what such a one does, over calls
-- that are answered.
use Rattle.std.specs.Prelude.{◌≡◌, List, ℕ}
use Rattle.octets.specs.Bits.{bits_of}
use Rattle.remainder.specs.Division.{polynomial}
use Rattle.dataframe.specs.Table.{crc}
use Rattle.dataframe.specs.Frame.{carried, Due}
use Rattle.demands.specs.HandedData.{DataWriteCall}
use Rattle.demands.specs.Library.{Library}
use Rattle.demands.specs.WrongLibraries.{Refuses, Unwritten}

-- the same call with other payload
abbrev pub with_payload : List ℕ → DataWriteCall → DataWriteCall
with_payload payload c =
    record { form = c.form; size = c.size; sync = c.sync; overhead = c.overhead; payload = payload; frame = c.frame }

-- a writer that returns one frame always, whatever the payload
abbrev pub OneDataFrame : Library → Type 0
OneDataFrame x = (c : DataWriteCall) (payload : List ℕ) → (x.data_write c).answer ≡ 0 → (x.data_write (with_payload payload c)).answer ≡ 0
    → (x.data_write (with_payload payload c)).memory ≡ (x.data_write c).memory

-- one that leaves the frame unwritten
abbrev pub DataFrameUnwritten : Library → Type 0
DataFrameUnwritten x = Unwritten x.data_write (λ m. m) (λ c. c.frame)

-- a reader that leaves the payload unwritten
abbrev pub PayloadUnwritten : Library → Type 0
PayloadUnwritten x = Unwritten x.data_read (λ m. m) (λ c. c.payload)

-- a writer whose frames carry their own check bits: crc1 to crc6 of a frame are what is left of this frame, not of the one before
abbrev pub OwnSix : Library → Type 0
OwnSix x = (c : DataWriteCall) → (x.data_write c).answer ≡ 0 → let bits = bits_of (x.data_write c).memory in
    Due c.form c.size bits (polynomial (carried crc c.form c.size bits))

-- a library is none of these (theorem `data-rejected`: none whose data-mode frames are those of `DataFrames` is)
pub record RejectedData (x : Library) : Type 0 where
  -- by its sentence `written`
  pub refuses_writing : Refuses x.data_write → ⊥
  pub one_frame : OneDataFrame x → ⊥
  pub frame_unwritten : DataFrameUnwritten x → ⊥
  pub own_six : OwnSix x → ⊥
  -- `sixes`
  pub refuses_sixes : Refuses x.data_crc → ⊥
  -- `checked`
  pub refuses_checking : Refuses x.data_check → ⊥
  -- `written` and `read`
  pub refuses_reading : Refuses x.data_read → ⊥
  pub payload_unwritten : PayloadUnwritten x → ⊥
