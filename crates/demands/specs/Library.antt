-- A library of any make: each function of sdsl.h as a function from what is handed in to what comes back, so a call always ends, with one result.
use Rattle.std.specs.Prelude.{List, ℕ, Float, ℤ}
use Rattle.recurrence.specs.declared.Way.{Way}
use Rattle.host.specs.declared.data.DataOverhead.{DataOverhead}
use Rattle.host.specs.declared.receiving.Receiver.{Receiver}
use Rattle.host.specs.declared.supervising.Supervisor.{Supervisor}
use Rattle.demands.specs.Handed.{Outcome, None, SendCall, ReadCall, Fields, Rooms, BitCall, RunCall, FrameCall, Line, WordsCall, EncodeCall, Symbol}
use Rattle.demands.specs.Handed.{EncodeRunCall, Codes, PrecodeCall, Signal}
use Rattle.demands.specs.HandedData.{DataWriteCall, DataCrcCall, Sixes, DataCheckCall, DataReadCall}
use Rattle.demands.specs.HandedEoc.{EocWriteCall, EocReadCall, EocFields, EocUnitsCall}
use Rattle.demands.specs.HandedLine.{ReceiveCall, GivenPlace, LineRooms}
use Rattle.demands.specs.HandedCodes.{StartCall, StepCall, Shown, CodesCall, Attempts}

-- the functions of sdsl.h
pub record Library : Type 0 where
  pub send : SendCall → Outcome None Line
  pub check : List ℕ → Outcome None None
  pub read : ReadCall → Outcome Fields Rooms
  pub data_write : DataWriteCall → Outcome ℕ (List ℕ)
  pub data_crc : DataCrcCall → Outcome Sixes None
  pub data_check : DataCheckCall → Outcome None None
  pub data_read : DataReadCall → Outcome DataOverhead (List ℕ)
  pub eoc_write : EocWriteCall → Outcome ℕ (List ℕ)
  pub eoc_read : EocReadCall → Outcome EocFields (List ℕ)
  pub eoc_hand_up : EocUnitsCall → Outcome ℕ (List ℕ)
  pub scrambler_start : ℕ → Outcome None ℕ
  pub bit : Way → BitCall → Outcome ℕ ℕ
  pub run : Way → RunCall → Outcome None Line
  pub descramble_frame : FrameCall → Outcome None Line
  pub receive_start : ℕ → Outcome GivenPlace Receiver
  pub receive : ReceiveCall → Outcome GivenPlace LineRooms
  pub activation : ℕ → Outcome ℤ None
  pub level : ℕ → Outcome ℤ None
  pub code : ℤ → Outcome ℕ None
  pub encoder_start : WordsCall → Outcome None ℕ
  pub encode : EncodeCall → Outcome Symbol ℕ
  pub encode_run : EncodeRunCall → Outcome None Codes
  pub history_start : List ℕ → Outcome None (List ℕ)
  pub precode : PrecodeCall → Outcome None Signal
  pub decode : PrecodeCall → Outcome None Signal
  pub shape : ℤ → Outcome Float None
  pub start : StartCall → Outcome Shown Supervisor
  pub step : StepCall → Outcome Shown Supervisor
  pub run_codes : CodesCall → Outcome Attempts Supervisor
