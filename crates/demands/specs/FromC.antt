-- WHAT C CAN HAND IN, by the types of the exported functions' arguments; tests/contracts holds these to crates/host/src.
use Rattle.std.specs.Prelude.{Bool, true, ◌&&◌, List, [], ◌∷◌, ℕ, ◌^◌, ltb, ℤ, pos, negsuc, length}
use Rattle.host.specs.declared.data.DataOverhead.{DataOverhead}
use Rattle.host.specs.declared.receiving.Receiver.{Receiver}
use Rattle.host.specs.declared.supervising.Supervisor.{Supervisor}
use Rattle.demands.specs.Handed.{SendCall, ReadCall, BitCall, RunCall, FrameCall, WordsCall, EncodeCall, EncodeRunCall, PrecodeCall}
use Rattle.demands.specs.HandedData.{DataWriteCall, DataCrcCall, DataCheckCall, DataReadCall}
use Rattle.demands.specs.HandedEoc.{EocWriteCall, EocReadCall, EocUnitsCall}
use Rattle.demands.specs.HandedLine.{ReceiveCall}
use Rattle.demands.specs.HandedCodes.{StartCall, StepCall, CodesCall}

-- a uint32_t
abbrev pub u32 : ℕ → Bool
u32 n = ltb n (2 ^ 32)

-- a size_t
abbrev pub usize : ℕ → Bool
usize n = ltb n (2 ^ 64)

-- an int32_t; `negsuc n` is -(n + 1)
abbrev pub i32 : ℤ → Bool
i32 (pos n) = ltb n (2 ^ 31)
i32 (negsuc n) = ltb n (2 ^ 31)

-- octets
abbrev pub octets : List ℕ → Bool
octets [] = true
octets (o ∷ os) = ltb o 256 && octets os

-- a buffer
abbrev pub buffer : List ℕ → Bool
buffer s = usize (length s) && octets s

-- a struct sdsl_data_overhead
abbrev pub overhead : DataOverhead → Bool
overhead o = u32 o.indicators && u32 o.eoc && u32 o.spare && u32 o.stuffing && u32 o.crc

-- a struct sdsl_receiver
abbrev pub receiver : Receiver → Bool
receiver s = u32 s.end && u32 s.heard && u32 s.from

-- a struct sdsl_supervisor
abbrev pub supervisor : Supervisor → Bool
supervisor s = u32 s.end && u32 s.phase && u32 s.ticks && u32 s.attempt && u32 s.silence && u32 s.converged && u32 s.seen

-- which calls are meant, of each function
pub record Calls : Type 0 where
  pub send : SendCall → Bool
  pub check : List ℕ → Bool
  pub read : ReadCall → Bool
  pub data_write : DataWriteCall → Bool
  pub data_crc : DataCrcCall → Bool
  pub data_check : DataCheckCall → Bool
  pub data_read : DataReadCall → Bool
  pub eoc_write : EocWriteCall → Bool
  pub eoc_read : EocReadCall → Bool
  pub eoc_hand_up : EocUnitsCall → Bool
  pub scrambler_start : ℕ → Bool
  pub bit : BitCall → Bool
  pub run : RunCall → Bool
  pub descramble_frame : FrameCall → Bool
  pub receive_start : ℕ → Bool
  pub receive : ReceiveCall → Bool
  pub activation : ℕ → Bool
  pub level : ℕ → Bool
  pub code : ℤ → Bool
  pub encoder_start : WordsCall → Bool
  pub encode : EncodeCall → Bool
  pub encode_run : EncodeRunCall → Bool
  pub history_start : List ℕ → Bool
  pub precode : PrecodeCall → Bool
  pub decode : PrecodeCall → Bool
  pub shape : ℤ → Bool
  pub start : StartCall → Bool
  pub step : StepCall → Bool
  pub run_codes : CodesCall → Bool

-- those that C can make
abbrev pub from_c : Calls
from_c = record {
  send = λ c. u32 c.end && u32 c.state && u32 c.kind && u32 c.count && buffer c.coefficients && u32 c.a && u32 c.b
      && buffer c.vendor && buffer c.output;
  check = λ frame. buffer frame;
  read = λ c. buffer c.frame && buffer c.coefficients && buffer c.vendor && buffer c.reserved;
  data_write = λ c. u32 c.form && u32 c.size && u32 c.sync && overhead c.overhead && buffer c.payload && buffer c.frame;
  data_crc = λ c. u32 c.form && u32 c.size && buffer c.frame;
  data_check = λ c. u32 c.form && u32 c.size && u32 c.sync && u32 c.next && buffer c.frame;
  data_read = λ c. u32 c.form && u32 c.size && u32 c.sync && u32 c.next && buffer c.frame && buffer c.payload;
  eoc_write = λ c. u32 c.source && u32 c.destination && u32 c.number && buffer c.contents && buffer c.room;
  eoc_read = λ c. buffer c.octets && buffer c.contents;
  eoc_hand_up = λ c. buffer c.octets && buffer c.units;
  scrambler_start = λ end. u32 end;
  bit = λ c. u32 c.end && u32 c.state && u32 c.bit;
  run = λ c. u32 c.end && u32 c.state && buffer c.input && usize c.bits && buffer c.output;
  descramble_frame = λ c. u32 c.end && u32 c.state && buffer c.frame && buffer c.output;
  receive_start = λ end. u32 end;
  receive = λ c. receiver c.state && buffer c.line && buffer c.lump && usize c.bits && buffer c.frame;
  activation = λ bit. u32 bit;
  level = λ code. u32 code;
  code = λ sixteenths. i32 sixteenths;
  encoder_start = λ c. u32 c.a && u32 c.b;
  encode = λ c. u32 c.a && u32 c.b && u32 c.register && u32 c.symbol;
  encode_run = λ c. u32 c.a && u32 c.b && u32 c.register && buffer c.symbols && buffer c.codes;
  history_start = λ history. buffer history;
  precode = λ c. buffer c.coefficients && buffer c.history && buffer c.symbols && buffer c.room;
  decode = λ c. buffer c.coefficients && buffer c.history && buffer c.symbols && buffer c.room;
  shape = λ y. i32 y;
  start = λ c. u32 c.end && u32 c.silence;
  step = λ c. supervisor c.state && u32 c.code;
  run_codes = λ c. supervisor c.state && buffer c.codes;
}
