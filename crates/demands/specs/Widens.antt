-- From the calls that C can make to every call: the two libraries of the theorem `widened`.
use Rattle.std.specs.Prelude.{◌≡◌, true, List, ℕ, ℤ}
use Rattle.recurrence.specs.declared.Way.{Way}
use Rattle.demands.specs.Library.{Library}
use Rattle.demands.specs.Handed.{SendCall, ReadCall, BitCall, RunCall, FrameCall, WordsCall, EncodeCall, EncodeRunCall, PrecodeCall}
use Rattle.demands.specs.HandedData.{DataWriteCall, DataCrcCall, DataCheckCall, DataReadCall}
use Rattle.demands.specs.HandedEoc.{EocWriteCall, EocReadCall, EocUnitsCall}
use Rattle.demands.specs.HandedLine.{ReceiveCall}
use Rattle.demands.specs.HandedCodes.{StartCall, StepCall, CodesCall}
use Rattle.demands.specs.FromC.{Calls, from_c}
use Rattle.demands.specs.Contracts.{KeepsFor, Keeps}

-- two libraries give the same for the calls that are meant
pub record SameFor (calls : Calls) (x y : Library) : Type 0 where
  pub send : (c : SendCall) → calls.send c ≡ true → x.send c ≡ y.send c
  pub check : (frame : List ℕ) → calls.check frame ≡ true → x.check frame ≡ y.check frame
  pub read : (c : ReadCall) → calls.read c ≡ true → x.read c ≡ y.read c
  pub data_write : (c : DataWriteCall) → calls.data_write c ≡ true → x.data_write c ≡ y.data_write c
  pub data_crc : (c : DataCrcCall) → calls.data_crc c ≡ true → x.data_crc c ≡ y.data_crc c
  pub data_check : (c : DataCheckCall) → calls.data_check c ≡ true → x.data_check c ≡ y.data_check c
  pub data_read : (c : DataReadCall) → calls.data_read c ≡ true → x.data_read c ≡ y.data_read c
  pub eoc_write : (c : EocWriteCall) → calls.eoc_write c ≡ true → x.eoc_write c ≡ y.eoc_write c
  pub eoc_read : (c : EocReadCall) → calls.eoc_read c ≡ true → x.eoc_read c ≡ y.eoc_read c
  pub eoc_hand_up : (c : EocUnitsCall) → calls.eoc_hand_up c ≡ true → x.eoc_hand_up c ≡ y.eoc_hand_up c
  pub scrambler_start : (end : ℕ) → calls.scrambler_start end ≡ true → x.scrambler_start end ≡ y.scrambler_start end
  pub bit : (way : Way) (c : BitCall) → calls.bit c ≡ true → x.bit way c ≡ y.bit way c
  pub run : (way : Way) (c : RunCall) → calls.run c ≡ true → x.run way c ≡ y.run way c
  pub descramble_frame : (c : FrameCall) → calls.descramble_frame c ≡ true → x.descramble_frame c ≡ y.descramble_frame c
  pub receive_start : (end : ℕ) → calls.receive_start end ≡ true → x.receive_start end ≡ y.receive_start end
  pub receive : (c : ReceiveCall) → calls.receive c ≡ true → x.receive c ≡ y.receive c
  pub activation : (bit : ℕ) → calls.activation bit ≡ true → x.activation bit ≡ y.activation bit
  pub level : (code : ℕ) → calls.level code ≡ true → x.level code ≡ y.level code
  pub code : (sixteenths : ℤ) → calls.code sixteenths ≡ true → x.code sixteenths ≡ y.code sixteenths
  pub encoder_start : (c : WordsCall) → calls.encoder_start c ≡ true → x.encoder_start c ≡ y.encoder_start c
  pub encode : (c : EncodeCall) → calls.encode c ≡ true → x.encode c ≡ y.encode c
  pub encode_run : (c : EncodeRunCall) → calls.encode_run c ≡ true → x.encode_run c ≡ y.encode_run c
  pub history_start : (history : List ℕ) → calls.history_start history ≡ true → x.history_start history ≡ y.history_start history
  pub precode : (c : PrecodeCall) → calls.precode c ≡ true → x.precode c ≡ y.precode c
  pub decode : (c : PrecodeCall) → calls.decode c ≡ true → x.decode c ≡ y.decode c
  pub shape : (y' : ℤ) → calls.shape y' ≡ true → x.shape y' ≡ y.shape y'
  pub start : (c : StartCall) → calls.start c ≡ true → x.start c ≡ y.start c
  pub step : (c : StepCall) → calls.step c ≡ true → x.step c ≡ y.step c
  pub run_codes : (c : CodesCall) → calls.run_codes c ≡ true → x.run_codes c ≡ y.run_codes c

-- the step from what C can hand in to every call (theorem `widened`)
abbrev pub Widens : Library → Type 0
Widens x = KeepsFor from_c x → (y : Library) × Keeps y × SameFor from_c x y
