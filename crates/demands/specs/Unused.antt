-- "8 is never given again and its number stays unused": by no function, for no call.
use Rattle.std.specs.Prelude.{◌≡◌}
use Rattle.recurrence.specs.declared.Way.{Way}
use Rattle.demands.specs.Handed.{Outcome}
use Rattle.demands.specs.Library.{Library}

-- a function never answers 8, whatever is handed in
abbrev pub NeverEight : {C N M : Type 0} → (C → Outcome N M) → Type 0
NeverEight {C} f = (c : C) → (f c).answer ≡ 8 → ⊥

-- no function of a library does (theorem `eight-unused`: of every library that meets demand 1)
pub record EightUnused (x : Library) : Type 0 where
  pub send : NeverEight x.send
  pub check : NeverEight x.check
  pub read : NeverEight x.read
  pub data_write : NeverEight x.data_write
  pub data_crc : NeverEight x.data_crc
  pub data_check : NeverEight x.data_check
  pub data_read : NeverEight x.data_read
  pub eoc_write : NeverEight x.eoc_write
  pub eoc_read : NeverEight x.eoc_read
  pub eoc_hand_up : NeverEight x.eoc_hand_up
  pub scrambler_start : NeverEight x.scrambler_start
  pub bit : (way : Way) → NeverEight (x.bit way)
  pub run : (way : Way) → NeverEight (x.run way)
  pub descramble_frame : NeverEight x.descramble_frame
  pub receive_start : NeverEight x.receive_start
  pub receive : NeverEight x.receive
  pub activation : NeverEight x.activation
  pub level : NeverEight x.level
  pub code : NeverEight x.code
  pub encoder_start : NeverEight x.encoder_start
  pub encode : NeverEight x.encode
  pub encode_run : NeverEight x.encode_run
  pub history_start : NeverEight x.history_start
  pub precode : NeverEight x.precode
  pub decode : NeverEight x.decode
  pub shape : NeverEight x.shape
  pub start : NeverEight x.start
  pub step : NeverEight x.step
  pub run_codes : NeverEight x.run_codes
