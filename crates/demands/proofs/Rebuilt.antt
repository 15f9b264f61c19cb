-- Our library with one function changed meets demand 1 where that function does. Assumes nothing.
use mathlib.Core.Path.{refl, ap}
use mathlib.Core.List.{List}
use Prim.Native.Nat.{ℕ}
use Rattle.answer.specs.Answer.{answer, held}
use Rattle.answer.proofs.Laws.{kept}
use Rattle.recurrence.specs.declared.Way.{Way}
use Rattle.supervisor.specs.declared.Supervisor.{Supervisor as State}
use Rattle.host.specs.declared.data.DataOverhead.{DataOverhead}
use Rattle.host.specs.declared.supervising.Supervisor.{Supervisor}
use Rattle.host.specs.Data.{overhead_for, no_overhead}
use Rattle.host.specs.Supervising.{state_in, state_of}
use Rattle.demands.specs.Handed.{Outcome, None, none, SendCall, ReadCall, Fields, Rooms, RunCall, FrameCall, Line, EncodeRunCall, Codes, PrecodeCall}
use Rattle.demands.specs.Handed.{Signal}
use Rattle.demands.specs.HandedData.{DataWriteCall, DataReadCall}
use Rattle.demands.specs.HandedEoc.{EocWriteCall, EocReadCall, EocFields, EocUnitsCall}
use Rattle.demands.specs.HandedLine.{ReceiveCall, GivenPlace, LineRooms}
use Rattle.demands.specs.HandedCodes.{StepCall, Shown}
use Rattle.demands.specs.Library.{Library}
use Rattle.demands.specs.One.{Answers, One}
use Rattle.demands.specs.Checks.{data_write_checks, data_read_checks, eoc_write_checks, eoc_read_checks, eoc_hand_up_checks, receive_checks}
use Rattle.demands.specs.Checks.{send_checks, read_checks, run_checks, frame_checks, encode_run_checks, history_start_checks, precode_checks, step_checks}
use Rattle.demands.proofs.One.{answers, ordered, one}
use Rattle.demands.proofs.Ours.{ours, ours-keep}

-- ours meets it
pub ours-one : One ours
ours-one = one ours ours-keep

-- the functions of operations channel messages
pub record EocParts : Type 0 where
  pub write : EocWriteCall → Outcome ℕ (List ℕ)
  pub read : EocReadCall → Outcome EocFields (List ℕ)
  pub hand-up : EocUnitsCall → Outcome ℕ (List ℕ)

-- what demand 1 asks of them
pub record EocPartsAnswer (p : EocParts) : Type 0 where
  pub write : Answers p.write eoc_write_checks (λ c. c.room) 0
  pub read : Answers p.read eoc_read_checks (λ c. c.contents) (record { source = 0; destination = 0; number = 0; length = 0 })
  pub hand-up : Answers p.hand-up eoc_hand_up_checks (λ c. c.units) 0

-- the functions that are changed below, and the rest of ours
pub record Parts : Type 0 where
  pub send : SendCall → Outcome None Line
  pub read : ReadCall → Outcome Fields Rooms
  pub data_write : DataWriteCall → Outcome ℕ (List ℕ)
  pub data_read : DataReadCall → Outcome DataOverhead (List ℕ)
  pub eoc : EocParts
  pub receive : ReceiveCall → Outcome GivenPlace LineRooms
  pub run : Way → RunCall → Outcome None Line
  pub descramble_frame : FrameCall → Outcome None Line
  pub encode_run : EncodeRunCall → Outcome None Codes
  pub history_start : List ℕ → Outcome None (List ℕ)
  pub precode : PrecodeCall → Outcome None Signal
  pub decode : PrecodeCall → Outcome None Signal
  pub step : StepCall → Outcome Shown Supervisor

abbrev pub rebuilt : Parts → Library
rebuilt p = record {
  send = p.send;
  check = ours.check;
  read = p.read;
  data_write = p.data_write;
  data_crc = ours.data_crc;
  data_check = ours.data_check;
  data_read = p.data_read;
  eoc_write = p.eoc.write;
  eoc_read = p.eoc.read;
  eoc_hand_up = p.eoc.hand-up;
  scrambler_start = ours.scrambler_start;
  bit = ours.bit;
  run = p.run;
  descramble_frame = p.descramble_frame;
  receive_start = ours.receive_start;
  receive = p.receive;
  activation = ours.activation;
  level = ours.level;
  code = ours.code;
  encoder_start = ours.encoder_start;
  encode = ours.encode;
  encode_run = p.encode_run;
  history_start = p.history_start;
  precode = p.precode;
  decode = p.decode;
  shape = ours.shape;
  start = ours.start;
  step = p.step;
  run_codes = ours.run_codes;
}

-- what demand 1 asks of them
pub record PartsAnswer (p : Parts) : Type 0 where
  pub send : Answers p.send send_checks (λ c. record { state = c.state; output = c.output }) none
  pub read : Answers p.read read_checks (λ c. record { coefficients = c.coefficients; vendor = c.vendor; reserved = c.reserved })
      (record { kind = 0; a = 0; b = 0 })
  pub data_write : Answers p.data_write data_write_checks (λ c. c.frame) 0
  pub data_read : Answers p.data_read data_read_checks (λ c. c.payload) (overhead_for no_overhead)
  pub eoc : EocPartsAnswer p.eoc
  pub receive : Answers p.receive receive_checks (λ c. record { state = c.state; line = c.line; frame = c.frame }) (record { given = 0; place = 0 })
  pub run : (way : Way) → Answers (p.run way) run_checks (λ c. record { state = c.state; output = c.output }) none
  pub descramble_frame : Answers p.descramble_frame frame_checks (λ c. record { state = c.state; output = c.output }) none
  pub encode_run : Answers p.encode_run encode_run_checks (λ c. record { register = c.register; codes = c.codes }) none
  pub history_start : Answers p.history_start history_start_checks (λ c. c) none
  pub precode : Answers p.precode precode_checks (λ c. record { history = c.history; room = c.room }) none
  pub decode : Answers p.decode precode_checks (λ c. record { history = c.history; room = c.room }) none
  pub step : Answers p.step step_checks (λ c. c.state) (record { phase = 0; attempt = 0 })

pub rebuilt-one : (p : Parts) → PartsAnswer p → One (rebuilt p)
rebuilt-one p a = record {
  send = a.send;
  check = ours-one.check;
  read = a.read;
  data_write = a.data_write;
  data_crc = ours-one.data_crc;
  data_check = ours-one.data_check;
  data_read = a.data_read;
  eoc_write = a.eoc.write;
  eoc_read = a.eoc.read;
  eoc_hand_up = a.eoc.hand-up;
  scrambler_start = ours-one.scrambler_start;
  bit = ours-one.bit;
  run = a.run;
  descramble_frame = a.descramble_frame;
  receive_start = ours-one.receive_start;
  receive = a.receive;
  activation = ours-one.activation;
  level = ours-one.level;
  code = ours-one.code;
  encoder_start = ours-one.encoder_start;
  encode = ours-one.encode;
  encode_run = a.encode_run;
  history_start = a.history_start;
  precode = a.precode;
  decode = a.decode;
  shape = ours-one.shape;
  start = ours-one.start;
  step = a.step;
  run_codes = ours-one.run_codes;
}

-- ---- one of them changed

abbrev pub usual : Parts
usual = record {
  send = ours.send;
  read = ours.read;
  data_write = ours.data_write;
  data_read = ours.data_read;
  eoc = record { write = ours.eoc_write; read = ours.eoc_read; hand-up = ours.eoc_hand_up };
  receive = ours.receive;
  run = ours.run;
  descramble_frame = ours.descramble_frame;
  encode_run = ours.encode_run;
  history_start = ours.history_start;
  precode = ours.precode;
  decode = ours.decode;
  step = ours.step;
}

pub usual-answer : PartsAnswer usual
usual-answer = record {
  send = ours-one.send;
  read = ours-one.read;
  data_write = ours-one.data_write;
  data_read = ours-one.data_read;
  eoc = record { write = ours-one.eoc_write; read = ours-one.eoc_read; hand-up = ours-one.eoc_hand_up };
  receive = ours-one.receive;
  run = ours-one.run;
  descramble_frame = ours-one.descramble_frame;
  encode_run = ours-one.encode_run;
  history_start = ours-one.history_start;
  precode = ours-one.precode;
  decode = ours-one.decode;
  step = ours-one.step;
}

abbrev pub with_step : (StepCall → Outcome Shown Supervisor) → Parts
with_step f = record {
  send = usual.send;
  read = usual.read;
  data_write = usual.data_write;
  data_read = usual.data_read;
  eoc = usual.eoc;
  receive = usual.receive;
  run = usual.run;
  descramble_frame = usual.descramble_frame;
  encode_run = usual.encode_run;
  history_start = usual.history_start;
  precode = usual.precode;
  decode = usual.decode;
  step = f;
}

-- a step by other rules: f moves a state that is not refused, and t is the number of ticks that is shown
abbrev pub stepping : (State → ℕ → State) → (State → ℕ) → StepCall → Outcome Shown Supervisor
stepping f t c =
    let s = state_in c.state in
    let n = answer (step_checks c) in
    let new = f s c.code in
    record { answer = n; numbers = record { phase = held n 0 new.phase; attempt = held n 0 (t new) }; memory = state_of (held n s new) }

pub stepping-one : (f : State → ℕ → State) (t : State → ℕ) → One (rebuilt (with_step (stepping f t)))
stepping-one f t = rebuilt-one (with_step (stepping f t)) (record {
  send = usual-answer.send;
  read = usual-answer.read;
  data_write = usual-answer.data_write;
  data_read = usual-answer.data_read;
  eoc = usual-answer.eoc;
  receive = usual-answer.receive;
  run = usual-answer.run;
  descramble_frame = usual-answer.descramble_frame;
  encode_run = usual-answer.encode_run;
  history_start = usual-answer.history_start;
  precode = usual-answer.precode;
  decode = usual-answer.decode;
  step = answers ordered.step (λ c. refl)
      (λ c h. λ i. record {
        phase = kept (answer (step_checks c)) 0 (f (state_in c.state) c.code).phase h i;
        attempt = kept (answer (step_checks c)) 0 (t (f (state_in c.state) c.code)) h i;
      })
      (λ c h. ap state_of (kept (answer (step_checks c)) (state_in c.state) (f (state_in c.state) c.code) h));
})
