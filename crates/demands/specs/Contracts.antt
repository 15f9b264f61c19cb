-- A library keeps the contracts of ours: what it gives for a call is what the `ensures` of the exported function promises, by the predicate cited
-- there and argument by argument (crates/host/src; tests/contracts holds the two together). The prover shows it of ours for every call that C can
-- make, `KeepsFor from_c`. The demands speak of all numbers and lists, `Keeps`. The step between is a theorem, `widened`: a library that keeps the
-- contracts for what C can hand in does there what a library does that keeps them for every call. So C sees no more and no less than the demands.
use Rattle.std.specs.Prelude.{◌≡◌, true, List, ℕ, ℤ}
use Rattle.recurrence.specs.declared.Way.{Way}
use Rattle.checker.specs.Promises.{Checked}
use Rattle.datachecker.specs.Promises.{DataChecked}
use Rattle.precoder.specs.Runs.{PrecodesRun, DecodesRun}
use Rattle.host.specs.Sending.{FrameSent}
use Rattle.host.specs.Frames.{FrameRead}
use Rattle.host.specs.Data.{DataFrameWritten, DataCrcGiven, DataFrameRead}
use Rattle.host.specs.Channel.{EocWritten, EocRead, EocHanded}
use Rattle.host.specs.Scrambling.{ScramblerStarted, BitScrambled, ScrambledRun, FrameDescrambled}
use Rattle.host.specs.Receiving.{ReceiverStarted, LumpReceived}
use Rattle.host.specs.Symbols.{ActivationLevelGiven, DataLevelGiven, CodeGiven, EncoderStarted, SymbolEncoded, SymbolsEncoded, HistoryStarted, SampleShaped}
use Rattle.host.specs.Supervising.{Started, StateStepped, CodesRun}
use Rattle.demands.specs.Library.{Library}
use Rattle.demands.specs.Handed.{SendCall, ReadCall, BitCall, RunCall, FrameCall, WordsCall, EncodeCall, EncodeRunCall, PrecodeCall}
use Rattle.demands.specs.HandedData.{DataWriteCall, DataCrcCall, DataCheckCall, DataReadCall}
use Rattle.demands.specs.HandedEoc.{EocWriteCall, EocReadCall, EocUnitsCall}
use Rattle.demands.specs.HandedLine.{ReceiveCall}
use Rattle.demands.specs.HandedCodes.{StartCall, StepCall, CodesCall}
use Rattle.demands.specs.FromC.{Calls}
use Rattle.demands.specs.EveryCall.{every_call}

-- each function keeps the contract of the exported one, for the calls that are meant. Above each field the exported function with its arguments;
-- where a call's field has another name, argument = field
pub record KeepsFor (calls : Calls) (x : Library) : Type 0 where
  -- sdsl_frame_send(end, state, kind, count, coefficients, a, b, vendor, frame = output)
  pub send : (c : SendCall) → calls.send c ≡ true
      → FrameSent c.end c.state c.kind c.count c.coefficients c.a c.b c.vendor c.output
      (record { answer = (x.send c).answer; state = (x.send c).memory.state }) (x.send c).memory.output
  -- sdsl_frame_check(frame)
  pub check : (frame : List ℕ) → calls.check frame ≡ true → Checked frame (x.check frame).answer
  -- sdsl_frame_read(frame, coefficients, vendor, reserved)
  pub read : (c : ReadCall) → calls.read c ≡ true → FrameRead c.frame c.coefficients c.vendor c.reserved
      (record { answer = (x.read c).answer; kind = (x.read c).numbers.kind; a = (x.read c).numbers.a; b = (x.read c).numbers.b })
      (x.read c).memory.coefficients (x.read c).memory.vendor (x.read c).memory.reserved
  -- sdsl_data_write(form, size, sync, overhead, payload, frame)
  pub data_write : (c : DataWriteCall) → calls.data_write c ≡ true → DataFrameWritten c.form c.size c.sync c.overhead c.payload c.frame
      (record { answer = (x.data_write c).answer; crc = (x.data_write c).numbers }) (x.data_write c).memory
  -- sdsl_data_crc(form, size, frame)
  pub data_crc : (c : DataCrcCall) → calls.data_crc c ≡ true → DataCrcGiven c.form c.size c.frame
      (record { answer = (x.data_crc c).answer; carried = (x.data_crc c).numbers.carried; due = (x.data_crc c).numbers.due })
  -- sdsl_data_check(form, size, sync, next, frame)
  pub data_check : (c : DataCheckCall) → calls.data_check c ≡ true → DataChecked c.form c.size c.sync c.next c.frame (x.data_check c).answer
  -- sdsl_data_read(form, size, sync, next, frame, payload)
  pub data_read : (c : DataReadCall) → calls.data_read c ≡ true → DataFrameRead c.form c.size c.sync c.next c.frame c.payload
      (record { answer = (x.data_read c).answer; overhead = (x.data_read c).numbers }) (x.data_read c).memory
  -- sdsl_eoc_write(source, destination, number, contents, room)
  pub eoc_write : (c : EocWriteCall) → calls.eoc_write c ≡ true → EocWritten c.source c.destination c.number c.contents c.room
      (record { answer = (x.eoc_write c).answer; length = (x.eoc_write c).numbers }) (x.eoc_write c).memory
  -- sdsl_eoc_read(octets, contents)
  pub eoc_read : (c : EocReadCall) → calls.eoc_read c ≡ true → EocRead c.octets c.contents
      (record {
        answer = (x.eoc_read c).answer;
        source = (x.eoc_read c).numbers.source;
        destination = (x.eoc_read c).numbers.destination;
        number = (x.eoc_read c).numbers.number;
        length = (x.eoc_read c).numbers.length;
      }) (x.eoc_read c).memory
  -- sdsl_eoc_hand_up(octets, units)
  pub eoc_hand_up : (c : EocUnitsCall) → calls.eoc_hand_up c ≡ true → EocHanded c.octets c.units
      (record { answer = (x.eoc_hand_up c).answer; units = (x.eoc_hand_up c).numbers }) (x.eoc_hand_up c).memory
  -- sdsl_scrambler_start(end)
  pub scrambler_start : (end : ℕ) → calls.scrambler_start end ≡ true → ScramblerStarted end
      (record { answer = (x.scrambler_start end).answer; state = (x.scrambler_start end).memory })
  -- sdsl_scramble_bit(end, state, bit), sdsl_descramble_bit(end, state, bit)
  pub bit : (way : Way) (c : BitCall) → calls.bit c ≡ true → BitScrambled way c.end c.state c.bit
      (record { answer = (x.bit way c).answer; bit = (x.bit way c).numbers; state = (x.bit way c).memory })
  -- sdsl_scramble(end, state, input, bits, output), sdsl_descramble(end, state, input, bits, output)
  pub run : (way : Way) (c : RunCall) → calls.run c ≡ true → ScrambledRun way c.end c.state c.input c.bits c.output
      (record { answer = (x.run way c).answer; state = (x.run way c).memory.state }) (x.run way c).memory.output
  -- sdsl_descramble_frame(end, state, frame, output)
  pub descramble_frame : (c : FrameCall) → calls.descramble_frame c ≡ true → FrameDescrambled c.end c.state c.frame c.output
      (record { answer = (x.descramble_frame c).answer; state = (x.descramble_frame c).memory.state }) (x.descramble_frame c).memory.output
  -- sdsl_receive_start(end)
  pub receive_start : (end : ℕ) → calls.receive_start end ≡ true → ReceiverStarted end
      (record {
        answer = (x.receive_start end).answer;
        given = (x.receive_start end).numbers.given;
        place = (x.receive_start end).numbers.place;
        state = (x.receive_start end).memory;
      })
  -- sdsl_receive(state, line, lump, bits, frame)
  pub receive : (c : ReceiveCall) → calls.receive c ≡ true → LumpReceived c.state c.line c.lump c.bits c.frame
      (record {
        answer = (x.receive c).answer;
        given = (x.receive c).numbers.given;
        place = (x.receive c).numbers.place;
        state = (x.receive c).memory.state;
      }) (x.receive c).memory.line (x.receive c).memory.frame
  -- sdsl_activation_level(bit)
  pub activation : (bit : ℕ) → calls.activation bit ≡ true → ActivationLevelGiven bit
      (record { answer = (x.activation bit).answer; sixteenths = (x.activation bit).numbers })
  -- sdsl_data_level(code)
  pub level : (code : ℕ) → calls.level code ≡ true → DataLevelGiven code
      (record { answer = (x.level code).answer; sixteenths = (x.level code).numbers })
  -- sdsl_level_code(sixteenths)
  pub code : (sixteenths : ℤ) → calls.code sixteenths ≡ true → CodeGiven sixteenths
      (record { answer = (x.code sixteenths).answer; code = (x.code sixteenths).numbers })
  -- sdsl_encoder_start(a, b)
  pub encoder_start : (c : WordsCall) → calls.encoder_start c ≡ true → EncoderStarted c.a c.b
      (record { answer = (x.encoder_start c).answer; register = (x.encoder_start c).memory })
  -- sdsl_encode(a, b, register, symbol)
  pub encode : (c : EncodeCall) → calls.encode c ≡ true → SymbolEncoded c.a c.b c.register c.symbol
      (record {
        answer = (x.encode c).answer;
        code = (x.encode c).numbers.code;
        sixteenths = (x.encode c).numbers.sixteenths;
        register = (x.encode c).memory;
      })
  -- sdsl_encode_run(a, b, register, symbols, codes)
  pub encode_run : (c : EncodeRunCall) → calls.encode_run c ≡ true → SymbolsEncoded c.a c.b c.register c.symbols c.codes
      (record { answer = (x.encode_run c).answer; register = (x.encode_run c).memory.register }) (x.encode_run c).memory.codes
  -- sdsl_history_start(history)
  pub history_start : (history : List ℕ) → calls.history_start history ≡ true → HistoryStarted history
      (x.history_start history).answer (x.history_start history).memory
  -- sdsl_precode(coefficients, history, xs = symbols, ys = room)
  pub precode : (c : PrecodeCall) → calls.precode c ≡ true → PrecodesRun c.coefficients c.history c.symbols c.room
      (x.precode c).answer (x.precode c).memory.history (x.precode c).memory.room
  -- sdsl_unprecode(coefficients, history, ys = symbols, xs = room)
  pub decode : (c : PrecodeCall) → calls.decode c ≡ true → DecodesRun c.coefficients c.history c.symbols c.room
      (x.decode c).answer (x.decode c).memory.history (x.decode c).memory.room
  -- sdsl_shaper(y)
  pub shape : (y : ℤ) → calls.shape y ≡ true → SampleShaped y (record { answer = (x.shape y).answer; value = (x.shape y).numbers })
  -- sdsl_start(end, silence)
  pub start : (c : StartCall) → calls.start c ≡ true → Started c.end c.silence
      (record { answer = (x.start c).answer; phase = (x.start c).numbers.phase; attempt = (x.start c).numbers.attempt; state = (x.start c).memory })
  -- sdsl_step(state, code)
  pub step : (c : StepCall) → calls.step c ≡ true → StateStepped c.state c.code
      (record { answer = (x.step c).answer; phase = (x.step c).numbers.phase; attempt = (x.step c).numbers.attempt; state = (x.step c).memory })
  -- sdsl_run_codes(state, codes)
  pub run_codes : (c : CodesCall) → calls.run_codes c ≡ true → CodesRun c.state c.codes
      (record {
        answer = (x.run_codes c).answer;
        attempts = (x.run_codes c).numbers.attempts;
        opened_at = (x.run_codes c).numbers.opened_at;
        outcome = (x.run_codes c).numbers.outcome;
        ended_at = (x.run_codes c).numbers.ended_at;
        state = (x.run_codes c).memory;
      })

-- for every call
abbrev pub Keeps : Library → Type 0
Keeps x = KeepsFor every_call x
