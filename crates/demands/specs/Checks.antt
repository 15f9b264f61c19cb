-- The checks of each function, in the order in which they run: the lists of SCOPE, over what is handed in to a library of any make.
use Rattle.std.specs.Prelude.{List, [], ◌∷◌, ℕ}
use Rattle.answer.specs.Answer.{Refusal, wrong_length}
use Rattle.layout.specs.Refusals.{write_refusals}
use Rattle.sender.specs.Promises.{frame_octets}
use Rattle.scrambler.specs.Promises.{unknown_end, step_refusals as bit_tests, run_refusals, frame_refusals}
use Rattle.numbers.specs.Promises.{coefficients_length, numbers_of}
use Rattle.symbol.specs.Encoder.{start_tests, step_tests, run_tests}
use Rattle.precoder.specs.Runs.{run_tests as precoder_tests}
use Rattle.supervisor.specs.Step.{start_refusals, step_refusals, state_refusals}
use Rattle.host.specs.Sending.{frame_send_refusals}
use Rattle.host.specs.Frames.{frame_read_refusals}
use Rattle.dataframe.specs.Refusals.{crc_refusals, write_refusals as data_write_refusals}
use Rattle.dataframe.specs.Refusals.{check_refusals as data_check_refusals, read_refusals as data_read_refusals}
use Rattle.eoc.specs.Refusals.{write_refusals as eoc_write_refusals, read_refusals as eoc_read_refusals}
use Rattle.eocunits.specs.Units.{hand_up_refusals}
use Rattle.host.specs.Data.{overhead_of}
use Rattle.receiver.specs.Promises.{receive_refusals}
use Rattle.host.specs.Receiving.{receiver_in}
use Rattle.host.specs.Symbols.{encoder}
use Rattle.host.specs.Supervising.{state_in}
use Rattle.demands.specs.Handed.{SendCall, ReadCall, BitCall, RunCall, FrameCall, WordsCall, EncodeCall, EncodeRunCall, PrecodeCall}
use Rattle.demands.specs.HandedData.{DataWriteCall, DataCrcCall, DataCheckCall, DataReadCall}
use Rattle.demands.specs.HandedEoc.{EocWriteCall, EocReadCall, EocUnitsCall}
use Rattle.demands.specs.HandedLine.{ReceiveCall}
use Rattle.demands.specs.HandedCodes.{StartCall, StepCall, CodesCall}

-- the frame that is sent, as it is written, with the coefficients as 720 octets
abbrev pub frame_of : SendCall → List ℕ
frame_of c = frame_octets c.kind c.count (numbers_of c.coefficients) c.a c.b c.vendor

-- the checks of sending it
abbrev pub send_checks : SendCall → List Refusal
send_checks c = frame_send_refusals c.end c.state c.kind c.count c.coefficients c.a c.b c.vendor c.output

-- those of writing it into the room, by itself
abbrev pub write_checks : SendCall → List Refusal
write_checks c =
    wrong_length c.coefficients coefficients_length ∷ write_refusals c.kind c.count (numbers_of c.coefficients) c.a c.b c.vendor c.output

-- and those of scrambling it into the room
abbrev pub scramble_checks : SendCall → List Refusal
scramble_checks c = frame_refusals (record { end = c.end; state = c.state }) (frame_of c) c.output

-- of reading
abbrev pub read_checks : ReadCall → List Refusal
read_checks c = frame_read_refusals c.frame c.coefficients c.vendor c.reserved

-- of writing a data-mode frame
abbrev pub data_write_checks : DataWriteCall → List Refusal
data_write_checks c = data_write_refusals c.form c.size c.sync (overhead_of c.overhead) c.payload c.frame

-- of the six check bits in it and the six due
abbrev pub data_crc_checks : DataCrcCall → List Refusal
data_crc_checks c = crc_refusals c.form c.size c.frame

-- of checking it
abbrev pub data_check_checks : DataCheckCall → List Refusal
data_check_checks c = data_check_refusals c.form c.size c.sync c.next c.frame

-- and of reading it
abbrev pub data_read_checks : DataReadCall → List Refusal
data_read_checks c = data_read_refusals c.form c.size c.sync c.next c.frame c.payload

-- of writing an operations channel message
abbrev pub eoc_write_checks : EocWriteCall → List Refusal
eoc_write_checks c = eoc_write_refusals c.source c.destination c.number c.contents c.room

-- of reading it
abbrev pub eoc_read_checks : EocReadCall → List Refusal
eoc_read_checks c = eoc_read_refusals c.octets c.contents

-- and of handing it up
abbrev pub eoc_hand_up_checks : EocUnitsCall → List Refusal
eoc_hand_up_checks c = hand_up_refusals c.octets c.units

-- of a scrambler's start
abbrev pub scrambler_start_checks : ℕ → List Refusal
scrambler_start_checks end = unknown_end end ∷ []

-- of scrambling or descrambling a bit
abbrev pub bit_checks : BitCall → List Refusal
bit_checks c = bit_tests (record { end = c.end; state = c.state }) c.bit

-- a run
abbrev pub run_checks : RunCall → List Refusal
run_checks c = run_refusals (record { end = c.end; state = c.state }) c.input c.bits c.output

-- and of descrambling a frame
abbrev pub frame_checks : FrameCall → List Refusal
frame_checks c = frame_refusals (record { end = c.end; state = c.state }) c.frame c.output

-- of a receiver's start
abbrev pub receive_start_checks : ℕ → List Refusal
receive_start_checks end = unknown_end end ∷ []

-- and of a lump
abbrev pub receive_checks : ReceiveCall → List Refusal
receive_checks c = receive_refusals (receiver_in c.state) c.line c.lump c.bits c.frame

-- of an encoder's start
abbrev pub encoder_start_checks : WordsCall → List Refusal
encoder_start_checks c = start_tests c.a c.b

-- of encoding a symbol
abbrev pub encode_checks : EncodeCall → List Refusal
encode_checks c = step_tests (encoder c.a c.b c.register) c.symbol

-- and a run of them
abbrev pub encode_run_checks : EncodeRunCall → List Refusal
encode_run_checks c = run_tests (encoder c.a c.b c.register) c.symbols c.codes

-- of a history's start: 720 octets
abbrev pub history_start_checks : List ℕ → List Refusal
history_start_checks history = wrong_length history coefficients_length ∷ []

-- of the precoder's runs, either way
abbrev pub precode_checks : PrecodeCall → List Refusal
precode_checks c = precoder_tests c.coefficients c.history c.symbols c.room

-- of a start
abbrev pub start_checks : StartCall → List Refusal
start_checks c = start_refusals c.end c.silence

-- a step
abbrev pub step_checks : StepCall → List Refusal
step_checks c = step_refusals (state_in c.state) c.code

-- and a run of codes
abbrev pub codes_checks : CodesCall → List Refusal
codes_checks c = state_refusals (state_in c.state)
