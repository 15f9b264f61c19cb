-- What our functions of data-mode frames compute, by the definitions that their contracts cite; it keeps these. Assumes nothing.
use mathlib.Core.Path.{◌≡◌, refl, sym, ◌∙◌}
use mathlib.Core.List.{List}
use Prim.Native.Nat.{ℕ, zero, suc}
use native.Mathlib.Omega.{arith}
use Rattle.answer.specs.Answer.{answer, held}
use Rattle.octets.specs.Bits.{bits_of}
use Rattle.octets.proofs.Laws.{bits-bits}
use Rattle.dataframe.specs.Frame.{data_octets, payload_in, Due}
use Rattle.dataframe.proofs.Order.{due}
use Rattle.datachecker.specs.Promises.{DataChecked}
use Rattle.host.specs.declared.data.DataOverhead.{DataOverhead}
use Rattle.host.specs.Data.{overhead_of, written_of, crc_of, found_of, DataFrameWritten, DataCrcGiven, DataFrameRead}
use Rattle.demands.specs.Handed.{Outcome, None, none}
use Rattle.demands.specs.HandedData.{DataWriteCall, DataCrcCall, Sixes, DataCheckCall, DataReadCall}
use Rattle.demands.specs.Checks.{data_write_checks, data_crc_checks, data_check_checks, data_read_checks}
use Rattle.demands.proofs.One.{data-found-answer}
use Rattle.demands.proofs.DataLaws.{due-if, due-not, check-decides, read-decides}

-- the frame that a call is to write
abbrev pub frame_for : DataWriteCall → List ℕ
frame_for c = data_octets c.form c.size c.sync (overhead_of c.overhead) c.payload

abbrev pub writes : DataWriteCall → Outcome ℕ (List ℕ)
writes c =
    let n = answer (data_write_checks c) in
    let w = written_of n c.form c.size (bits_of (frame_for c)) in
    record { answer = w.answer; numbers = w.crc; memory = held n c.frame (frame_for c) }

abbrev pub gives : DataCrcCall → Outcome Sixes None
gives c =
    let s = crc_of (answer (data_crc_checks c)) c.form c.size (bits_of c.frame) in
    record { answer = s.answer; numbers = record { carried = s.carried; due = s.due }; memory = none }

abbrev pub checks : DataCheckCall → Outcome None None
checks c = record { answer = answer (data_check_checks c); numbers = none; memory = none }

abbrev pub reads : DataReadCall → Outcome DataOverhead (List ℕ)
reads c =
    let n = answer (data_read_checks c) in
    let f = found_of n c.form c.size (bits_of c.frame) in
    record { answer = f.answer; numbers = f.overhead; memory = held n c.payload (payload_in c.form c.size (bits_of c.frame)) }

-- ---- they keep the contracts

pub writes-keep : (c : DataWriteCall) → DataFrameWritten c.form c.size c.sync c.overhead c.payload c.frame
    (record { answer = (writes c).answer; crc = (writes c).numbers }) (writes c).memory
writes-keep c = record { given = refl; left = refl; due_right = pick (answer (data_write_checks c)) }
  where
    pick : (n : ℕ) → (written_of n c.form c.size (bits_of (frame_for c))).answer ≡ 0
        → Due c.form c.size (bits_of (held n c.frame (frame_for c))) (written_of n c.form c.size (bits_of (frame_for c))).crc
    pick zero e = due c.form c.size (bits_of (frame_for c)) (bits-bits (frame_for c))
    pick (suc n) e = absurd (omega (arith, e))

pub gives-keep : (c : DataCrcCall) → DataCrcGiven c.form c.size c.frame
    (record { answer = (gives c).answer; carried = (gives c).numbers.carried; due = (gives c).numbers.due })
gives-keep c = record { given = refl; due_right = pick (answer (data_crc_checks c)) }
  where
    pick : (n : ℕ) → (crc_of n c.form c.size (bits_of c.frame)).answer ≡ 0
        → Due c.form c.size (bits_of c.frame) (crc_of n c.form c.size (bits_of c.frame)).due
    pick zero e = due c.form c.size (bits_of c.frame) (bits-bits c.frame)
    pick (suc n) e = absurd (omega (arith, e))

pub checks-keep : (c : DataCheckCall) → DataChecked c.form c.size c.sync c.next c.frame (checks c).answer
checks-keep c =
    let d = check-decides c.form c.size c.sync c.next c.frame in
    record {
      answered = refl;
      due_right = λ z. due-if c.form c.size c.next (bits_of c.frame) (bits-bits c.frame) (d.passes z);
      due_wrong = λ z. due-not c.form c.size c.next (bits_of c.frame) (bits-bits c.frame) (d.applies z);
    }

pub reads-keep : (c : DataReadCall) → DataFrameRead c.form c.size c.sync c.next c.frame c.payload
    (record { answer = (reads c).answer; overhead = (reads c).numbers }) (reads c).memory
reads-keep c =
    let d = read-decides c.form c.size c.sync c.next c.frame c.payload in
    let is : (reads c).answer ≡ answer (data_read_checks c) = data-found-answer (answer (data_read_checks c)) c.form c.size (bits_of c.frame) in
    record {
      found = refl;
      payload_left = refl;
      due_right = λ z. due-if c.form c.size c.next (bits_of c.frame) (bits-bits c.frame) (d.passes (sym is ∙ z));
      due_wrong = λ z. due-not c.form c.size c.next (bits_of c.frame) (bits-bits c.frame) (d.applies (sym is ∙ z));
    }
