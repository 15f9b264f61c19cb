-- The libraries with wrong data-mode frames, built: ours with one other function, which meet demand 1. Assumes nothing.
use mathlib.Core.Path.{◌≡◌, refl, sym, ◌∙◌, subst}
use mathlib.Core.List.{List}
use Prim.Native.Nat.{ℕ, ◌*◌, ◌<◌, ◌^◌}
use lib.ListN.{replicate}
use Rattle.answer.specs.Answer.{answer, held}
use Rattle.answer.proofs.Laws.{kept, given as held-given}
use Rattle.octets.specs.Bits.{bits_of}
use Rattle.octets.proofs.Laws.{bits-bits}
use Rattle.remainder.specs.Division.{polynomial}
use Rattle.dataframe.specs.Table.{crc}
use Rattle.dataframe.specs.Frame.{data_octets, carried, due_of, Due}
use Rattle.dataframe.proofs.Order.{due}
use Rattle.host.specs.declared.data.DataOverhead.{DataOverhead}
use Rattle.host.specs.Data.{overhead_of, overhead_for, no_overhead}
use Rattle.demands.specs.Handed.{Outcome}
use Rattle.demands.specs.HandedData.{DataWriteCall, DataReadCall}
use Rattle.demands.specs.One.{Answers, One}
use Rattle.demands.specs.Checks.{data_write_checks, data_read_checks}
use Rattle.demands.specs.WrongData.{with_payload, OneDataFrame, DataFrameUnwritten, PayloadUnwritten, OwnSix}
use Rattle.demands.specs.NoStrawMan.{Built}
use Rattle.demands.proofs.One.{data-answers, ordered}
use Rattle.demands.proofs.Ours.{ours}
use Rattle.demands.proofs.Rebuilt.{ours-one, Parts, rebuilt, rebuilt-one, usual, usual-answer}
use Rattle.demands.proofs.DataLaws.{due-small, six-is, with_crc, taken-with, due-same}
use Rattle.demands.proofs.DataOurs.{frame_for}
use Rattle.demands.proofs.DataTwo.{taken}

abbrev with_data : (DataWriteCall → Outcome ℕ (List ℕ)) → (DataReadCall → Outcome DataOverhead (List ℕ)) → Parts
with_data w r = record {
  send = usual.send;
  read = usual.read;
  data_write = w;
  data_read = r;
  eoc = usual.eoc;
  receive = usual.receive;
  run = usual.run;
  descramble_frame = usual.descramble_frame;
  encode_run = usual.encode_run;
  history_start = usual.history_start;
  precode = usual.precode;
  decode = usual.decode;
  step = usual.step;
}

data-one : (w : DataWriteCall → Outcome ℕ (List ℕ)) (r : DataReadCall → Outcome DataOverhead (List ℕ)) → Answers w data_write_checks (λ c. c.frame) 0
    → Answers r data_read_checks (λ c. c.payload) (overhead_for no_overhead) → One (rebuilt (with_data w r))
data-one w r a b = rebuilt-one (with_data w r) (record {
  send = usual-answer.send;
  read = usual-answer.read;
  data_write = a;
  data_read = b;
  eoc = usual-answer.eoc;
  receive = usual-answer.receive;
  run = usual-answer.run;
  descramble_frame = usual-answer.descramble_frame;
  encode_run = usual-answer.encode_run;
  history_start = usual-answer.history_start;
  precode = usual-answer.precode;
  decode = usual-answer.decode;
  step = usual-answer.step;
})

-- ---- the writer

-- a writer by other rules: these six are handed out, and this frame is written
abbrev writing : (DataWriteCall → ℕ) → (DataWriteCall → List ℕ) → DataWriteCall → Outcome ℕ (List ℕ)
writing six frame c =
    let n = answer (data_write_checks c) in
    record { answer = n; numbers = held n 0 (six c); memory = held n c.frame (frame c) }

writing-answers : (six : DataWriteCall → ℕ) (frame : DataWriteCall → List ℕ) → Answers (writing six frame) data_write_checks (λ c. c.frame) 0
writing-answers six frame =
    data-answers ordered.data_write (λ c. refl) (λ c h. kept (answer (data_write_checks c)) 0 (six c) h)
    (λ c h. kept (answer (data_write_checks c)) c.frame (frame c) h)

writing-one : (six : DataWriteCall → ℕ) (frame : DataWriteCall → List ℕ) → One (rebuilt (with_data (writing six frame) ours.data_read))
writing-one six frame = data-one (writing six frame) ours.data_read (writing-answers six frame) ours-one.data_read

-- it writes no payload but zeros
abbrev emptied : DataWriteCall → List ℕ
emptied c = frame_for (with_payload (replicate (6 * c.size) 0) c)

abbrev emptied_six : DataWriteCall → ℕ
emptied_six c = due_of c.form c.size (bits_of (emptied c))

pub one-data-frame-built : Built OneDataFrame
one-data-frame-built = (
  rebuilt (with_data (writing emptied_six emptied) ours.data_read),
  writing-one emptied_six emptied,
  λ c p h i.
      held-given (answer (data_write_checks (with_payload p c))) c.frame (emptied c) i ∙ sym (held-given (answer (data_write_checks c)) c.frame (emptied c) h),
)

-- it hands out the six and writes nothing
abbrev six_of : DataWriteCall → ℕ
six_of c = due_of c.form c.size (bits_of (frame_for c))

pub data-frame-built : Built DataFrameUnwritten
data-frame-built = (
  rebuilt (with_data (writing six_of (λ c. c.frame)) ours.data_read),
  writing-one six_of (λ c. c.frame),
  λ c h. held-given (answer (data_write_checks c)) c.frame c.frame h,
)

-- it puts the six of a frame into the frame itself
abbrev own : DataWriteCall → List ℕ
own c = data_octets c.form c.size c.sync (with_crc (six_of c) (overhead_of c.overhead)) c.payload

own-due : (c : DataWriteCall) → answer (data_write_checks c) ≡ 0
    → Due c.form c.size (bits_of (own c)) (polynomial (carried crc c.form c.size (bits_of (own c))))
own-due c h =
    let o = overhead_of c.overhead in
    let R = (taken c h).0 in
    let small : six_of c < 2 ^ 6 = due-small c.form c.size c.sync o c.payload R in
    let R' = taken-with c.form c.size c.sync o c.payload (six_of c) R small in
    subst (Due c.form c.size (bits_of (own c)))
    (sym (due-same c.form c.size c.sync o c.payload R (six_of c) small)
    ∙ sym (six-is c.form c.size c.sync (with_crc (six_of c) o) c.payload R'))
    (due c.form c.size (bits_of (own c)) (bits-bits (own c)))

pub own-six-built : Built OwnSix
own-six-built = (
  rebuilt (with_data (writing six_of own) ours.data_read),
  writing-one six_of own,
  λ c h.
      subst (λ (f : List ℕ). Due c.form c.size (bits_of f) (polynomial (carried crc c.form c.size (bits_of f))))
      (sym (held-given (answer (data_write_checks c)) c.frame (own c) h)) (own-due c h),
)

-- ---- the reader

abbrev reads-idle : DataReadCall → Outcome DataOverhead (List ℕ)
reads-idle c = record { answer = (ours.data_read c).answer; numbers = (ours.data_read c).numbers; memory = c.payload }

pub payload-built : Built PayloadUnwritten
payload-built = (
  rebuilt (with_data ours.data_write reads-idle),
  data-one ours.data_write reads-idle ours-one.data_write
      (data-answers ordered.data_read ours-one.data_read.first ours-one.data_read.no_numbers (λ c h. refl)),
  λ c h. refl,
)
