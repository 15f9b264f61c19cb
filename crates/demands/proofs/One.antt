-- Demand 1 holds of every library that keeps our contracts. Assumes nothing.
use mathlib.Core.Path.{◌≡◌, refl, sym, ap, ◌∙◌, subst}
use mathlib.Core.Bool.{Bool, true, false, cond, not, ◌&&◌, true≢false}
use mathlib.Core.List.{List, [], ◌∷◌}
use Prim.Native.Nat.{ℕ, zero, suc}
use borrow.Author.Tests.{eqb-true}
use lib.Dec.{eqb, ltb}
use lib.IntN.{pos}
use Rattle.answer.specs.Answer.{Refusal, answer, held, in_order}
use Rattle.answer.specs.Table.{rising, from, some, in_table}
use Rattle.answer.proofs.Laws.{kept}
use Rattle.answer.proofs.Order.{rising-is, listed-in-table}
use Rattle.octets.specs.Bits.{value_of, bits_of}
use Rattle.layout.specs.Places.{a_field, b_field}
use Rattle.layout.specs.Frame.{training_sync, field_of}
use Rattle.layout.specs.Refusals.{has_sync, check_refusals}
use Rattle.layout.proofs.Order.{check-order}
use Rattle.ranges.proofs.Laws.{both}
use Rattle.dataframe.specs.Refusals.{data_order}
use Rattle.eoc.specs.Refusals.{eoc_order}
use Rattle.eoc.proofs.Order.{write-order as eoc-write-order, read-order as eoc-read-order}
use Rattle.eocunits.proofs.Order.{hand-up-order}
use Rattle.host.specs.declared.channel.EocForm.{EocForm}
use Rattle.eocwriter.specs.Promises.{message_from}
use Rattle.host.specs.Channel.{written_of as eoc_written_of, found_of as eoc_found_of, handed_of}
use Rattle.host.specs.declared.channel.EocMessage.{EocMessage}
use Rattle.host.specs.declared.channel.EocHandedUp.{EocHandedUp}
use Rattle.eoc.specs.Message.{Message}
use Rattle.eoc.specs.Reading.{message_in}
use Rattle.dataframe.proofs.Order.{write-order as data-write-order, crc-order as data-crc-order, check-order as data-check-order, read-order as data-read-order}
use Rattle.host.specs.declared.data.DataSent.{DataSent}
use Rattle.host.specs.declared.data.DataCrcs.{DataCrcs}
use Rattle.host.specs.declared.data.DataFields.{DataFields}
use Rattle.recurrence.specs.declared.Way.{Way}
use Rattle.recurrence.specs.declared.Way.TheVariants.{Scramble as scramble, Descramble as descramble}
use Rattle.scrambler.proofs.One.{step-order as bit-order, run-order as scrambler-order, frame-order}
use Rattle.symbol.specs.declared.Encoder.{Encoder}
use Rattle.symbol.specs.Levels.{activation_tests, data_tests, back_tests}
use Rattle.symbol.specs.Encoder.{register_of}
use Rattle.symbol.proofs.Order.{activation-order, data-order, back-order, start-order, step-order, run-order}
use Rattle.samples.specs.Shaper.{Exactly, shaper_tests}
use Rattle.samples.proofs.Order.{shaper-order}
use Rattle.samples.proofs.Exact.{exact-zero, exact-unique}
use Rattle.precoder.proofs.Order.{run-order as precoder-order}
use Rattle.supervisor.specs.declared.Supervisor.{Supervisor as State}
use Rattle.supervisor.specs.Step.{state_refusals, step_of}
use Rattle.supervisor.proofs.One.{start-in-order, step-in-order, state-in-order}
use Rattle.startup.specs.Run.{Run as StartupRun}
use Rattle.startup.specs.Run.{event_of, goes_on, opens, ends, noted, taken_of, run_from, begun}
use Rattle.host.specs.declared.frames.FrameFields.{FrameFields}
use Rattle.host.specs.declared.scrambling.Scrambled.{Scrambled}
use Rattle.host.specs.declared.scrambling.ScrambledBit.{ScrambledBit}
use Rattle.host.specs.declared.supervising.Stepped.{Stepped}
use Rattle.host.specs.declared.supervising.Run.{Run}
use Rattle.host.specs.Supervising.{state_in, state_of, run_fields_of}
use Rattle.host.specs.Frames.{found_of}
use Rattle.host.specs.Data.{overhead_of, overhead_for, written_of, crc_of, no_overhead, found_of as data_found_of}
use Rattle.host.specs.Symbols.{encoder}
use Rattle.host.proofs.One.{frame-send-order, frame-read-order, history-start-order}
use Rattle.demands.specs.Handed.{Outcome, None, none}
use Rattle.demands.specs.HandedData.{DataWriteCall, DataCrcCall, DataReadCall}
use Rattle.receiver.specs.Promises.{Got}
use Rattle.receiver.proofs.One.{receive-order}
use Rattle.receiver.proofs.Cut.{answer-is, refused-is}
use Rattle.host.specs.Receiving.{receiver_in}
use Rattle.demands.specs.HandedLine.{ReceiveCall}
use Rattle.demands.specs.HandedEoc.{EocWriteCall, EocReadCall, EocUnitsCall}
use Rattle.demands.specs.Library.{Library}
use Rattle.demands.specs.Contracts.{Keeps}
use Rattle.demands.specs.One.{Answers, InTheirOrder, Ordered, One}
use Rattle.demands.specs.Frames.{done}
use Rattle.demands.specs.Checks.{send_checks, read_checks, scrambler_start_checks, bit_checks, run_checks, frame_checks, encoder_start_checks, encode_checks}
use Rattle.demands.specs.Checks.{data_write_checks, data_crc_checks, data_read_checks}
use Rattle.demands.specs.Checks.{eoc_write_checks, eoc_read_checks, eoc_hand_up_checks, receive_start_checks, receive_checks}
use Rattle.demands.specs.Checks.{encode_run_checks, history_start_checks, precode_checks, start_checks, step_checks, codes_checks}

-- the numbers of an order are the table's
abbrev all_in_table : List ℕ → Bool
all_in_table [] = true
all_in_table (n ∷ ns) = in_table n && all_in_table ns

order-in-table : (order : List ℕ) → all_in_table order ≡ true → (n : ℕ) → some (from n order) ≡ true → in_table n ≡ true
order-in-table [] e n h = absurd (true≢false (sym h))
order-in-table (o ∷ os) e n h =
    let b = both (in_table o) (all_in_table os) e in
    pick (eqb o n) refl b.0 (order-in-table os b.1 n) h
  where
    pick : (t : Bool) → eqb o n ≡ t → in_table o ≡ true → (some (from n os) ≡ true → in_table n ≡ true) → some (cond t (o ∷ os) (from n os)) ≡ true
        → in_table n ≡ true
    pick true f i ih h = subst (λ (m : ℕ). in_table m ≡ true) (eqb-true o n f) i
    pick false f i ih h = ih h

module _ {C N M : Type 0} {f : C → Outcome N M} {checks : C → List Refusal} {before : C → M} {nothing : N} where
  -- checks that run in an order of the table's numbers
  pub answers_by : (order : List ℕ) → all_in_table order ≡ true → InTheirOrder order checks → ((c : C) → (f c).answer ≡ answer (checks c))
      → ((c : C) → ((f c).answer ≡ 0 → ⊥) → (f c).numbers ≡ nothing) → ((c : C) → ((f c).answer ≡ 0 → ⊥) → (f c).memory ≡ before c)
      → Answers f checks before nothing
  answers_by order a o e n m =
      record {
        in_the_table = λ c. subst (λ (k : ℕ). in_table k ≡ true) (sym (e c)) (listed-in-table order (order-in-table order a) (checks c) (o c));
        first = e;
        no_numbers = n;
        unchanged = m;
      }

  -- in SCOPE's order
  pub answers : InTheirOrder rising checks → ((c : C) → (f c).answer ≡ answer (checks c))
      → ((c : C) → ((f c).answer ≡ 0 → ⊥) → (f c).numbers ≡ nothing) → ((c : C) → ((f c).answer ≡ 0 → ⊥) → (f c).memory ≡ before c)
      → Answers f checks before nothing
  answers = answers_by rising refl

  -- in that of data-mode frames
  pub data-answers : InTheirOrder data_order checks → ((c : C) → (f c).answer ≡ answer (checks c))
      → ((c : C) → ((f c).answer ≡ 0 → ⊥) → (f c).numbers ≡ nothing) → ((c : C) → ((f c).answer ≡ 0 → ⊥) → (f c).memory ≡ before c)
      → Answers f checks before nothing
  data-answers = answers_by data_order refl

  -- and in that of operations channel messages
  pub eoc-answers : InTheirOrder eoc_order checks → ((c : C) → (f c).answer ≡ answer (checks c))
      → ((c : C) → ((f c).answer ≡ 0 → ⊥) → (f c).numbers ≡ nothing) → ((c : C) → ((f c).answer ≡ 0 → ⊥) → (f c).memory ≡ before c)
      → Answers f checks before nothing
  eoc-answers = answers_by eoc_order refl

scrambler-start-order : (end : ℕ) → in_order 1 (scrambler_start_checks end) ≡ true
unfolding in_order
scrambler-start-order end = refl

-- checks whose numbers rise run in the table's order
in_turn : {C : Type 0} (checks : C → List Refusal) → ((c : C) → in_order 1 (checks c) ≡ true) → InTheirOrder rising checks
in_turn checks h c = rising-is (checks c) (h c)

-- the checks run in their order
pub ordered : Ordered
ordered = record {
  send = in_turn send_checks (λ c. frame-send-order c.end c.state c.kind c.count c.coefficients c.a c.b c.vendor c.output);
  check = in_turn check_refusals check-order;
  read = in_turn read_checks (λ c. frame-read-order c.frame c.coefficients c.vendor c.reserved);
  data_write = λ c. data-write-order c.form c.size c.sync (overhead_of c.overhead) c.payload c.frame;
  data_crc = λ c. data-crc-order c.form c.size c.frame;
  data_check = λ c. data-check-order c.form c.size c.sync c.next c.frame;
  data_read = λ c. data-read-order c.form c.size c.sync c.next c.frame c.payload;
  eoc_write = λ c. eoc-write-order c.source c.destination c.number c.contents c.room;
  eoc_read = λ c. eoc-read-order c.octets c.contents;
  eoc_hand_up = λ c. hand-up-order c.octets c.units;
  scrambler_start = in_turn scrambler_start_checks scrambler-start-order;
  bit = in_turn bit_checks (λ c. bit-order (record { end = c.end; state = c.state }) c.bit);
  run = in_turn run_checks (λ c. scrambler-order scramble (record { end = c.end; state = c.state }) c.input c.bits c.output);
  descramble_frame = in_turn frame_checks (λ c. frame-order descramble (record { end = c.end; state = c.state }) c.frame c.output);
  receive_start = in_turn receive_start_checks scrambler-start-order;
  receive = in_turn receive_checks (λ c. receive-order (receiver_in c.state) c.line c.lump c.bits c.frame);
  activation = in_turn activation_tests activation-order;
  level = in_turn data_tests data-order;
  code = in_turn back_tests back-order;
  encoder_start = in_turn encoder_start_checks (λ c. start-order c.a c.b);
  encode = in_turn encode_checks (λ c. step-order (encoder c.a c.b c.register) c.symbol);
  encode_run = in_turn encode_run_checks (λ c. run-order (encoder c.a c.b c.register) c.symbols c.codes);
  history_start = in_turn history_start_checks history-start-order;
  precode = in_turn precode_checks (λ c. precoder-order c.coefficients c.history c.symbols c.room);
  shape = in_turn shaper_tests shaper-order;
  start = in_turn start_checks (λ c. start-in-order c.end c.silence);
  step = in_turn step_checks (λ c. step-in-order (state_in c.state) c.code);
  run_codes = in_turn codes_checks (λ c. state-in-order (state_in c.state));
}

-- a number that is not 0, named otherwise
other : {n m : ℕ} → n ≡ m → (n ≡ 0 → ⊥) → m ≡ 0 → ⊥
other e h z = h (e ∙ z)

pub only : (x : None) → x ≡ none
only none = refl

-- an outcome that is done
pub same : {N M : Type 0} {o : Outcome N M} {n : N} {m : M} → o.answer ≡ 0 → o.numbers ≡ n → o.memory ≡ m → o ≡ done n m
same a b c = λ i. record { answer = a i; numbers = b i; memory = c i }

-- an encoder that has sent nothing
pub nothing-sent : register_of [] ≡ 0
unfolding value_of
nothing-sent = refl

-- what is found tells the answer
pub found-answer : (n : ℕ) (bits : List ℕ) → (found_of n bits).answer ≡ n
found-answer zero bits = pick (has_sync training_sync bits)
  where
    pick : (s : Bool) → (cond {A = FrameFields} s (record { answer = 0; kind = 0; a = value_of (field_of a_field bits); b = value_of (field_of b_field bits) })
        (record { answer = 0; kind = 1; a = 0; b = 0 })).answer ≡ 0
    pick true = refl
    pick false = refl
found-answer (suc n) bits = refl

found_none : (n : ℕ) (bits : List ℕ) → (n ≡ 0 → ⊥) → found_of n bits ≡ record { answer = n; kind = 0; a = 0; b = 0 }
found_none zero bits h = absurd (h refl)
found_none (suc n) bits h = refl

-- a run of codes answers 0 where its state is legal
noted-answer : (r : StartupRun) (s : State) (p e : ℕ) → (noted r s p e).answer ≡ 0
noted-answer r s p e = pick (eqb e 1) (ltb 1 e && not (eqb r.outcome 0))
  where
    pick : (b c : Bool) → (cond b (opens r s p) (cond c (ends r s p e) (goes_on r s))).answer ≡ 0
    pick true c = refl
    pick false true = refl
    pick false false = refl

run-answer : (p : ℕ) (r : StartupRun) (l : List ℕ) → r.answer ≡ 0 → (run_from p r l).answer ≡ 0
run-answer p r [] e = e
run-answer p r (c ∷ cs) e = run-answer (suc p) (taken_of p c r) cs (noted-answer r (step_of r.state c).state p (event_of r.state.phase (step_of r.state c).state.phase))

held-run : (n : ℕ) (s : State) (l : List ℕ) → (held n (begun n s) (run_from 0 (begun 0 s) l)).answer ≡ n
held-run zero s l = run-answer 0 (begun 0 s) l refl
held-run (suc n) s l = refl

-- what the functions of data-mode frames give, number by number
pub written-answer : (n form k : ℕ) (bits : List ℕ) → (written_of n form k bits).answer ≡ n
written-answer zero form k bits = refl
written-answer (suc n) form k bits = refl

written_none : (n form k : ℕ) (bits : List ℕ) → (n ≡ 0 → ⊥) → (written_of n form k bits).crc ≡ 0
written_none zero form k bits h = absurd (h refl)
written_none (suc n) form k bits h = refl

pub crc-answer : (n form k : ℕ) (bits : List ℕ) → (crc_of n form k bits).answer ≡ n
crc-answer zero form k bits = refl
crc-answer (suc n) form k bits = refl

crc-none : (n form k : ℕ) (bits : List ℕ) → (n ≡ 0 → ⊥) → crc_of n form k bits ≡ record { answer = n; carried = 0; due = 0 }
crc-none zero form k bits h = absurd (h refl)
crc-none (suc n) form k bits h = refl

pub data-found-answer : (n form k : ℕ) (bits : List ℕ) → (data_found_of n form k bits).answer ≡ n
data-found-answer zero form k bits = refl
data-found-answer (suc n) form k bits = refl

data-found-none : (n form k : ℕ) (bits : List ℕ) → (n ≡ 0 → ⊥) → (data_found_of n form k bits).overhead ≡ overhead_for no_overhead
data-found-none zero form k bits h = absurd (h refl)
data-found-none (suc n) form k bits h = refl

-- what the functions of operations channel messages give, number by number
pub eoc-written-answer : (n : ℕ) (m : Message) → (eoc_written_of n m).answer ≡ n
eoc-written-answer zero m = refl
eoc-written-answer (suc n) m = refl

eoc-written-none : (n : ℕ) (m : Message) → (n ≡ 0 → ⊥) → (eoc_written_of n m).length ≡ 0
eoc-written-none zero m h = absurd (h refl)
eoc-written-none (suc n) m h = refl

pub eoc-found-answer : (n : ℕ) (m : Message) → (eoc_found_of n m).answer ≡ n
eoc-found-answer zero m = refl
eoc-found-answer (suc n) m = refl

eoc-found-none : (n : ℕ) (m : Message) → (n ≡ 0 → ⊥) → eoc_found_of n m ≡ record { answer = n; source = 0; destination = 0; number = 0; length = 0 }
eoc-found-none zero m h = absurd (h refl)
eoc-found-none (suc n) m h = refl

pub handed-answer : (n : ℕ) (m : Message) (units : List ℕ) → (handed_of n m units).answer ≡ n
handed-answer zero m units = refl
handed-answer (suc n) m units = refl

handed-none : (n : ℕ) (m : Message) (units : List ℕ) → (n ≡ 0 → ⊥) → (handed_of n m units).units ≡ 0
handed-none zero m units h = absurd (h refl)
handed-none (suc n) m units h = refl

module _ (x : Library) (k : Keeps x) where
  pub eoc-write-answer : (c : EocWriteCall) → (x.eoc_write c).answer ≡ answer (eoc_write_checks c)
  eoc-write-answer c =
      ap (λ (w : EocForm). w.answer) (k.eoc_write c refl).returned
      ∙ eoc-written-answer (answer (eoc_write_checks c)) (message_from c.source c.destination c.number c.contents)

  pub eoc-read-answer : (c : EocReadCall) → (x.eoc_read c).answer ≡ answer (eoc_read_checks c)
  eoc-read-answer c =
      ap (λ (f : EocMessage). f.answer) (k.eoc_read c refl).returned ∙ eoc-found-answer (answer (eoc_read_checks c)) (message_in c.octets)

  pub eoc-hand-up-answer : (c : EocUnitsCall) → (x.eoc_hand_up c).answer ≡ answer (eoc_hand_up_checks c)
  eoc-hand-up-answer c =
      ap (λ (h : EocHandedUp). h.answer) (k.eoc_hand_up c refl).returned ∙ handed-answer (answer (eoc_hand_up_checks c)) (message_in c.octets) c.units

  eoc-write-is : Answers x.eoc_write eoc_write_checks (λ c. c.room) 0
  eoc-write-is =
      eoc-answers ordered.eoc_write eoc-write-answer
      (λ c h. ap (λ (w : EocForm). w.length) (k.eoc_write c refl).returned
      ∙ eoc-written-none (answer (eoc_write_checks c)) (message_from c.source c.destination c.number c.contents) (other (eoc-write-answer c) h))
      (λ c h. (k.eoc_write c refl).room_left ∙ kept (answer (eoc_write_checks c)) c.room _ (other (eoc-write-answer c) h))

  eoc-read-is : Answers x.eoc_read eoc_read_checks (λ c. c.contents) (record { source = 0; destination = 0; number = 0; length = 0 })
  eoc-read-is =
      eoc-answers ordered.eoc_read eoc-read-answer
      (λ c h.
      let e = (k.eoc_read c refl).returned ∙ eoc-found-none (answer (eoc_read_checks c)) (message_in c.octets) (other (eoc-read-answer c) h) in
      λ i. record { source = (e i).source; destination = (e i).destination; number = (e i).number; length = (e i).length })
      (λ c h. (k.eoc_read c refl).room_left ∙ kept (answer (eoc_read_checks c)) c.contents _ (other (eoc-read-answer c) h))

  eoc-hand-up-is : Answers x.eoc_hand_up eoc_hand_up_checks (λ c. c.units) 0
  eoc-hand-up-is =
      eoc-answers ordered.eoc_hand_up eoc-hand-up-answer
      (λ c h. ap (λ (u : EocHandedUp). u.units) (k.eoc_hand_up c refl).returned
      ∙ handed-none (answer (eoc_hand_up_checks c)) (message_in c.octets) c.units (other (eoc-hand-up-answer c) h))
      (λ c h. (k.eoc_hand_up c refl).units_left ∙ kept (answer (eoc_hand_up_checks c)) c.units _ (other (eoc-hand-up-answer c) h))

  pub data-write-answer : (c : DataWriteCall) → (x.data_write c).answer ≡ answer (data_write_checks c)
  data-write-answer c =
      ap (λ (w : DataSent). w.answer) (k.data_write c refl).given ∙ written-answer (answer (data_write_checks c)) c.form c.size _

  pub data-crc-answer : (c : DataCrcCall) → (x.data_crc c).answer ≡ answer (data_crc_checks c)
  data-crc-answer c = ap (λ (s : DataCrcs). s.answer) (k.data_crc c refl).given ∙ crc-answer (answer (data_crc_checks c)) c.form c.size (bits_of c.frame)

  pub data-read-answer : (c : DataReadCall) → (x.data_read c).answer ≡ answer (data_read_checks c)
  data-read-answer c =
      ap (λ (f : DataFields). f.answer) (k.data_read c refl).found ∙ data-found-answer (answer (data_read_checks c)) c.form c.size (bits_of c.frame)

  data-write-is : Answers x.data_write data_write_checks (λ c. c.frame) 0
  data-write-is =
      data-answers ordered.data_write data-write-answer
      (λ c h. ap (λ (w : DataSent). w.crc) (k.data_write c refl).given
      ∙ written_none (answer (data_write_checks c)) c.form c.size _ (other (data-write-answer c) h))
      (λ c h. (k.data_write c refl).left ∙ kept (answer (data_write_checks c)) c.frame _ (other (data-write-answer c) h))

  data-crc-is : Answers x.data_crc data_crc_checks (λ c. none) (record { carried = 0; due = 0 })
  data-crc-is =
      data-answers ordered.data_crc data-crc-answer
      (λ c h.
      let e = (k.data_crc c refl).given ∙ crc-none (answer (data_crc_checks c)) c.form c.size (bits_of c.frame) (other (data-crc-answer c) h) in
      λ i. record { carried = (e i).carried; due = (e i).due })
      (λ c h. only _)

  data-read-is : Answers x.data_read data_read_checks (λ c. c.payload) (overhead_for no_overhead)
  data-read-is =
      data-answers ordered.data_read data-read-answer
      (λ c h. ap (λ (f : DataFields). f.overhead) (k.data_read c refl).found
      ∙ data-found-none (answer (data_read_checks c)) c.form c.size (bits_of c.frame) (other (data-read-answer c) h))
      (λ c h. (k.data_read c refl).payload_left ∙ kept (answer (data_read_checks c)) c.payload _ (other (data-read-answer c) h))

  receive-start-is : Answers x.receive_start receive_start_checks (λ c. record { end = c; heard = 0; from = 0 }) (record { given = 0; place = 0 })
  receive-start-is =
      answers ordered.receive_start (λ c. ap (λ (g : Got). g.answer) (k.receive_start c refl))
      (λ c h. ap (λ (g : Got). record { given = g.given; place = g.place }) (k.receive_start c refl))
      (λ c h. ap (λ (g : Got). record { end = g.next.end; heard = g.next.heard; from = g.next.from }) (k.receive_start c refl))

  pub receive-answer : (c : ReceiveCall) → (x.receive c).answer ≡ answer (receive_checks c)
  receive-answer c = ap (λ (g : Got). g.answer) (k.receive c refl).returned ∙ answer-is (answer (receive_checks c)) (receiver_in c.state) _ c.bits

  receive-is : Answers x.receive receive_checks (λ c. record { state = c.state; line = c.line; frame = c.frame }) (record { given = 0; place = 0 })
  receive-is =
      answers ordered.receive receive-answer
      (λ c h.
      let e = (k.receive c refl).returned ∙ refused-is (answer (receive_checks c)) (receiver_in c.state) _ c.bits (other (receive-answer c) h) in
      λ i. record { given = (e i).given; place = (e i).place })
      (λ c h.
      let z = other (receive-answer c) h in
      let e = (k.receive c refl).returned ∙ refused-is (answer (receive_checks c)) (receiver_in c.state) _ c.bits z in
      let l = (k.receive c refl).line_left ∙ kept (answer (receive_checks c)) _ _ z in
      let f = (k.receive c refl).room_left ∙ kept (answer (receive_checks c)) _ _ z in
      λ i. record { state = record { end = (e i).next.end; heard = (e i).next.heard; from = (e i).next.from }; line = l i; frame = f i })

  read_answer : (c : _) → (x.read c).answer ≡ answer (read_checks c)
  read_answer c = ap (λ (f : FrameFields). f.answer) (k.read c refl).found ∙ found-answer (answer (read_checks c)) _

  bit_is : (way : Way) → Answers (x.bit way) bit_checks (λ c. c.state) 0
  bit_is way =
      answers ordered.bit (λ c. ap (λ (r : ScrambledBit). r.answer) (k.bit way c refl))
      (λ c h.
      let e = k.bit way c refl in
      ap (λ (r : ScrambledBit). r.bit) e ∙ kept _ _ _ (other (ap (λ (r : ScrambledBit). r.answer) e) h))
      (λ c h.
      let e = k.bit way c refl in
      ap (λ (r : ScrambledBit). r.state) e ∙ kept _ _ _ (other (ap (λ (r : ScrambledBit). r.answer) e) h))

  run_is : (way : Way) → Answers (x.run way) run_checks (λ c. record { state = c.state; output = c.output }) none
  run_is way =
      answers ordered.run
      (λ c. (k.run way c refl).answered) (λ c h. only _)
      (λ c h.
      let w = k.run way c refl in
      let s : (x.run way c).memory.state ≡ c.state = w.next ∙ kept (x.run way c).answer _ _ h in
      let o : (x.run way c).memory.output ≡ c.output = w.left ∙ kept (x.run way c).answer _ _ h in
      λ i. record { state = s i; output = o i })

  send-is : Answers x.send send_checks (λ c. record { state = c.state; output = c.output }) none
  send-is =
      answers ordered.send (λ c. (k.send c refl).answered) (λ c h. only _)
      (λ c h.
      let s = (k.send c refl).next ∙ kept (x.send c).answer _ _ h in
      let o = (k.send c refl).left ∙ kept (x.send c).answer _ _ h in
      λ i. record { state = s i; output = o i })

  frame_is : Answers x.descramble_frame frame_checks (λ c. record { state = c.state; output = c.output }) none
  frame_is =
      answers ordered.descramble_frame
      (λ c. (k.descramble_frame c refl).answered) (λ c h. only _)
      (λ c h.
      let w = k.descramble_frame c refl in
      let s : (x.descramble_frame c).memory.state ≡ c.state = w.next ∙ kept (x.descramble_frame c).answer _ _ h in
      let o : (x.descramble_frame c).memory.output ≡ c.output = w.left ∙ kept (x.descramble_frame c).answer _ _ h in
      λ i. record { state = s i; output = o i })

  codes-answer : (c : _) → (x.run_codes c).answer ≡ answer (state_refusals (state_in c.state))
  codes-answer c = ap (λ (r : Run). r.answer) (k.run_codes c refl) ∙ held-run (answer (state_refusals (state_in c.state))) (state_in c.state) c.codes

  pub one : One x
  one = record {
    send = send-is;
    check = answers ordered.check (λ c. (k.check c refl).answered) (λ c h. only _) (λ c h. only _);
    read = answers ordered.read read_answer
        (λ c h.
        let e = (k.read c refl).found ∙ found_none _ _ (other (read_answer c) h) in
        λ i. record { kind = (e i).kind; a = (e i).a; b = (e i).b })
        (λ c h.
        let z = other (read_answer c) h in
        let m = (k.read c refl).coefficients_held ∙ kept (answer (read_checks c)) _ _ z in
        let v = (k.read c refl).vendor_held ∙ kept (answer (read_checks c)) _ _ z in
        let s = (k.read c refl).reserved_held ∙ kept (answer (read_checks c)) _ _ z in
        λ i. record { coefficients = m i; vendor = v i; reserved = s i });
    data_write = data-write-is;
    data_crc = data-crc-is;
    data_check = data-answers ordered.data_check (λ c. (k.data_check c refl).answered) (λ c h. only _) (λ c h. only _);
    data_read = data-read-is;
    eoc_write = eoc-write-is;
    eoc_read = eoc-read-is;
    eoc_hand_up = eoc-hand-up-is;
    scrambler_start = answers ordered.scrambler_start
        (λ e. ap (λ (r : Scrambled). r.answer) (k.scrambler_start e refl)) (λ e h. only _)
        (λ e h. ap (λ (r : Scrambled). r.state) (k.scrambler_start e refl));
    bit = bit_is;
    run = run_is;
    descramble_frame = frame_is;
    receive_start = receive-start-is;
    receive = receive-is;
    activation = answers ordered.activation (λ c. (k.activation c refl).answered) (λ c h. (k.activation c refl).level ∙ kept _ _ _ h) (λ c h. only _);
    level = answers ordered.level (λ c. (k.level c refl).answered) (λ c h. (k.level c refl).level ∙ kept _ _ _ h) (λ c h. only _);
    code = answers ordered.code (λ c. (k.code c refl).answered) (λ c h. (k.code c refl).code ∙ kept _ _ _ h) (λ c h. only _);
    encoder_start = answers ordered.encoder_start (λ c. (k.encoder_start c refl).answered) (λ c h. only _)
        (λ c h. ap (λ (e : Encoder). e.register) (k.encoder_start c refl).next ∙ nothing-sent);
    encode = answers ordered.encode (λ c. (k.encode c refl).answered)
        (λ c h.
        let y = (k.encode c refl).code ∙ kept _ _ _ h in
        let l = (k.encode c refl).level ∙ kept _ _ _ h in
        λ i. record { code = y i; sixteenths = l i })
        (λ c h. ap (λ (e : Encoder). e.register) ((k.encode c refl).next ∙ kept _ _ _ h));
    encode_run = answers ordered.encode_run (λ c. (k.encode_run c refl).answered) (λ c h. only _)
        (λ c h.
        let n = (k.encode_run c refl).next ∙ kept _ _ _ h in
        let w = (k.encode_run c refl).written ∙ kept _ _ _ h in
        λ i. record { register = (n i).register; codes = w i });
    history_start = answers ordered.history_start (λ s. (k.history_start s refl).answered) (λ s h. only _)
        (λ s h. (k.history_start s refl).left ∙ kept _ _ _ h);
    precode = answers ordered.precode (λ c. (k.precode c refl).answered) (λ c h. only _)
        (λ c h.
        let p = (k.precode c refl).past ∙ kept _ _ _ h in
        let w = (k.precode c refl).written ∙ kept _ _ _ h in
        λ i. record { history = p i; room = w i });
    decode = answers ordered.precode (λ c. (k.decode c refl).answered) (λ c h. only _)
        (λ c h.
        let p = (k.decode c refl).past ∙ kept _ _ _ h in
        let w = (k.decode c refl).written ∙ kept _ _ _ h in
        λ i. record { history = p i; room = w i });
    shape = answers ordered.shape (λ y. (k.shape y refl).answered)
        (λ y h. exact-unique _ _ (pos 0) (subst (Exactly (x.shape y).numbers) (kept _ _ _ h) (k.shape y refl).value) exact-zero) (λ y h. only _);
    start = answers ordered.start (λ c. ap (λ (r : Stepped). r.answer) (k.start c refl))
        (λ c h.
        let z = other (ap (λ (r : Stepped). r.answer) (k.start c refl)) h in
        let p = ap (λ (r : Stepped). r.phase) (k.start c refl) ∙ kept _ _ _ z in
        let a = ap (λ (r : Stepped). r.attempt) (k.start c refl) ∙ kept _ _ _ z in
        λ i. record { phase = p i; attempt = a i })
        (λ c h.
        let z = other (ap (λ (r : Stepped). r.answer) (k.start c refl)) h in
        ap (λ (r : Stepped). r.state) (k.start c refl) ∙ ap state_of (kept _ _ _ z));
    step = answers ordered.step (λ c. ap (λ (r : Stepped). r.answer) (k.step c refl))
        (λ c h.
        let z = other (ap (λ (r : Stepped). r.answer) (k.step c refl)) h in
        let p = ap (λ (r : Stepped). r.phase) (k.step c refl) ∙ kept _ _ _ z in
        let a = ap (λ (r : Stepped). r.attempt) (k.step c refl) ∙ kept _ _ _ z in
        λ i. record { phase = p i; attempt = a i })
        (λ c h.
        let z = other (ap (λ (r : Stepped). r.answer) (k.step c refl)) h in
        ap (λ (r : Stepped). r.state) (k.step c refl) ∙ ap state_of (kept _ _ _ z));
    run_codes = answers ordered.run_codes codes-answer
        (λ c h.
        let e = k.run_codes c refl ∙ ap run_fields_of (kept _ _ _ (other (codes-answer c) h)) in
        λ i. record { attempts = (e i).attempts; opened_at = (e i).opened_at; outcome = (e i).outcome; ended_at = (e i).ended_at })
        (λ c h. ap (λ (r : Run). r.state) (k.run_codes c refl ∙ ap run_fields_of (kept _ _ _ (other (codes-answer c) h))));
  }
