-- The libraries that have to be rejected, built: ours with one other function, which meet demand 1. Assumes nothing.
use mathlib.Core.Path.{◌≡◌, refl, sym, ap, ap₂, ◌∙◌, subst}
use mathlib.Core.Bool.{Bool, true, false, cond, not, ◌&&◌}
use mathlib.Core.List.{List, [], ◌∷◌, reverse}
use Prim.Native.Nat.{ℕ, zero, suc, ◌≤◌}
use native.Mathlib.Omega.{arith}
use borrow.Author.Tests.{eq-eqb, ne_eqb, eqb-true}
use lib.Dec.{eqb}
use lib.ListN.{length, get_or, take, replicate}
use lib.Seq.{length-take-le}
use Rattle.answer.specs.Answer.{answer, held}
use Rattle.answer.specs.Table.{in_table}
use Rattle.answer.proofs.Laws.{kept, given as held-given}
use Rattle.octets.specs.Bits.{value_of, bits_of, laid}
use Rattle.octets.proofs.Digits.{Bits, take-bits}
use Rattle.octets.proofs.Laws.{bits-bits, bits-length}
use Rattle.layout.specs.Places.{a_field, b_field}
use Rattle.layout.specs.Frame.{training_sync, field_of}
use Rattle.layout.specs.Refusals.{has_sync}
use Rattle.recurrence.specs.Line.{Scrambles}
use Rattle.recurrence.specs.Run.{out_of, run_of}
use Rattle.recurrence.specs.declared.Way.{Way}
use Rattle.recurrence.specs.declared.Way.TheVariants.{Scramble as scramble, Descramble as descramble}
use Rattle.recurrence.proofs.Laws.{run-bits}
use Rattle.recurrence.proofs.Exactly.{run-scrambles}
use Rattle.scrambler.specs.Ends.{tap_of}
use Rattle.scrambler.specs.Promises.{given}
use Rattle.scrambler.proofs.Laws.{tap-range}
use Rattle.supervisor.proofs.Laws.{by_cases}
use Rattle.demands.specs.Handed.{Outcome, None, none, SendCall, ReadCall, Fields, Rooms, RunCall, FrameCall, Line, EncodeRunCall, Codes, PrecodeCall}
use Rattle.demands.specs.Handed.{Signal}
use Rattle.demands.specs.One.{Answers, One}
use Rattle.demands.specs.Checks.{frame_of, send_checks, read_checks, run_checks, frame_checks, encode_run_checks, precode_checks}
use Rattle.demands.specs.Frames.{Right, Trains}
use Rattle.demands.specs.WrongLibraries.{OneFrame, SendsPlain, PlainOnce, StateKept, FrameUnwritten, CoefficientsUnwritten, VendorUnwritten, RunUnwritten, WholeUnwritten}
use Rattle.demands.specs.WrongLibraries.{HistoryUnwritten, CodesUnwritten, PrecodedUnwritten, DecodedUnwritten, CopiesTheRest, TurnsA, TurnsB}
use Rattle.demands.specs.WrongReserved.{reserved_number, TurnsAway, ElseAsDue, HandsZeros, ReservedUnwritten}
use Rattle.demands.specs.NoStrawMan.{Built, OtherwiseAnswers, NoStrawMan}
use Rattle.demands.proofs.One.{answers, ordered}
use Rattle.demands.proofs.Two.{exact as exact-of}
use Rattle.demands.proofs.Interwork.{laid-there, run-right}
use Rattle.demands.proofs.Ours.{ours, ours-keep}
use Rattle.demands.proofs.Rebuilt.{ours-one, Parts, rebuilt, rebuilt-one, usual, usual-answer}
use Rattle.demands.proofs.Rejected.{lone, lone-right, lone-differs}
use Rattle.demands.proofs.ReservedRejected.{call, call-right, trains, some-set}
use Rattle.demands.proofs.DataWrong.{one-data-frame-built, data-frame-built, payload-built, own-six-built}
use Rattle.demands.proofs.LineWrong.{never-gives-built, first-only-built, room-built}
use Rattle.demands.proofs.EocWrong.{one-form-built, form-built, contents-built, hands-all-built, hands-nothing-built}
use Rattle.demands.proofs.WrongSteps.{moves-once-built, never-opens-built, calls-exception-built, same-ticks-built, counts-codes-built, gives-up-built, ends-too-late-built}

-- ---- the sender

abbrev with_send : (SendCall → Outcome None Line) → Parts
with_send f = record {
  send = f;
  read = usual.read;
  data_write = usual.data_write;
  data_read = usual.data_read;
  eoc = usual.eoc;
  receive = usual.receive;
  run = usual.run;
  descramble_frame = usual.descramble_frame;
  encode_run = usual.encode_run;
  history_start = usual.history_start;
  precode = usual.precode;
  decode = usual.decode;
  step = usual.step;
}

send-one : (f : SendCall → Outcome None Line) → Answers f send_checks (λ c. record { state = c.state; output = c.output }) none → One (rebuilt (with_send f))
send-one f a = rebuilt-one (with_send f) (record {
  send = a;
  read = usual-answer.read;
  data_write = usual-answer.data_write;
  data_read = usual-answer.data_read;
  eoc = usual-answer.eoc;
  receive = usual-answer.receive;
  run = usual-answer.run;
  descramble_frame = usual-answer.descramble_frame;
  encode_run = usual-answer.encode_run;
  history_start = usual-answer.history_start;
  precode = usual-answer.precode;
  decode = usual-answer.decode;
  step = usual-answer.step;
})

-- our sender with another frame
abbrev sending : (SendCall → List ℕ) → SendCall → Outcome None Line
sending frame c = record {
  answer = answer (send_checks c);
  numbers = none;
  memory = record { state = (ours.send c).memory.state; output = held (answer (send_checks c)) c.output (frame c) };
}

sending-one : (frame : SendCall → List ℕ) → One (rebuilt (with_send (sending frame)))
sending-one frame = send-one (sending frame) (answers ordered.send (λ c. refl) (λ c h. refl)
    (λ c h.
    let e = ap (λ (m : Line). m.state) (ours-one.send.unchanged c (λ z. h (sym (ours-one.send.first c) ∙ z))) in
    let o = kept (answer (send_checks c)) c.output (frame c) h in
    λ i. record { state = e i; output = o i }))

-- it sends zeros, the frame as it is written, or nothing
one-frame-built : Built OneFrame
one-frame-built = (
  rebuilt (with_send (sending (λ c. replicate 529 0))),
  sending-one (λ c. replicate 529 0),
  λ c d e s h k. held-given (answer (send_checks c)) c.output (replicate 529 0) h ∙ sym (held-given (answer (send_checks d)) d.output (replicate 529 0) k),
)

plain-built : Built SendsPlain
plain-built = (rebuilt (with_send (sending frame_of)), sending-one frame_of, λ c s h. held-given (answer (send_checks c)) c.output (frame_of c) h)

once-built : Built PlainOnce
once-built = (
  rebuilt (with_send (sending frame_of)),
  sending-one frame_of,
  (lone, lone-right, lone-differs, held-given (answer (send_checks lone)) lone.output (frame_of lone) lone-right),
)

frame-built : Built FrameUnwritten
frame-built = (
  rebuilt (with_send (sending (λ c. c.output))),
  sending-one (λ c. c.output),
  λ c h. held-given (answer (send_checks c)) c.output c.output h,
)

-- or it hands the old state back
abbrev state-idle : SendCall → Outcome None Line
state-idle c = record { answer = (ours.send c).answer; numbers = none; memory = record { state = c.state; output = (ours.send c).memory.output } }

state-built : Built StateKept
state-built = (
  rebuilt (with_send state-idle),
  send-one state-idle (answers ordered.send ours-one.send.first (λ c h. refl)
      (λ c h. ap (λ (m : Line). record { state = c.state; output = m.output }) (ours-one.send.unchanged c h))),
  λ c s h. refl,
)

-- ---- the reader

abbrev with_read : (ReadCall → Outcome Fields Rooms) → Parts
with_read f = record {
  send = usual.send;
  read = f;
  data_write = usual.data_write;
  data_read = usual.data_read;
  eoc = usual.eoc;
  receive = usual.receive;
  run = usual.run;
  descramble_frame = usual.descramble_frame;
  encode_run = usual.encode_run;
  history_start = usual.history_start;
  precode = usual.precode;
  decode = usual.decode;
  step = usual.step;
}

-- the rooms before reading
abbrev as_it_was : ReadCall → Rooms
as_it_was c = record { coefficients = c.coefficients; vendor = c.vendor; reserved = c.reserved }

abbrev ReadAnswers : (ReadCall → Outcome Fields Rooms) → Type 0
ReadAnswers f = Answers f read_checks as_it_was (record { kind = 0; a = 0; b = 0 })

read_one : (f : ReadCall → Outcome Fields Rooms) → ReadAnswers f → One (rebuilt (with_read f))
read_one f a = rebuilt-one (with_read f) (record {
  send = usual-answer.send;
  read = a;
  data_write = usual-answer.data_write;
  data_read = usual-answer.data_read;
  eoc = usual-answer.eoc;
  receive = usual-answer.receive;
  run = usual-answer.run;
  descramble_frame = usual-answer.descramble_frame;
  encode_run = usual-answer.encode_run;
  history_start = usual-answer.history_start;
  precode = usual-answer.precode;
  decode = usual-answer.decode;
  step = usual-answer.step;
})

-- our reader with other numbers and other rooms
abbrev reading : (ReadCall → Fields) → (ReadCall → Rooms) → ReadCall → Outcome Fields Rooms
reading n m c = record { answer = (ours.read c).answer; numbers = n c; memory = m c }

reading-answers : (n : ReadCall → Fields) (m : ReadCall → Rooms) → ((c : ReadCall) → ((ours.read c).answer ≡ 0 → ⊥) → n c ≡ record { kind = 0; a = 0; b = 0 })
    → ((c : ReadCall) → ((ours.read c).answer ≡ 0 → ⊥) → m c ≡ as_it_was c) → ReadAnswers (reading n m)
reading-answers n m h i = answers ordered.read ours-one.read.first h i

-- a frame of kind 0 that it reads is a training frame
training-known : (c : ReadCall) → Right (read_checks c) → (ours.read c).numbers.kind ≡ 0 → has_sync training_sync (bits_of c.frame) ≡ true
training-known c r e =
    by_cases (has_sync training_sync (bits_of c.frame)) (λ t. t)
    (λ f. absurd (omega (arith, sym e ∙ ap (λ (o : Outcome Fields Rooms). o.numbers.kind) ((exact-of ours ours-keep).frames.read_final c r f))))

-- our reader with other rooms
rooms-one : (m : ReadCall → Rooms) → ((c : ReadCall) → ((ours.read c).answer ≡ 0 → ⊥) → m c ≡ as_it_was c)
    → One (rebuilt (with_read (reading (λ c. (ours.read c).numbers) m)))
rooms-one m h =
    read_one (reading (λ c. (ours.read c).numbers) m) (reading-answers (λ c. (ours.read c).numbers) m ours-one.read.no_numbers h)

abbrev no-coefficients : ReadCall → Rooms
no-coefficients c = record { coefficients = c.coefficients; vendor = (ours.read c).memory.vendor; reserved = (ours.read c).memory.reserved }

coefficients-built : Built CoefficientsUnwritten
coefficients-built = (
  rebuilt (with_read (reading (λ c. (ours.read c).numbers) no-coefficients)),
  rooms-one no-coefficients
      (λ c h. ap (λ (m : Rooms). record { coefficients = c.coefficients; vendor = m.vendor; reserved = m.reserved }) (ours-one.read.unchanged c h)),
  λ c h. refl,
)

abbrev no-vendor : ReadCall → Rooms
no-vendor c = record { coefficients = (ours.read c).memory.coefficients; vendor = c.vendor; reserved = (ours.read c).memory.reserved }

vendor-built : Built VendorUnwritten
vendor-built = (
  rebuilt (with_read (reading (λ c. (ours.read c).numbers) no-vendor)),
  rooms-one no-vendor
      (λ c h. ap (λ (m : Rooms). record { coefficients = m.coefficients; vendor = c.vendor; reserved = m.reserved }) (ours-one.read.unchanged c h)),
  λ c h. refl,
)

-- ---- the reader, and reserved bits

abbrev no-reserved : ReadCall → Rooms
no-reserved c = record { coefficients = (ours.read c).memory.coefficients; vendor = (ours.read c).memory.vendor; reserved = c.reserved }

reserved-built : Built ReservedUnwritten
reserved-built = (
  rebuilt (with_read (reading (λ c. (ours.read c).numbers) no-reserved)),
  rooms-one no-reserved
      (λ c h. ap (λ (m : Rooms). record { coefficients = m.coefficients; vendor = m.vendor; reserved = c.reserved }) (ours-one.read.unchanged c h)),
  λ c h. refl,
)

-- nine zeros from a training frame, whatever its reserved bits are
abbrev zeros-from : ReadCall → List ℕ
zeros-from c = held (answer (read_checks c)) c.reserved (cond (has_sync training_sync (bits_of c.frame)) (replicate 9 0) c.reserved)

abbrev hands_zeros : ReadCall → Rooms
hands_zeros c = record { coefficients = (ours.read c).memory.coefficients; vendor = (ours.read c).memory.vendor; reserved = zeros-from c }

hands-zeros-built : Built HandsZeros
hands-zeros-built = (
  rebuilt (with_read (reading (λ c. (ours.read c).numbers) hands_zeros)),
  rooms-one hands_zeros
      (λ c h.
      let e = ours-one.read.unchanged c h in
      let z = kept (answer (read_checks c)) c.reserved _ (λ n. h (ours-one.read.first c ∙ n)) in
      λ i. record { coefficients = (e i).coefficients; vendor = (e i).vendor; reserved = z i }),
  λ c h e.
      let r : Right (read_checks c) = sym (ours-one.read.first c) ∙ h in
      held-given (answer (read_checks c)) c.reserved _ r ∙ ap (λ (t : Bool). cond t (replicate 9 0) c.reserved) (training-known c r e),
)

-- a training frame with a reserved bit set is refused with 7, and all else is as ours
abbrev turned-away : ReadCall → Outcome Fields Rooms
turned-away c = record { answer = 7; numbers = record { kind = 0; a = 0; b = 0 }; memory = as_it_was c }

abbrev is_set : ReadCall → Bool
is_set c = (eqb (answer (read_checks c)) 0 && has_sync training_sync (bits_of c.frame)) && not (eqb (reserved_number c) 0)

abbrev turns_away : ReadCall → Outcome Fields Rooms
turns_away c = cond (is_set c) (turned-away c) (ours.read c)

-- what holds of both holds of it
either_way : (P : Outcome Fields Rooms → Type 0) (b : Bool) (f g : Outcome Fields Rooms) → P f → P g → P (cond b f g)
either_way P true f g p q = p
either_way P false f g p q = q

-- one that is not to be turned away is not
not_set : (c : ReadCall) → (Trains c → reserved_number c ≡ 0) → is_set c ≡ false
not_set c h = go (eqb (answer (read_checks c)) 0) refl (has_sync training_sync (bits_of c.frame)) refl
  where
    go : (p : Bool) → eqb (answer (read_checks c)) 0 ≡ p → (q : Bool) → has_sync training_sync (bits_of c.frame) ≡ q
        → ((p && q) && not (eqb (reserved_number c) 0)) ≡ false
    go true e true f = ap not (eq-eqb (reserved_number c) 0 (h (eqb-true _ _ e, f)))
    go true e false f = refl
    go false e q f = refl

turns-away-built : (f : ReadCall → Outcome Fields Rooms) × TurnsAway f × ElseAsDue f × OtherwiseAnswers f as_it_was (record { kind = 0; a = 0; b = 0 })
turns-away-built = (
  turns_away,
  (
    call,
    (call-right, trains),
    some-set,
    λ z. omega (
      arith,
      sym (ap (λ (b : Bool). (cond b (turned-away call) (ours.read call)).answer)
          (ap₂ ◌&&◌ (ap₂ ◌&&◌ (eq-eqb _ 0 call-right) trains) (ap not (ne_eqb (reserved_number call) 0 some-set)))) ∙ z,
    ),
  ),
  λ c h. ap (λ (b : Bool). (cond b (turned-away c) (ours.read c)).answer) (not_set c h) ∙ ours-one.read.first c,
  record {
    in_the_table = λ c. either_way (λ o. in_table o.answer ≡ true) (is_set c) (turned-away c) (ours.read c) refl (ours-one.read.in_the_table c);
    no_numbers = λ c. either_way (λ o. (o.answer ≡ 0 → ⊥) → o.numbers ≡ record { kind = 0; a = 0; b = 0 }) (is_set c) (turned-away c) (ours.read c)
        (λ h. refl) (ours-one.read.no_numbers c);
    unchanged = λ c. either_way (λ o. (o.answer ≡ 0 → ⊥) → o.memory ≡ as_it_was c) (is_set c) (turned-away c) (ours.read c)
        (λ h. refl) (ours-one.read.unchanged c);
  },
)

-- ---- the reader, and A and B

-- a word of a training frame, last bit first
abbrev turned : List ℕ → ReadCall → ℕ
turned word c = held (answer (read_checks c)) 0 (cond (has_sync training_sync (bits_of c.frame)) (value_of (reverse word)) 0)

turned_none : (word : List ℕ) (c : ReadCall) → ((ours.read c).answer ≡ 0 → ⊥) → turned word c ≡ 0
turned_none word c h = kept (answer (read_checks c)) 0 _ (λ e. h (ours-one.read.first c ∙ e))

turned-given : (word : List ℕ) (c : ReadCall) → (ours.read c).answer ≡ 0 → (ours.read c).numbers.kind ≡ 0 → turned word c ≡ value_of (reverse word)
turned-given word c h e =
    let r : Right (read_checks c) = sym (ours-one.read.first c) ∙ h in
    held-given (answer (read_checks c)) 0 _ r ∙ ap (λ (t : Bool). cond t (value_of (reverse word)) 0) (training-known c r e)

abbrev turns_a : ReadCall → Fields
turns_a c = record { kind = (ours.read c).numbers.kind; a = turned (field_of a_field (bits_of c.frame)) c; b = (ours.read c).numbers.b }

turns-a-built : Built TurnsA
turns-a-built = (
  rebuilt (with_read (reading turns_a (λ c. (ours.read c).memory))),
  read_one (reading turns_a (λ c. (ours.read c).memory)) (reading-answers turns_a (λ c. (ours.read c).memory)
      (λ c h. let e = ours-one.read.no_numbers c h in let z = turned_none (field_of a_field (bits_of c.frame)) c h in
      λ i. record { kind = (e i).kind; a = z i; b = (e i).b })
      ours-one.read.unchanged),
  λ c h e. turned-given (field_of a_field (bits_of c.frame)) c h e,
)

abbrev turns_b : ReadCall → Fields
turns_b c = record { kind = (ours.read c).numbers.kind; a = (ours.read c).numbers.a; b = turned (field_of b_field (bits_of c.frame)) c }

turns-b-built : Built TurnsB
turns-b-built = (
  rebuilt (with_read (reading turns_b (λ c. (ours.read c).memory))),
  read_one (reading turns_b (λ c. (ours.read c).memory)) (reading-answers turns_b (λ c. (ours.read c).memory)
      (λ c h. let e = ours-one.read.no_numbers c h in let z = turned_none (field_of b_field (bits_of c.frame)) c h in
      λ i. record { kind = (e i).kind; a = (e i).a; b = z i })
      ours-one.read.unchanged),
  λ c h e. turned-given (field_of b_field (bits_of c.frame)) c h e,
)

-- ---- runs

abbrev with_run : (Way → RunCall → Outcome None Line) → Parts
with_run f = record {
  send = usual.send;
  read = usual.read;
  data_write = usual.data_write;
  data_read = usual.data_read;
  eoc = usual.eoc;
  receive = usual.receive;
  run = f;
  descramble_frame = usual.descramble_frame;
  encode_run = usual.encode_run;
  history_start = usual.history_start;
  precode = usual.precode;
  decode = usual.decode;
  step = usual.step;
}

run-one : (f : Way → RunCall → Outcome None Line) → ((way : Way) → Answers (f way) run_checks (λ c. record { state = c.state; output = c.output }) none)
    → One (rebuilt (with_run f))
run-one f a = rebuilt-one (with_run f) (record {
  send = usual-answer.send;
  read = usual-answer.read;
  data_write = usual-answer.data_write;
  data_read = usual-answer.data_read;
  eoc = usual-answer.eoc;
  receive = usual-answer.receive;
  run = a;
  descramble_frame = usual-answer.descramble_frame;
  encode_run = usual-answer.encode_run;
  history_start = usual-answer.history_start;
  precode = usual-answer.precode;
  decode = usual-answer.decode;
  step = usual-answer.step;
})

abbrev runs-idle : Way → RunCall → Outcome None Line
runs-idle way c = record { answer = (ours.run way c).answer; numbers = none; memory = record { state = (ours.run way c).memory.state; output = c.output } }

run-built : (way : Way) → Built (RunUnwritten way)
run-built way = (
  rebuilt (with_run runs-idle),
  run-one runs-idle (λ way. answers ordered.run (ours-one.run way).first (λ c h. refl)
      (λ c h. ap (λ (m : Line). record { state = m.state; output = c.output }) ((ours-one.run way).unchanged c h))),
  λ c h. refl,
)

-- the first bit scrambled, the rest copied
abbrev copied : ℕ → ℕ → List ℕ → List ℕ
copied tap state [] = []
copied tap state (b ∷ bs) = out_of tap state b ∷ bs

copied-bits : (tap state : ℕ) (f : List ℕ) → Bits f → Bits (copied tap state f)
unfolding run_of
copied-bits tap state [] h i = h i
copied-bits tap state (b ∷ bs) h zero = run-bits scramble tap state (b ∷ []) 0
copied-bits tap state (b ∷ bs) h (suc i) = h (suc i)

copied-length : (tap state : ℕ) (f : List ℕ) → length (copied tap state f) ≡ length f
copied-length tap state [] = refl
copied-length tap state (b ∷ bs) = refl

copied-first : (tap state : ℕ) (f : List ℕ) → take 1 (copied tap state f) ≡ run_of scramble tap state (take 1 f)
unfolding run_of
copied-first tap state [] = refl
copied-first tap state (b ∷ bs) = refl

copied-rest : (tap state : ℕ) (f : List ℕ) (n : ℕ) → 1 ≤ n → get_or (copied tap state f) n 0 ≡ get_or f n 0
copied-rest tap state [] n h = refl
copied-rest tap state (b ∷ bs) zero h = absurd (omega arith)
copied-rest tap state (b ∷ bs) (suc n) h = refl

abbrev copied_of : RunCall → List ℕ
copied_of c = copied (tap_of c.end) c.state (given c.input c.bits)

abbrev copier : Way → RunCall → Outcome None Line
copier scramble c = record {
  answer = answer (run_checks c);
  numbers = none;
  memory = record { state = (ours.run scramble c).memory.state; output = held (answer (run_checks c)) c.output (laid c.output 0 (copied_of c)) };
}
copier descramble c = ours.run descramble c

copier-answers : (way : Way) → Answers (copier way) run_checks (λ c. record { state = c.state; output = c.output }) none
copier-answers scramble = answers ordered.run (λ c. refl) (λ c h. refl)
    (λ c h.
    let e = ap (λ (m : Line). m.state) ((ours-one.run scramble).unchanged c (λ z. h (sym ((ours-one.run scramble).first c) ∙ z))) in
    let o = kept (answer (run_checks c)) c.output (laid c.output 0 (copied_of c)) h in
    λ i. record { state = e i; output = o i })
copier-answers descramble = ours-one.run descramble

-- its output's bits
copied-out : (c : RunCall) → answer (run_checks c) ≡ 0 → given (copier scramble c).memory.output c.bits ≡ copied_of c
copied-out c h =
    let r = run-right c c.output c.output h refl refl in
    let g = given c.input c.bits in
    let n : length (copied_of c) ≡ c.bits = copied-length (tap_of c.end) c.state g
    ∙ length-take-le c.bits (bits_of c.input) (omega (arith, bits-length c.input, r.0, r.1)) in
    ap (λ (o : List ℕ). given o c.bits) (held-given (answer (run_checks c)) c.output (laid c.output 0 (copied_of c)) h)
    ∙ laid-there c.output (copied_of c) c.bits
    (copied-bits (tap_of c.end) c.state g (take-bits c.bits (bits_of c.input) (bits-bits c.input))) n r.1

copies-built : Built CopiesTheRest
copies-built = (
  rebuilt (with_run copier),
  run-one copier copier-answers,
  record {
    first = λ c h.
        let tap = tap_of c.end in
        let g = given c.input c.bits in
        let t = tap-range c.end in
        let B = take-bits 1 g (take-bits c.bits (bits_of c.input) (bits-bits c.input)) in
        subst (Scrambles tap c.state (take 1 g)) (sym (ap (take 1) (copied-out c h) ∙ copied-first tap c.state g))
        (run-scrambles tap t.0 t.1 c.state (take 1 g) B);
    rest = λ c n h i j. ap (λ (l : List ℕ). get_or l n 0) (copied-out c h) ∙ copied-rest (tap_of c.end) c.state (given c.input c.bits) n i;
  },
)

-- ---- a history's start

abbrev history-idle : List ℕ → Outcome None (List ℕ)
history-idle s = record { answer = (ours.history_start s).answer; numbers = none; memory = s }

abbrev with_history : Parts
with_history = record {
  send = usual.send;
  read = usual.read;
  data_write = usual.data_write;
  data_read = usual.data_read;
  eoc = usual.eoc;
  receive = usual.receive;
  run = usual.run;
  descramble_frame = usual.descramble_frame;
  encode_run = usual.encode_run;
  history_start = history-idle;
  precode = usual.precode;
  decode = usual.decode;
  step = usual.step;
}

history-built : Built HistoryUnwritten
history-built = (
  rebuilt with_history,
  rebuilt-one with_history (record {
    send = usual-answer.send;
    read = usual-answer.read;
    data_write = usual-answer.data_write;
    data_read = usual-answer.data_read;
    eoc = usual-answer.eoc;
    receive = usual-answer.receive;
    run = usual-answer.run;
    descramble_frame = usual-answer.descramble_frame;
    encode_run = usual-answer.encode_run;
    history_start = answers ordered.history_start ours-one.history_start.first (λ c h. refl) (λ c h. refl);
    precode = usual-answer.precode;
    decode = usual-answer.decode;
    step = usual-answer.step;
  }),
  λ c h. refl,
)

-- ---- whole frames, the encoder's runs, the precoder and its inverse

abbrev frames-idle : FrameCall → Outcome None Line
frames-idle c =
    record { answer = (ours.descramble_frame c).answer; numbers = none; memory = record { state = (ours.descramble_frame c).memory.state; output = c.output } }

abbrev codes-idle : EncodeRunCall → Outcome None Codes
codes-idle c =
    record { answer = (ours.encode_run c).answer; numbers = none; memory = record { register = (ours.encode_run c).memory.register; codes = c.codes } }

abbrev precodes-idle : PrecodeCall → Outcome None Signal
precodes-idle c = record { answer = (ours.precode c).answer; numbers = none; memory = record { history = (ours.precode c).memory.history; room = c.room } }

abbrev decodes-idle : PrecodeCall → Outcome None Signal
decodes-idle c = record { answer = (ours.decode c).answer; numbers = none; memory = record { history = (ours.decode c).memory.history; room = c.room } }

abbrev with_rest : (FrameCall → Outcome None Line) → (EncodeRunCall → Outcome None Codes) → (PrecodeCall → Outcome None Signal)
    → (PrecodeCall → Outcome None Signal) → Parts
with_rest f e p d = record {
  send = usual.send;
  read = usual.read;
  data_write = usual.data_write;
  data_read = usual.data_read;
  eoc = usual.eoc;
  receive = usual.receive;
  run = usual.run;
  descramble_frame = f;
  encode_run = e;
  history_start = usual.history_start;
  precode = p;
  decode = d;
  step = usual.step;
}

module _ (f : FrameCall → Outcome None Line) (e : EncodeRunCall → Outcome None Codes) (p d : PrecodeCall → Outcome None Signal) where
  rest-one : Answers f frame_checks (λ c. record { state = c.state; output = c.output }) none
      → Answers e encode_run_checks (λ c. record { register = c.register; codes = c.codes }) none
      → Answers p precode_checks (λ c. record { history = c.history; room = c.room }) none
      → Answers d precode_checks (λ c. record { history = c.history; room = c.room }) none → One (rebuilt (with_rest f e p d))
  rest-one af ae ap ad = rebuilt-one (with_rest f e p d) (record {
    send = usual-answer.send;
    read = usual-answer.read;
    data_write = usual-answer.data_write;
    data_read = usual-answer.data_read;
    eoc = usual-answer.eoc;
    receive = usual-answer.receive;
    run = usual-answer.run;
    descramble_frame = af;
    encode_run = ae;
    history_start = usual-answer.history_start;
    precode = ap;
    decode = ad;
    step = usual-answer.step;
  })

frame-idle-built : Built WholeUnwritten
frame-idle-built = (
  rebuilt (with_rest frames-idle ours.encode_run ours.precode ours.decode),
  rest-one frames-idle ours.encode_run ours.precode ours.decode
      (answers ordered.descramble_frame ours-one.descramble_frame.first (λ c h. refl)
      (λ c h. ap (λ (m : Line). record { state = m.state; output = c.output }) (ours-one.descramble_frame.unchanged c h)))
      ours-one.encode_run ours-one.precode ours-one.decode,
  λ c h. refl,
)

codes-built : Built CodesUnwritten
codes-built = (
  rebuilt (with_rest ours.descramble_frame codes-idle ours.precode ours.decode),
  rest-one ours.descramble_frame codes-idle ours.precode ours.decode ours-one.descramble_frame
      (answers ordered.encode_run ours-one.encode_run.first (λ c h. refl)
      (λ c h. ap (λ (m : Codes). record { register = m.register; codes = c.codes }) (ours-one.encode_run.unchanged c h)))
      ours-one.precode ours-one.decode,
  λ c h. refl,
)

precoded-built : Built PrecodedUnwritten
precoded-built = (
  rebuilt (with_rest ours.descramble_frame ours.encode_run precodes-idle ours.decode),
  rest-one ours.descramble_frame ours.encode_run precodes-idle ours.decode ours-one.descramble_frame ours-one.encode_run
      (answers ordered.precode ours-one.precode.first (λ c h. refl)
      (λ c h. ap (λ (m : Signal). record { history = m.history; room = c.room }) (ours-one.precode.unchanged c h)))
      ours-one.decode,
  λ c h. refl,
)

decoded-built : Built DecodedUnwritten
decoded-built = (
  rebuilt (with_rest ours.descramble_frame ours.encode_run ours.precode decodes-idle),
  rest-one ours.descramble_frame ours.encode_run ours.precode decodes-idle ours-one.descramble_frame ours-one.encode_run ours-one.precode
      (answers ordered.precode ours-one.decode.first (λ c h. refl)
      (λ c h. ap (λ (m : Signal). record { history = m.history; room = c.room }) (ours-one.decode.unchanged c h))),
  λ c h. refl,
)

-- ---- all of them

pub no-straw-man : NoStrawMan
no-straw-man = record {
  refuses = λ {C} {N} {M} before nothing. (
    λ c. record { answer = 4; numbers = nothing; memory = before c },
    λ c e. omega (arith, e),
    record { in_the_table = λ c. refl; no_numbers = λ c h. refl; unchanged = λ c h. refl },
  );
  one_frame = one-frame-built;
  sends_plain = plain-built;
  plain_once = once-built;
  state_kept = state-built;
  frame_unwritten = frame-built;
  coefficients_unwritten = coefficients-built;
  vendor_unwritten = vendor-built;
  run_unwritten = run-built;
  whole_unwritten = frame-idle-built;
  history_unwritten = history-built;
  codes_unwritten = codes-built;
  precoded_unwritten = precoded-built;
  decoded_unwritten = decoded-built;
  copies_the_rest = copies-built;
  turns_a = turns-a-built;
  turns_b = turns-b-built;
  turns_away = turns-away-built;
  hands_zeros = hands-zeros-built;
  reserved_unwritten = reserved-built;
  one_data_frame = one-data-frame-built;
  data_frame_unwritten = data-frame-built;
  payload_unwritten = payload-built;
  own_six = own-six-built;
  one_form = one-form-built;
  form_unwritten = form-built;
  contents_unwritten = contents-built;
  hands_all = hands-all-built;
  hands_nothing = hands-nothing-built;
  never_gives = never-gives-built;
  first_only = first-only-built;
  room_unwritten = room-built;
  moves_once = moves-once-built;
  never_opens = never-opens-built;
  calls_exception = calls-exception-built;
  same_ticks = same-ticks-built;
  counts_codes = counts-codes-built;
  gives_up = gives-up-built;
  ends_too_late = ends-too-late-built;
}
