-- Demand 2 of operations channel messages: the first sentence holds of every library that keeps our contracts, and the second follows from the first, for
-- libraries of any two makes. Assumes nothing.
use mathlib.Core.Path.{◌≡◌, refl, sym, ap, ◌∙◌, subst, subst₂}
use mathlib.Core.Bool.{not}
use mathlib.Core.List.{List}
use Prim.Native.Nat.{ℕ, ◌-◌}
use native.Mathlib.Omega.{arith}
use borrow.Author.Tests.{eq-eqb, lt-leb, le-ltb}
use lib.Dec.{eqb}
use lib.ListN.{length, take, drop, replicate, length-append}
use lib.Seq.{take_at, drop_at}
use Rattle.answer.specs.Answer.{answer}
use Rattle.answer.proofs.Laws.{none as none-applies, given as held-given, passed}
use Rattle.octets.proofs.Laws.{Octets}
use Rattle.fcs.specs.Sequence.{Sequence, sequence_of}
use Rattle.fcs.proofs.Laws.{sequence-is, sequence-length}
use Rattle.eoc.specs.Message.{Message, Lawful, body_of, written, padded, contents_most, form_most}
use Rattle.eoc.specs.Message.{fields_of as octets_of}
use Rattle.eoc.specs.Reading.{fields_in, body_in, sequence_in, message_in}
use Rattle.eoc.specs.Refusals.{form_refusals, read_refusals, write_refusals}
use Rattle.eoc.proofs.RoundTrip.{fields-written, reads-back, writes-back}
use Rattle.host.specs.declared.channel.EocForm.{EocForm}
use Rattle.eocwriter.proofs.Promise.{write-sound}
use Rattle.host.specs.declared.channel.EocMessage.{EocMessage}
use Rattle.host.specs.declared.channel.EocHandedUp.{EocHandedUp}
use Rattle.eocunits.specs.Units.{records_in, count_taking, units_after, hand_up_refusals}
use Rattle.host.specs.Channel.{written_of, found_of, handed_of}
use Rattle.demands.specs.Handed.{Outcome}
use Rattle.demands.specs.HandedEoc.{EocWriteCall, EocReadCall, EocFields, EocUnitsCall}
use Rattle.demands.specs.Library.{Library}
use Rattle.demands.specs.Contracts.{Keeps}
use Rattle.demands.specs.Checks.{eoc_write_checks, eoc_read_checks, eoc_hand_up_checks}
use Rattle.demands.specs.Frames.{Right, done}
use Rattle.demands.specs.Messages.{message_of, fields_of, form_of, Messages}
use Rattle.demands.specs.MessagesBack.{write_again, MessagesBack}
use Rattle.demands.specs.WholeUnits.{WholeUnits}
use Rattle.demands.proofs.One.{same}

-- the octets of a room that has zeros behind them
front : (n : ℕ) (s : List ℕ) → take (length s) (padded n s) ≡ s
front n s = take_at s (replicate (n - length s) 0) (length s) refl

-- the body and the check sequence of what is written
sequenced : (m : Message) → Sequence (body_in (octets_of m)) (sequence_in (octets_of m))
sequenced m =
    let b = body_of m in
    let n : length (octets_of m) - 2 ≡ length b = omega (arith, length-append b (sequence_of b), sequence-length b) in
    subst₂ Sequence (sym (ap (λ (k : ℕ). take k (octets_of m)) n ∙ take_at b (sequence_of b) (length b) refl))
    (sym (ap (λ (k : ℕ). drop k (octets_of m)) n ∙ drop_at b (sequence_of b) (length b) refl)) (sequence-is b)

-- what is handed in is a message that can be written
lawful : (c : EocWriteCall) → Right (eoc_write_checks c) → Octets c.contents → Lawful (message_of c)
lawful c h o =
    let s = write-sound c.source c.destination c.number c.contents c.room h in
    record { source_fits = s.1; destination_fits = s.2; number_fits = s.3; contents_fit = s.4; octets = o }

-- such a message is not refused
taken : (m : Message) (room : List ℕ) → Lawful m → length room ≡ form_most → answer (write_refusals m.source m.destination m.number m.contents room) ≡ 0
taken m room l e =
    let rs = write_refusals m.source m.destination m.number m.contents room in
    passed 1 (drop 1 rs) (ap not (eq-eqb _ _ e)) ∙ passed 4 (drop 2 rs) (lt-leb _ _ l.source_fits) ∙ passed 4 (drop 3 rs) (lt-leb _ _ l.destination_fits)
    ∙ passed 4 (drop 4 rs) (lt-leb _ _ l.number_fits) ∙ passed 12 (drop 5 rs) (le-ltb _ _ l.contents_fit)

-- ---- the first sentence

module _ (x : Library) (k : Keeps x) where
  written_form : (c : EocWriteCall) → Right (eoc_write_checks c) → x.eoc_write c ≡ done (length (written (message_of c))) (padded form_most (written (message_of c)))
  written_form c h =
      let e = (k.eoc_write c refl).returned ∙ ap (λ (n : ℕ). written_of n (message_of c)) h in
      same (ap (λ (w : EocForm). w.answer) e) (ap (λ (w : EocForm). w.length) e)
      ((k.eoc_write c refl).room_left ∙ held-given (answer (eoc_write_checks c)) c.room (padded form_most (written (message_of c))) h)

  read : (c : EocReadCall) → Right (eoc_read_checks c)
      → x.eoc_read c ≡ done (fields_of (message_in c.octets)) (padded contents_most (message_in c.octets).contents)
  read c h =
      let e = (k.eoc_read c refl).returned ∙ ap (λ (n : ℕ). found_of n (message_in c.octets)) h in
      same (ap (λ (f : EocMessage). f.answer) e)
      (ap (λ (f : EocMessage). record { source = f.source; destination = f.destination; number = f.number; length = f.length }) e)
      ((k.eoc_read c refl).room_left ∙ held-given (answer (eoc_read_checks c)) c.contents (padded contents_most (message_in c.octets).contents) h)

  handed_up : (c : EocUnitsCall) → Right (eoc_hand_up_checks c)
      → x.eoc_hand_up c ≡ done (count_taking (message_in c.octets) (records_in c.units)) (units_after (message_in c.octets) c.units)
  handed_up c h =
      let e = (k.eoc_hand_up c refl).returned ∙ ap (λ (n : ℕ). handed_of n (message_in c.octets) c.units) h in
      same (ap (λ (u : EocHandedUp). u.answer) e) (ap (λ (u : EocHandedUp). u.units) e)
      ((k.eoc_hand_up c refl).units_left ∙ held-given (answer (eoc_hand_up_checks c)) c.units (units_after (message_in c.octets) c.units) h)

-- the form that is written
pub form-is : (x : Library) (c : EocWriteCall) → x.eoc_write c ≡ done (length (written (message_of c))) (padded form_most (written (message_of c)))
    → form_of x c ≡ written (message_of c)
form-is x c e = ap (λ (o : Outcome ℕ (List ℕ)). take o.numbers o.memory) e ∙ front form_most (written (message_of c))

pub messages-exact : (x : Library) → Keeps x → Messages x
messages-exact x k =
    record {
      written_form = written_form x k;
      sequence = λ c h.
          subst (λ (s : List ℕ). Sequence (body_in s) (sequence_in s))
          (sym (ap fields_in (form-is x c (written_form x k c h)) ∙ fields-written (message_of c))) (sequenced (message_of c));
      read = read x k;
      handed_up = handed_up x k;
    }

-- ---- the second

module _ (x y : Library) (ex : Messages x) (ey : Messages y) where
  message-back : (c : EocWriteCall) (room : List ℕ) → Right (eoc_write_checks c) → Octets c.contents → length room ≡ contents_most
      → y.eoc_read (record { octets = form_of x c; contents = room }) ≡ done (fields_of (message_of c)) (padded contents_most c.contents)
  message-back c room h o e =
      let m = message_of c in
      let b = reads-back m (lawful c h o) in
      let right : answer (read_refusals (written m) room) ≡ 0 = passed 1 (form_refusals (written m)) (ap not (eq-eqb _ _ e)) ∙ b.0 in
      ap (λ (s : List ℕ). y.eoc_read (record { octets = s; contents = room })) (form-is x c (ex.written_form c h))
      ∙ ey.read (record { octets = written m; contents = room }) right
      ∙ ap (λ (n : Message). done (fields_of n) (padded contents_most n.contents)) b.1

  again-back : (c : EocReadCall) (room : List ℕ) → Right (eoc_read_checks c) → Octets c.octets → length room ≡ form_most
      → x.eoc_write (write_again y c room) ≡ done (length c.octets) (padded form_most c.octets)
  again-back c room h o e =
      let s = c.octets in
      let m = message_in s in
      let formed : answer (form_refusals s) ≡ 0 = (none-applies 0 (not (eqb (length c.contents) contents_most)) (form_refusals s) h).1 in
      let w = writes-back s o formed in
      let call : EocWriteCall = record { source = m.source; destination = m.destination; number = m.number; contents = m.contents; room = room } in
      let same-call : write_again y c room ≡ call =
      ap (λ (r : Outcome EocFields (List ℕ)). record {
        source = r.numbers.source;
        destination = r.numbers.destination;
        number = r.numbers.number;
        contents = take r.numbers.length r.memory;
        room = room;
      }) (ey.read c h)
      ∙ ap (λ (l : List ℕ). record { source = m.source; destination = m.destination; number = m.number; contents = l; room = room })
      (front contents_most m.contents) in
      ap (λ (d : EocWriteCall). x.eoc_write d) same-call ∙ ex.written_form call (taken m room w.0 e)
      ∙ ap (λ (l : List ℕ). done (length l) (padded form_most l)) w.1

  handed-back : (c : EocWriteCall) (units : List ℕ) → Right (eoc_write_checks c) → Octets c.contents → WholeUnits units
      → y.eoc_hand_up (record { octets = form_of x c; units = units })
      ≡ done (count_taking (message_of c) (records_in units)) (units_after (message_of c) units)
  handed-back c units h o u =
      let m = message_of c in
      let b = reads-back m (lawful c h o) in
      let rs = hand_up_refusals (written m) units in
      let right : answer rs ≡ 0 = passed 1 (drop 1 rs) (ap not (eq-eqb _ _ u.whole)) ∙ passed 4 (drop 2 rs) u.own_fit ∙ b.0 in
      ap (λ (s : List ℕ). y.eoc_hand_up (record { octets = s; units = units })) (form-is x c (ex.written_form c h))
      ∙ ey.handed_up (record { octets = written m; units = units }) right
      ∙ ap (λ (n : Message). done (count_taking n (records_in units)) (units_after n units)) b.1

  pub messages-interwork : MessagesBack x y
  messages-interwork = record { message = message-back; again = again-back; handed = handed-back }
