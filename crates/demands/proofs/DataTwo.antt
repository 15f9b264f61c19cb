-- Demand 2 of data-mode frames: the first sentence holds of every library that keeps our contracts, and the second follows from the first, for
-- libraries of any two makes. Assumes nothing.
use mathlib.Core.Path.{◌≡◌, refl, sym, ap, ap₂, ◌∙◌, subst}
use mathlib.Core.Bool.{not}
use mathlib.Core.List.{List, [], ◌∷◌}
use Prim.Native.Nat.{ℕ, ◌*◌, ◌<◌, ◌^◌}
use lib.Dec.{eqb, leb, ltb}
use lib.ListN.{length, drop}
use Rattle.answer.specs.Answer.{answer}
use Rattle.answer.proofs.Laws.{none as none-applies, given as held-given, passed}
use Rattle.octets.specs.Bits.{bits_of, octets_of}
use Rattle.octets.proofs.Laws.{bits-bits, bits-length, octets-bits}
use Rattle.remainder.specs.Division.{polynomial}
use Rattle.dataframe.specs.declared.Overhead.{Overhead}
use Rattle.dataframe.specs.Table.{is_size, crc, room_of}
use Rattle.dataframe.specs.Frame.{data_octets, carried, overhead_in, payload_in, due_of}
use Rattle.dataframe.specs.Refusals.{is_room, crc_refusals, bit_refusals, check_refusals}
use Rattle.dataframe.proofs.Refused.{fit}
use Rattle.dataframe.proofs.RoundTrip.{Right as Taken, write-takes, writes, again}
use Rattle.host.specs.declared.data.DataSent.{DataSent}
use Rattle.host.specs.declared.data.DataCrcs.{DataCrcs}
use Rattle.host.specs.declared.data.DataFields.{DataFields}
use Rattle.host.specs.declared.data.DataOverhead.{DataOverhead}
use Rattle.host.specs.Data.{overhead_of, overhead_for, written_of, crc_of, found_of}
use Rattle.demands.specs.Handed.{Outcome, None, none}
use Rattle.demands.specs.HandedData.{DataWriteCall, DataCrcCall, Sixes, DataReadCall}
use Rattle.demands.specs.Library.{Library}
use Rattle.demands.specs.Contracts.{Keeps}
use Rattle.demands.specs.Checks.{data_write_checks, data_crc_checks, data_read_checks}
use Rattle.demands.specs.Frames.{Right, Octets, done}
use Rattle.demands.specs.DataFrames.{DataFrames}
use Rattle.demands.specs.DataBack.{ComesBack, with_six, in_a_row, six_in, AllComeBack, nothing, last, before, AllRight, none as none_right, one as one_right, DataBack}
use Rattle.demands.proofs.One.{only, same, data-write-answer, data-crc-answer, data-read-answer}
use Rattle.demands.proofs.DataLaws.{not-due, check-decides, read-decides, written-fits, written-reads}
use Rattle.demands.proofs.DataLaws.{overhead-is, payload-is, six-is, with_crc, taken-with}
use Rattle.demands.proofs.DataOurs.{frame_for}

-- ---- the first sentence

module _ (x : Library) (k : Keeps x) where
  written : (c : DataWriteCall) → Right (data_write_checks c) → x.data_write c ≡ done (due_of c.form c.size (bits_of (frame_for c))) (frame_for c)
  written c h =
      let e = (k.data_write c refl).given ∙ ap (λ (n : ℕ). written_of n c.form c.size (bits_of (frame_for c))) h in
      same (ap (λ (w : DataSent). w.answer) e) (ap (λ (w : DataSent). w.crc) e)
      ((k.data_write c refl).left ∙ held-given (answer (data_write_checks c)) c.frame (frame_for c) h)

  sixes : (c : DataCrcCall) → Right (data_crc_checks c) → x.data_crc c
      ≡ done (record { carried = polynomial (carried crc c.form c.size (bits_of c.frame)); due = due_of c.form c.size (bits_of c.frame) }) none
  sixes c h =
      let e = (k.data_crc c refl).given ∙ ap (λ (n : ℕ). crc_of n c.form c.size (bits_of c.frame)) h in
      same (ap (λ (s : DataCrcs). s.answer) e) (ap (λ (s : DataCrcs). record { carried = s.carried; due = s.due }) e) (only _)

  read : (c : DataReadCall) → Right (data_read_checks c)
      → x.data_read c ≡ done (overhead_for (overhead_in c.form c.size (bits_of c.frame))) (payload_in c.form c.size (bits_of c.frame))
  read c h =
      let e = (k.data_read c refl).found ∙ ap (λ (n : ℕ). found_of n c.form c.size (bits_of c.frame)) h in
      same (ap (λ (f : DataFields). f.answer) e) (ap (λ (f : DataFields). f.overhead) e)
      ((k.data_read c refl).payload_left ∙ held-given (answer (data_read_checks c)) c.payload (payload_in c.form c.size (bits_of c.frame)) h)

  pub data-exact : DataFrames x
  data-exact = record {
    written = written;
    due = λ c h. (k.data_write c refl).due_right (data-write-answer x k c ∙ h);
    sixes = sixes;
    sixes_due = λ c h. (k.data_crc c refl).due_right (data-crc-answer x k c ∙ h);
    checked = λ c h. same ((k.data_check c refl).answered ∙ h) (only _) (only _);
    read = read;
    check_seven = λ c.
        let d = check-decides c.form c.size c.sync c.next c.frame in
        let is = (k.data_check c refl).answered in (
          (λ z. (d.reached (sym is ∙ z), (k.data_check c refl).due_wrong z)),
          (λ p. is ∙ d.answers p.0 (not-due c.form c.size c.next (bits_of c.frame) (bits-bits c.frame) p.1)),
        );
    read_seven = λ c.
        let d = read-decides c.form c.size c.sync c.next c.frame c.payload in
        let is = data-read-answer x k c in (
          (λ z. (d.reached (sym is ∙ z), (k.data_read c refl).due_wrong z)),
          (λ p. is ∙ d.answers p.0 (not-due c.form c.size c.next (bits_of c.frame) (bits-bits c.frame) p.1)),
        );
  }

-- ---- the second sentence

-- what a call to which no check applies was handed
pub taken : (c : DataWriteCall) → Right (data_write_checks c)
    → Taken c.form c.size c.sync (overhead_of c.overhead) c.payload × (length c.frame ≡ room_of c.form)
taken c h = write-takes c.form c.size c.sync (overhead_of c.overhead) c.payload c.frame h

-- a frame that is not refused: neither its room, its form and its size, nor what stands in it
both-pass : (form k word next : ℕ) (frame : List ℕ) → answer (check_refusals form k word next frame) ≡ 0
    → (answer (crc_refusals form k frame) ≡ 0) × (answer (bit_refusals form k word next (bits_of frame)) ≡ 0)
both-pass form k word next frame z =
    let C = crc_refusals form k frame in
    let L = check_refusals form k word next frame in
    let a = none-applies 0 (not (is_room form (length frame))) (drop 1 L) z in
    let b = none-applies 1 (ltb 1 form) (drop 2 L) a.1 in
    let d = none-applies 3 (not (is_size k)) (drop 3 L) b.1 in
    let e = none-applies 3 (leb (2 ^ 14) word) (drop 4 L) d.1 in
    let f = none-applies 3 (leb (2 ^ 6) next) (drop 5 L) e.1 in
    (passed 1 (drop 1 C) a.0 ∙ passed 2 (drop 2 C) b.0 ∙ passed 4 [] d.0, f.1)

-- other six may stand in it
with-six : (c : DataWriteCall) (six : ℕ) → Right (data_write_checks c) → six < 2 ^ 6 → Right (data_write_checks (with_six six c))
with-six c six h l =
    let t = taken c h in
    writes c.form c.size c.sync (with_crc six (overhead_of c.overhead)) c.payload c.frame
    (taken-with c.form c.size c.sync (overhead_of c.overhead) c.payload six t.0 l) t.1

module _ (x y : Library) (ex : DataFrames x) (ey : DataFrames y) where
  -- what x hands out is what is due
  handed : (c : DataWriteCall) → Right (data_write_checks c) → (x.data_write c).numbers ≡ due_of c.form c.size (bits_of (frame_for c))
  handed c h = ap (λ (o : Outcome ℕ (List ℕ)). o.numbers) (ex.written c h)

  handed-small : (c : DataWriteCall) → Right (data_write_checks c) → (x.data_write c).numbers < 2 ^ 6
  handed-small c h = (ex.due c h).below

  frame_back : (c : DataWriteCall) → Right (data_write_checks c) → Octets c.payload → ComesBack x y c (x.data_write c).numbers
  frame_back c h o room l =
      let form = c.form in
      let k = c.size in
      let O = overhead_of c.overhead in
      let F = frame_for c in
      let R = (taken c h).0 in
      let call : ℕ → List ℕ → DataReadCall =
      λ six f. record { form = c.form; size = c.size; sync = c.sync; next = six; frame = f; payload = room } in
      ap (λ (m : Outcome ℕ (List ℕ)). y.data_read (call m.numbers m.memory)) (ex.written c h)
      ∙ ey.read (call (due_of form k (bits_of F)) F) (written-reads form k c.sync O c.payload R room l)
      ∙ ap₂ (λ (a : Overhead) (b : List ℕ). done (overhead_for a) b) (overhead-is form k c.sync O c.payload R) (payload-is form k c.sync O c.payload R o)

  -- the six that y finds in a frame
  six-found : (c : DataWriteCall) → Right (data_write_checks c) → six_in x y c ≡ c.overhead.crc
  six-found c h =
      let O = overhead_of c.overhead in
      let R = (taken c h).0 in
      let call : List ℕ → DataCrcCall = λ f. record { form = c.form; size = c.size; frame = f } in
      ap (λ (m : Outcome ℕ (List ℕ)). (y.data_crc (call m.memory)).numbers.carried) (ex.written c h)
      ∙ ap (λ (m : Outcome Sixes None). m.numbers.carried) (ey.sixes (call (frame_for c)) (written-fits c.form c.size c.sync O c.payload R))
      ∙ six-is c.form c.size c.sync O c.payload R

  -- frames one after the other
  frames-back : (six : ℕ) (cs : List DataWriteCall) → six < 2 ^ 6 → AllRight cs → AllComeBack x y (in_a_row x six cs)
  frames-back six [] l none_right = nothing
  frames-back six (c ∷ []) l (one_right h o none_right) = last (frame_back (with_six six c) (with-six c six h l) o)
  frames-back six (c ∷ d ∷ cs) l (one_right h o (one_right i p r)) =
      let c' = with_six six c in
      let h' = with-six c six h l in
      let next = (x.data_write c').numbers in
      let small : next < 2 ^ 6 = handed-small c' h' in
      before (subst (ComesBack x y c') (sym (six-found (with_six next d) (with-six d next i small))) (frame_back c' h' o))
      (frames-back next (d ∷ cs) small (one_right i p r))

  -- a frame that was read is written again
  again-back : (c : DataReadCall) (room : List ℕ) → Right (data_read_checks c) → Octets c.frame → length room ≡ room_of c.form
      → let r = y.data_read c in
      x.data_write (record { form = c.form; size = c.size; sync = c.sync; overhead = r.numbers; payload = r.memory; frame = room })
      ≡ done c.next c.frame
  again-back c room h o l =
      let form = c.form in
      let k = c.size in
      let word = c.sync in
      let B = bits_of c.frame in
      let S = check_refusals form k word c.next c.frame in
      let one = none-applies 0 (not (eqb (length c.payload) (6 * k))) S h in
      let split = both-pass form k word c.next c.frame one.1 in
      let f = fit form k c.frame split.0 in
      let long : length B ≡ 8 * room_of form = bits-length c.frame ∙ ap (λ (n : ℕ). 8 * n) f.room in
      let w = again form k word c.next B f.known f.least f.most long (bits-bits c.frame) split.1 in
      let O = overhead_in form k B in
      let P = payload_in form k B in
      let call : DataOverhead → List ℕ → DataWriteCall =
      λ a p. record { form = c.form; size = c.size; sync = c.sync; overhead = a; payload = p; frame = room } in
      let F : data_octets form k word O P ≡ c.frame =
      ap (octets_of (room_of form)) (sym w.0) ∙ ap (λ (n : ℕ). octets_of n B) (sym f.room) ∙ octets-bits c.frame o in
      ap (λ (m : Outcome DataOverhead (List ℕ)). x.data_write (call m.numbers m.memory)) (ey.read c h)
      ∙ ex.written (call (overhead_for O) P) (writes form k word O P room w.1 l)
      ∙ ap (λ (t : List ℕ). done (due_of form k (bits_of t)) t) F ∙ ap (λ (n : ℕ). done n c.frame) (sym w.2)

  pub data-interwork : DataBack x y
  data-interwork = record { frame = frame_back; frames = frames-back; again = again-back }
