-- No library whose operations channel messages are those of `Messages` is one of `RejectedMessages`. Assumes nothing.
use mathlib.Core.Path.{◌≡◌, refl, sym, ap, ◌∙◌}
use mathlib.Core.List.{List, [], ◌∷◌}
use Prim.Native.Nat.{ℕ}
use native.Mathlib.Omega.{arith}
use lib.Dec.{lit≤, lit<}
use lib.ListN.{length, get_or, replicate}
use Rattle.answer.specs.Answer.{answer}
use Rattle.answer.proofs.Laws.{passed}
use Rattle.eoc.specs.Message.{Message, Lawful, escaped, written, padded, contents_most, form_most}
use Rattle.eoc.specs.Refusals.{form_refusals}
use Rattle.eoc.proofs.RoundTrip.{reads-back}
use Rattle.eocunits.specs.Units.{records_of, records_in, joined, count_taking, units_after, some_wide}
use Rattle.demands.specs.Handed.{Outcome}
use Rattle.demands.specs.HandedEoc.{EocWriteCall, EocReadCall, EocFields, EocUnitsCall}
use Rattle.demands.specs.Library.{Library}
use Rattle.demands.specs.Checks.{eoc_write_checks, eoc_hand_up_checks}
use Rattle.demands.specs.Frames.{Right}
use Rattle.demands.specs.Messages.{message_of, Messages}
use Rattle.demands.specs.WrongMessages.{RejectedMessages}

-- a message of the LTU to the NTU without contents, with this number, into a room of this octet
abbrev calling : ℕ → ℕ → EocWriteCall
calling number o = record { source = 1; destination = 2; number = number; contents = []; room = replicate 156 o }

-- Inventory Request
abbrev request : Message
request = message_of (calling 2 0)

request-lawful : Lawful request
request-lawful = record { source_fits = lit< tt; destination_fits = lit< tt; number_fits = lit< tt; contents_fit = lit≤ tt; octets = λ i. lit< tt }

-- read into a room of this octet
abbrev reading : ℕ → EocReadCall
reading o = record { octets = written request; contents = replicate 73 o }

request-right : answer (form_refusals (written request)) ≡ 0
request-right = (reads-back request request-lawful).0

-- handed up to one unit with this own address
abbrev unit : ℕ → List ℕ
unit own = own ∷ replicate 78 0

abbrev handing : List ℕ → EocUnitsCall
handing units = record { octets = written request; units = units }

module _ (x : Library) (exact : Messages x) where
  wrote : (number o : ℕ) → Right (eoc_write_checks (calling number o))
      → ((x.eoc_write (calling number o)).answer ≡ 0) × ((x.eoc_write (calling number o)).memory ≡ padded form_most (written (message_of (calling number o))))
  wrote number o h =
      let e = exact.written_form (calling number o) h in
      (ap (λ (r : Outcome ℕ (List ℕ)). r.answer) e, ap (λ (r : Outcome ℕ (List ℕ)). r.memory) e)

  did_read : (o : ℕ) → ((x.eoc_read (reading o)).answer ≡ 0) × ((x.eoc_read (reading o)).memory ≡ padded contents_most [])
  did_read o =
      let e = exact.read (reading o) (passed 1 (form_refusals (written request)) refl ∙ request-right) in (
        ap (λ (r : Outcome EocFields (List ℕ)). r.answer) e,
        ap (λ (r : Outcome EocFields (List ℕ)). r.memory) e ∙ ap (λ (m : Message). padded contents_most m.contents) (reads-back request request-lawful).1,
      )

  handed : (units : List ℕ) → Right (eoc_hand_up_checks (handing units))
      → ((x.eoc_hand_up (handing units)).answer ≡ 0) × ((x.eoc_hand_up (handing units)).numbers ≡ count_taking request (records_in units))
      × ((x.eoc_hand_up (handing units)).memory ≡ units_after request units)
  handed units h =
      let e = exact.handed_up (handing units) h in
      let b = (reads-back request request-lawful).1 in (
        ap (λ (r : Outcome ℕ (List ℕ)). r.answer) e,
        ap (λ (r : Outcome ℕ (List ℕ)). r.numbers) e ∙ ap (λ (m : Message). count_taking m (records_in units)) b,
        ap (λ (r : Outcome ℕ (List ℕ)). r.memory) e ∙ ap (λ (m : Message). units_after m units) b,
      )

  -- unit 2 is meant, unit 3 is not
  two-right : Right (eoc_hand_up_checks (handing (unit 2)))
  unfolding some_wide records_of
  two-right = request-right

  three-right : Right (eoc_hand_up_checks (handing (unit 3)))
  unfolding some_wide records_of
  three-right = request-right

  pub messages-rejected : RejectedMessages x
  unfolding escaped records_of joined count_taking
  messages-rejected =
      record {
        refuses_writing = λ w. w (calling 2 0) (wrote 2 0 refl).0;
        one_form = λ w.
            let e : padded form_most (written (message_of (calling 2 0))) ≡ padded form_most (written (message_of (calling 3 0))) =
            sym (wrote 2 0 refl).1 ∙ w.1 (calling 2 0) (wrote 2 0 refl).0 ∙ sym (w.1 (calling 3 0) (wrote 3 0 refl).0) ∙ (wrote 3 0 refl).1 in
            two-three (ap (λ (l : List ℕ). get_or l 2 0) e);
        form_unwritten = λ w.
            let e : replicate {A = ℕ} 156 0 ≡ replicate 156 1 =
            sym (w (calling 2 0) (wrote 2 0 refl).0) ∙ (wrote 2 0 refl).1 ∙ sym (wrote 2 1 refl).1 ∙ w (calling 2 1) (wrote 2 1 refl).0 in
            zero_one (ap (λ (l : List ℕ). get_or l 0 0) e);
        refuses_reading = λ w. w (reading 0) (did_read 0).0;
        contents_unwritten = λ w.
            let e : replicate {A = ℕ} 73 0 ≡ replicate 73 1 =
            sym (w (reading 0) (did_read 0).0) ∙ (did_read 0).1 ∙ sym (did_read 1).1 ∙ w (reading 1) (did_read 1).0 in
            zero_one (ap (λ (l : List ℕ). get_or l 0 0) e);
        refuses_handing = λ w. w (handing (unit 2)) (handed (unit 2) two-right).0;
        hands_all = λ w.
            let e : count_taking request (records_in (unit 3)) ≡ length (records_in (unit 3)) =
            sym (handed (unit 3) three-right).1 ∙ (w (handing (unit 3)) (handed (unit 3) three-right).0).0 in
            zero_one e;
        hands_nothing = λ w.
            let e : unit 2 ≡ units_after request (unit 2) = sym (w (handing (unit 2)) (handed (unit 2) two-right).0) ∙ (handed (unit 2) two-right).2 in
            zero_one (ap (λ (l : List ℕ). get_or l 1 0) e);
      }
    where
      zero_one : ◌≡◌ {A = ℕ} 0 1 → ⊥
      zero_one e = omega (arith, e)

      two-three : ◌≡◌ {A = ℕ} 2 3 → ⊥
      two-three e = omega (arith, e)
