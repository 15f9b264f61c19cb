-- What `read` gives and leaves is its promise. Assumes nothing.
use mathlib.Core.Path.{◌≡◌, refl, sym, ap, ◌∙◌}
use mathlib.Core.Bool.{not}
use mathlib.Core.List.{List}
use Prim.Native.Nat.{ℕ, zero, suc, ◌*◌}
use native.Mathlib.Omega.{arith}
use borrow.Author.Tests.{eq-eqb, ne_eqb}
use lib.ListN.{length}
use Rattle.std.specs.Prelude.{Result, Ok, Err}
use Rattle.std.specs.Result.{IsOk}
use Rattle.answer.specs.declared.Refused.{Refused}
use Rattle.answer.specs.declared.Refused.TheVariants.{Length}
use Rattle.answer.specs.Given.{number_of}
use Rattle.answer.specs.Answer.{Refusal, answer}
use Rattle.answer.proofs.Laws.{refused, passed, stopped, kept, given}
use Rattle.answer.proofs.Given.{refused-number}
use Rattle.octets.specs.Bits.{bits_of}
use Rattle.dataframe.specs.declared.Form.{Form}
use Rattle.dataframe.specs.Forms.{form_number, FormGiven}
use Rattle.dataframe.specs.Frame.{overhead_in, payload_in, Due}
use Rattle.dataframe.specs.Refusals.{crc_refusals, frame_refusals, check_refusals, read_refusals}
use Rattle.dataframe.proofs.Refused.{Fit, fit}
use Rattle.datachecker.specs.declared.Verdict.{Verdict}
use Rattle.datachecker.specs.Promises.{DataChecked}
use Rattle.datareader.specs.Promises.{DataRead}
use Rattle.datareader.proofs.Laws.{overhead-is}

module _ (form k word next : ℕ) (frame octets : List ℕ) where
  abbrev R : List Refusal
  R = read_refusals form k word next frame octets

  abbrev S : List Refusal
  S = check_refusals form k word next frame

  abbrev B : List ℕ
  B = bits_of frame

  long : length octets ≡ 6 * k → answer R ≡ answer S
  long h = passed 1 S (ap not (eq-eqb (length octets) (6 * k) h))

  refused-with : (e : Refused) → number_of e ≡ answer R → (number_of e ≡ 7 → Due form k B next → ⊥) → DataRead form k word next frame octets (Err e) octets
  refused-with e h w =
      let p = refused-number e in
      record {
        answered = h;
        found = tt;
        payload_left = sym (kept (answer R) octets (payload_in form k B) (λ z. omega (arith, h, p, z)));
        due_right = λ z. absurd (omega (arith, p, z));
        due_wrong = w;
      }

  pub short : (length octets ≡ 6 * k → ⊥) → DataRead form k word next frame octets (Err Length) octets
  short h = refused-with Length (sym (refused 1 S (ap not (ne_eqb (length octets) (6 * k) h)))) (λ z. absurd (omega (arith, z)))

  pub wrong : length octets ≡ 6 * k → (e : Refused) → DataChecked form k word next frame (number_of e) → DataRead form k word next frame octets (Err e) octets
  wrong l e c = refused-with e (c.answered ∙ sym (long l)) c.due_wrong

  -- where the answer is 0, room, form and size are right
  pub right : DataChecked form k word next frame 0 → Fit form k frame
  right c = fit form k frame (first (answer (crc_refusals form k frame)) refl)
    where
      first : (n : ℕ) → answer (crc_refusals form k frame) ≡ n → n ≡ 0
      first zero e = refl
      first (suc n) e =
          let s : answer S ≡ answer (crc_refusals form k frame) = stopped (crc_refusals form k frame) (frame_refusals form k word next B) (λ y. omega (arith, e, y)) in
          absurd (omega (arith, s, e, c.answered))

  -- and the number is a form's
  pub known : (r : Result Form Refused) → FormGiven form r → DataChecked form k word next frame 0 → IsOk r
  known (Ok g) p c = refl
  known (Err e) p c = absurd (omega (arith, p.1, (right c).known))

  pub done : length octets ≡ 6 * k → (v : Verdict) → v.stuffing ≡ (overhead_in form k B).stuffing → v.crc ≡ (overhead_in form k B).crc
      → DataChecked form k word next frame 0 → (g : Form) → form_number g ≡ form
      → (i e s : ℕ) (exit : List ℕ) → i ≡ (overhead_in (form_number g) k B).indicators → e ≡ (overhead_in (form_number g) k B).eoc
      → s ≡ (overhead_in (form_number g) k B).spare → exit ≡ payload_in (form_number g) k B
      → DataRead form k word next frame octets (Ok (record { indicators = i; eoc = e; spare = s; stuffing = v.stuffing; crc = v.crc })) exit
  done l v et er c g q i e s exit ei ee es ex =
      let y : 0 ≡ answer R = c.answered ∙ sym (long l) in
      let o = λ (n : ℕ). overhead_in n k B in
      record {
        answered = y;
        found = overhead-is form k B i e s v.stuffing v.crc (ei ∙ ap (λ (n : ℕ). (o n).indicators) q) (ee ∙ ap (λ (n : ℕ). (o n).eoc) q)
            (es ∙ ap (λ (n : ℕ). (o n).spare) q) et er;
        payload_left = ex ∙ ap (λ (n : ℕ). payload_in n k B) q ∙ sym (given (answer R) octets (payload_in form k B) (sym y));
        due_right = λ z. c.due_right z;
        due_wrong = λ w. absurd (omega (arith, w));
      }
