-- What `write` answers and leaves is its promise. Assumes nothing.
use mathlib.Core.Path.{◌≡◌, sym, ap, ◌∙◌, subst}
use native.Mathlib.Omega.{arith}
use mathlib.Core.Bool.{true, not, ◌&&◌}
use mathlib.Core.List.{List, ◌++◌}
use Prim.Native.Nat.{ℕ, ◌*◌, ◌^◌}
use borrow.Author.Tests.{eq-eqb, ne_eqb, not-false}
use lib.Dec.{eqb, leb}
use lib.ListN.{length, drop}
use Rattle.answer.specs.Answer.{Refusal, answer}
use Rattle.answer.proofs.Laws.{none, refused, passed, stopped, kept, given as held-given}
use Rattle.octets.specs.Bits.{bits_of}
use Rattle.dataframe.specs.declared.Overhead.{Overhead}
use Rattle.dataframe.specs.Frame.{data_octets, due_of, Due}
use Rattle.dataframe.specs.Refusals.{is_stuffing, crc_refusals, value_refusals, write_refusals}
use Rattle.dataframe.proofs.Refused.{behind-is}
use Rattle.std.specs.Prelude.{Ok, Err}
use Rattle.answer.specs.declared.Refused.{Refused}
use Rattle.answer.specs.declared.Refused.TheVariants.{Length}
use Rattle.answer.specs.Given.{number_of}
use Rattle.answer.proofs.Given.{refused-number}
use Rattle.datawriter.specs.Promises.{DataWritten}

-- numbers that are not refused have stuffing of their form
pub stuffing-right : (form word : ℕ) (o : Overhead) → answer (value_refusals form word o) ≡ 0 → is_stuffing form o.stuffing ≡ true
stuffing-right form word o e =
    let R = value_refusals form word o in
    let a = none 3 (leb (2 ^ 14) word) (drop 1 R) e in
    let b = none 3 (leb (2 ^ 4) o.indicators) (drop 2 R) a.1 in
    let c = none 3 (leb (2 ^ 20) o.eoc) (drop 3 R) b.1 in
    let d = none 3 (leb (2 ^ 6) o.crc) (drop 4 R) c.1 in
    let f = none 3 (eqb form 0 && leb (2 ^ 4) o.spare) (drop 5 R) d.1 in
    not-false _ (none 8 (not (is_stuffing form o.stuffing)) (drop 6 R) f.1).0

module _ (form k word : ℕ) (o : Overhead) (octets frame : List ℕ) where
  abbrev R : List Refusal
  R = write_refusals form k word o octets frame

  abbrev exact : List ℕ
  exact = data_octets form k word o octets

  not-written : (e : Refused) → number_of e ≡ answer R → DataWritten form k word o octets frame (Err e) frame
  not-written e h =
      let p = refused-number e in
      record {
        answered = h;
        given = tt;
        left = sym (kept (answer R) frame exact (λ z. omega (arith, h, p, z)));
        due_right = tt;
      }

  pub short : (length octets ≡ 6 * k → ⊥) → DataWritten form k word o octets frame (Err Length) frame
  short h = not-written Length (sym (refused 1 (crc_refusals form k frame ++ value_refusals form word o) (ap not (ne_eqb (length octets) (6 * k) h))))

  long : length octets ≡ 6 * k → answer R ≡ answer (crc_refusals form k frame ++ value_refusals form word o)
  long h = passed 1 (crc_refusals form k frame ++ value_refusals form word o) (ap not (eq-eqb (length octets) (6 * k) h))

  pub room-wrong : (e : Refused) → length octets ≡ 6 * k → number_of e ≡ answer (crc_refusals form k frame) → DataWritten form k word o octets frame (Err e) frame
  room-wrong e h z =
      let p = refused-number e in
      not-written e (sym (long h ∙ stopped (crc_refusals form k frame) (value_refusals form word o) (λ y. omega (arith, z, p, y)) ∙ sym z))

  value-answered : (n : ℕ) → length octets ≡ 6 * k → answer (crc_refusals form k frame) ≡ 0 → n ≡ answer (value_refusals form word o) → n ≡ answer R
  value-answered n h z e = sym (long h ∙ behind-is form k frame z (value_refusals form word o) ∙ sym e)

  pub value-wrong : (e : Refused) → length octets ≡ 6 * k → answer (crc_refusals form k frame) ≡ 0 → number_of e ≡ answer (value_refusals form word o)
      → DataWritten form k word o octets frame (Err e) frame
  value-wrong e h z v = not-written e (value-answered (number_of e) h z v)

  pub was-written : (exit : List ℕ) (six : ℕ) → length octets ≡ 6 * k → answer (crc_refusals form k frame) ≡ 0 → 0 ≡ answer (value_refusals form word o)
      → exit ≡ exact → six ≡ due_of form k (bits_of exit) → Due form k (bits_of exit) six → DataWritten form k word o octets frame (Ok six) exit
  was-written exit six h z v e d r =
      let y = value-answered 0 h z v in
      record {
        answered = y;
        given = d ∙ ap (λ (s : List ℕ). due_of form k (bits_of s)) e;
        left = e ∙ sym (held-given (answer R) frame exact (sym y));
        due_right = r;
      }

-- the same by a number that is the form's
pub written-by : (n form k word : ℕ) (o : Overhead) (octets frame exit : List ℕ) (six : ℕ) → n ≡ form → length octets ≡ 6 * k
    → 0 ≡ answer (crc_refusals form k frame) → 0 ≡ answer (value_refusals n word o) → exit ≡ data_octets n k word o octets
    → six ≡ due_of n k (bits_of exit) → Due n k (bits_of exit) six → DataWritten form k word o octets frame (Ok six) exit
written-by n form k word o octets frame exit six p h y v e d r =
    subst (λ (x : ℕ). DataWritten x k word o octets frame (Ok six) exit) p
    (was-written n k word o octets frame exit six h (sym (subst (λ (x : ℕ). 0 ≡ answer (crc_refusals x k frame)) (sym p) y)) v e d r)
