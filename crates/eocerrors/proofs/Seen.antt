-- One, two or three wrong bits, or a burst of up to 16, in the body or the check sequence of a message make its form answer 7, over the definitions.
-- Assumes nothing.
use mathlib.Core.Path.{◌≡◌, refl, sym, ap, ◌∙◌}
use mathlib.Core.Bool.{Bool, true, false, not, ◌&&◌}
use mathlib.Core.List.{List}
use Prim.Native.Nat.{ℕ, ◌+◌, ◌-◌, ◌≤◌}
use native.Mathlib.Omega.{arith}
use borrow.Author.Tests.{leb-true}
use lib.Dec.{leb, lit≤}
use lib.ListN.{length, drop}
use Rattle.answer.specs.Answer.{answer}
use Rattle.answer.proofs.Laws.{passed, refused}
use Rattle.answer.proofs.Order.{both}
use Rattle.octets.specs.Bits.{bits_of}
use Rattle.octets.proofs.Laws.{bits-bits, bits-length}
use Rattle.remainder.specs.Division.{generator}
use Rattle.remainder.proofs.Errors.{generator-degree, generator-odd}
use Rattle.remainder.proofs.Start.{run-same}
use Rattle.distance.specs.Errors.{Same}
use Rattle.distance.proofs.Seen.{scope-differ}
use Rattle.fcs.specs.Sequence.{ones, register, good}
use Rattle.fcs.proofs.Good.{good_left}
use Rattle.eoc.specs.Message.{Message, body_most, body_of, fields_of, escaped, framed}
use Rattle.eoc.specs.Reading.{other_escape, unescaped, fields_in, is_length, is_checked, message_of}
use Rattle.eoc.specs.Refusals.{form_refusals}
use Rattle.eoc.proofs.Escapes.{escaped-no-flag, escaped-no-other, unescaped-escaped}
use Rattle.eoc.proofs.RoundTrip.{between-framed, framed_is, fields-message, fields-checked, sound-form}
use Rattle.eocerrors.specs.Errors.{Wrong}

-- ---- the check sequence

-- octets whose check sequence is right leave the good value
checked-good : (s : List ℕ) → 4 ≤ length s → is_checked s ≡ true → register s ≡ good
checked-good s h c = let m = message_of s in ap register (sym (fields-message s h c)) ∙ good_left (body_of m)

module _ (s t : List ℕ) (w : Wrong s t) where
  -- as many octets as a message has
  long : (4 ≤ length s) × (length s ≤ body_most + 2)
  long =
      let l = both (leb 4 (length s)) (leb (length s - 2) body_most) w.lawful in
      let most = leb-true (length s - 2) body_most l.1 in
      (leb-true 4 (length s) l.0, omega arith)

  same_bits : length (bits_of s) ≡ length (bits_of t)
  same_bits = omega (arith, bits-length s, bits-length t, w.same)

  -- where both are right, what lies between them is a multiple of the generator
  both_right : is_checked s ≡ true → is_checked t ≡ true → Same generator (bits_of s) (bits_of t)
  both_right c d =
      run-same 16 generator (lit≤ tt) generator-degree generator-odd ones (bits_of s) (bits_of t) (lit≤ tt) (bits-bits s) (bits-bits t) same_bits
      (checked-good s long.0 c ∙ sym (checked-good t (omega (arith, long, w.same)) d))

  -- so the check sequence of the other is wrong
  pub seen : is_checked s ≡ true → is_checked t ≡ false
  seen c = pick (is_checked t) refl
    where
      pick : (b : Bool) → is_checked t ≡ b → b ≡ false
      pick true d =
          absurd (scope-differ (bits_of s) (bits_of t) same_bits (bits-bits s) (bits-bits t) (omega (arith, bits-length s, long)) w.bits (both_right c d))
      pick false d = refl

  -- ---- the answer

  -- and nothing that is looked at before it
  pub answered : is_checked s ≡ true → answer (form_refusals (framed (escaped t))) ≡ 7
  answered c =
      let f = framed (escaped t) in
      let R = form_refusals f in
      let e : fields_in f ≡ t = ap unescaped (between-framed (escaped t)) ∙ unescaped-escaped t in
      let l : is_length t ≡ true = ap (λ (n : ℕ). leb 4 n && leb (n - 2) body_most) (sym w.same) ∙ w.lawful in
      passed 10 (drop 1 R) (ap not (framed_is (escaped t) (escaped-no-flag t)))
      ∙ passed 11 (drop 2 R) (ap other_escape (between-framed (escaped t)) ∙ escaped-no-other t)
      ∙ passed 12 (drop 3 R) (ap (λ (x : List ℕ). not (is_length x)) e ∙ ap not l)
      ∙ refused 7 (drop 4 R) (ap (λ (x : List ℕ). not (is_checked x)) e ∙ ap not (seen c))

-- a message as it is written, and any form that answers 0
pub message-answered : (m : Message) (t : List ℕ) → Wrong (fields_of m) t → answer (form_refusals (framed (escaped t))) ≡ 7
message-answered m t w = answered (fields_of m) t w (fields-checked m)

pub form-answered : (s t : List ℕ) → answer (form_refusals s) ≡ 0 → Wrong (fields_in s) t → answer (form_refusals (framed (escaped t))) ≡ 7
form-answered s t z w = answered (fields_in s) t w (sound-form s z).is-checked
