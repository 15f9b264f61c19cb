-- Laws of checking a frame. Assumes nothing.
use mathlib.Core.Path.{◌≡◌, refl, sym, ap, ap₂, ◌∙◌}
use mathlib.Core.Bool.{Bool, true, false, cond, not, ◌||◌}
use mathlib.Core.List.{List, ◌∷◌, reverse}
use Prim.Native.Nat.{ℕ}
use native.Mathlib.Omega.{arith}
use borrow.Author.Tests.{eq-eqb, ne_eqb, eqb-true, not-false}
use lib.Dec.{eqb, lit≤}
use lib.ListN.{length, drop, length-drop}
use lib.Seq.{length-take-le}
use Rattle.answer.specs.Answer.{refuse, answer}
use Rattle.std.specs.Prelude.{Result, Ok, Err, IsErr, IsErrAnd}
use Rattle.answer.specs.declared.Refused.{Refused}
use Rattle.answer.specs.declared.Refused.TheVariants.{Length}
use Rattle.answer.specs.Given.{number_of}
use Rattle.answer.proofs.Laws.{passed, none}
use Rattle.octets.specs.Bits.{digits_of, value_of, bits_of, part}
use Rattle.octets.proofs.Digits.{digits_value, take-bits, drop_bits}
use Rattle.octets.proofs.Laws.{bits-length, bits-bits}
use Rattle.bitfields.specs.Promises.{FieldRead}
use Rattle.remainder.specs.Division.{polynomial, generator}
use Rattle.remainder.specs.Promises.{CheckBits}
use Rattle.remainder.proofs.Division.{computed}
use Rattle.remainder.proofs.Errors.{generator-degree}
use Rattle.layout.specs.Places.{check_field}
use Rattle.layout.specs.Frame.{training_sync, final_sync, field_of, message_of, check_of}
use Rattle.layout.specs.Refusals.{has_sync, bit_refusals, check_refusals}
use Rattle.layout.proofs.Laws.{training-value, final_value}
use Rattle.layout.proofs.Check.{check_right, check_wrong}
use Rattle.checker.specs.declared.Kind.{Kind}
use Rattle.checker.specs.declared.Kind.TheVariants.{Training, Final}
use Rattle.checker.specs.Promises.{Checked, kind_number, KindChecked}

-- ---- sync, the first field of a frame

module _ (f : List ℕ) (v : ℕ) (e : FieldRead f 0 14 v) where
  pub training-is : v ≡ 0x359f → has_sync training_sync (bits_of f) ≡ true
  training-is h = eq-eqb (value_of (part 0 14 (bits_of f))) (value_of training_sync) (sym e ∙ h ∙ sym training-value)

  pub training-not : (v ≡ 0x359f → ⊥) → has_sync training_sync (bits_of f) ≡ false
  training-not h = ne_eqb (value_of (part 0 14 (bits_of f))) (value_of training_sync) (λ g. h (e ∙ g ∙ training-value))

  -- a final frame's sync is not the training frame's
  pub final-other : v ≡ 0x3e6b → has_sync training_sync (bits_of f) ≡ false
  final-other h = training-not (λ g. apart (sym h ∙ g))
    where
      apart : ◌≡◌ {A = ℕ} 0x3e6b 0x359f → ⊥
      apart g = omega arith

  pub final-is : v ≡ 0x3e6b → has_sync final_sync (bits_of f) ≡ true
  final-is h = eq-eqb (value_of (part 0 14 (bits_of f))) (value_of final_sync) (sym e ∙ h ∙ sym final_value)

  pub final-not : (v ≡ 0x3e6b → ⊥) → has_sync final_sync (bits_of f) ≡ false
  final-not h = ne_eqb (value_of (part 0 14 (bits_of f))) (value_of final_sync) (λ g. h (e ∙ g ∙ final_value))

-- ---- check bits

-- as the code reads them
pub check-number : (f : List ℕ) (c t : ℕ) → length f ≡ 529 → c ≡ value_of (part 4211 16 (bits_of f)) → t ≡ value_of (reverse (digits_of 16 c))
    → t ≡ polynomial (field_of check_field (bits_of f))
check-number f c t l e g =
    let B = bits_of f in
    let K = part 4211 16 B in
    let n : length K ≡ 16 = length-take-le 16 (drop 4211 B) (omega (arith, length-drop 4211 B, bits-length f)) in
    let back : digits_of 16 c ≡ K =
    ap (digits_of 16) e ∙ ap (λ (i : ℕ). digits_of i (value_of K)) (sym n) ∙ digits_value K (take-bits 16 (drop 4211 B) (drop_bits 4211 B (bits-bits f))) in
    g ∙ ap (λ (x : List ℕ). value_of (reverse x)) back

pub checks-is : (f : List ℕ) (r c t : ℕ) → length f ≡ 529 → CheckBits f 14 4197 r → c ≡ value_of (part 4211 16 (bits_of f))
    → t ≡ value_of (reverse (digits_of 16 c))
    → eqb t r ≡ eqb (polynomial (field_of check_field (bits_of f))) (check_of (message_of (bits_of f)))
checks-is f r c t l d e g =
    let B = bits_of f in
    ap₂ eqb (check-number f c t l e g)
    (computed 16 generator (lit≤ tt) generator-degree (message_of B) r (take-bits 4197 (drop 14 B) (drop_bits 14 B (bits-bits f))) d)

-- ---- behind a sync word that is known, a frame is refused for what its end is refused for

end_is : (f : List ℕ) → (has_sync training_sync (bits_of f) || has_sync final_sync (bits_of f)) ≡ true
    → answer (drop 1 (bit_refusals (bits_of f))) ≡ answer (bit_refusals (bits_of f))
end_is f k = sym (passed 5 (drop 1 (bit_refusals (bits_of f))) (ap not k))

pub training-end : (f : List ℕ) → has_sync training_sync (bits_of f) ≡ true → answer (drop 1 (bit_refusals (bits_of f))) ≡ answer (bit_refusals (bits_of f))
training-end f t = end_is f (ap (λ (b : Bool). b || has_sync final_sync (bits_of f)) t)

pub final-end : (f : List ℕ) → has_sync training_sync (bits_of f) ≡ false → has_sync final_sync (bits_of f) ≡ true
    → answer (drop 1 (bit_refusals (bits_of f))) ≡ answer (bit_refusals (bits_of f))
final-end f t u = end_is f (ap₂ ◌||◌ t u)

-- ---- the promise

-- the answer says of the check bits what the division says
pub checked : {frame : List ℕ} {r : ℕ} → r ≡ answer (check_refusals frame) → Checked frame r
checked {frame} {r} e =
    record {
      answered = e;
      check_right = λ z. check_right (bits_of frame) (bits-bits frame) (none 0 (not (eqb (length frame) 529)) (bit_refusals (bits_of frame)) (sym e ∙ z)).1;
      check_wrong = λ z. check_wrong (bits_of frame) (bits-bits frame) (past (not (eqb (length frame) 529)) (sym e ∙ z));
    }
  where
    past : (t : Bool) → answer (refuse 1 t ∷ bit_refusals (bits_of frame)) ≡ 7 → answer (bit_refusals (bits_of frame)) ≡ 7
    past true f = absurd (omega arith)
    past false f = f

-- what `?` hands on is the refusal that it was given
pub handed-on : {A : Type 0} (r : Result A Refused) (e : Refused) → IsErr r × IsErrAnd r (λ x. x ≡ e) → r ≡ Err e
handed-on (Ok v) e h = absurd h.1
handed-on (Err x) e h = ap Err h.1

-- a frame that is refused, and one that is right, of the right length: what is refused behind that
module _ (f : List ℕ) where
  pub length-kind : (length f ≡ 529 → ⊥) → KindChecked f (Err Length)
  length-kind h = record { checked = checked (simp (ne_eqb _ _ h)); kind_is = tt }

  module _ (l : length f ≡ 529) where
    whole : {n : ℕ} → n ≡ answer (bit_refusals (bits_of f)) → n ≡ answer (check_refusals f)
    whole e = e ∙ ap (λ (t : Bool). answer (refuse 1 (not t) ∷ bit_refusals (bits_of f))) (sym (eq-eqb (length f) 529 l))

    pub refused-kind : (e : Refused) → number_of e ≡ answer (bit_refusals (bits_of f)) → KindChecked f (Err e)
    refused-kind e h = record { checked = checked (whole h); kind_is = tt }

    pub known-kind : (k : Kind) → 0 ≡ answer (bit_refusals (bits_of f)) → kind_number k ≡ cond (has_sync training_sync (bits_of f)) 0 1 → KindChecked f (Ok k)
    known-kind k h e = record { checked = checked (whole h); kind_is = e }

-- ---- what is known of a frame of which nothing is refused

-- its length
pub right-length : (f : List ℕ) → answer (check_refusals f) ≡ 0 → length f ≡ 529
right-length f z = eqb-true (length f) 529 (not-false _ (none 0 (not (eqb (length f) 529)) (bit_refusals (bits_of f)) z).0)

-- by its kind, its sync
module _ (f : List ℕ) where
  pub kind-training : KindChecked f (Ok Training) → has_sync training_sync (bits_of f) ≡ true
  kind-training d = go (has_sync training_sync (bits_of f)) d.kind_is
    where
      go : (t : Bool) → ◌≡◌ {A = ℕ} 0 (cond t 0 1) → t ≡ true
      go true e = refl
      go false e = absurd (omega (arith, e))

  pub kind-final : KindChecked f (Ok Final) → has_sync training_sync (bits_of f) ≡ false
  kind-final d = go (has_sync training_sync (bits_of f)) d.kind_is
    where
      go : (t : Bool) → ◌≡◌ {A = ℕ} 1 (cond t 0 1) → t ≡ false
      go true e = absurd (omega (arith, e))
      go false e = refl
