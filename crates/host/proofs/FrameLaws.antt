-- From reader's promise to the exported one. Assumes nothing.
use mathlib.Core.Path.{◌≡◌, refl, sym, ap, ◌∙◌, subst}
use mathlib.Core.Bool.{Bool, true, false, cond}
use mathlib.Core.List.{List}
use Prim.Native.Nat.{ℕ, zero, suc, ◌≤◌}
use native.Mathlib.Omega.{arith}
use borrow.Author.Tests.{eq-eqb}
use lib.IntN.{ℤ}
use lib.ListN.{length}
use Rattle.std.specs.Prelude.{Result, Ok, Err}
use Rattle.answer.specs.Answer.{answer, held}
use Rattle.answer.specs.declared.Refused.{Refused}
use Rattle.answer.specs.Given.{number_of}
use Rattle.answer.proofs.Given.{refused-number}
use Rattle.answer.proofs.Laws.{kept, given}
use Rattle.octets.specs.Bits.{value_of, bits_of}
use Rattle.octets.proofs.Numbers.{numbers-length}
use Rattle.layout.specs.Places.{coefficients_field, a_field, b_field}
use Rattle.layout.specs.Frame.{training_sync, field_of, coefficients_of}
use Rattle.layout.specs.Refusals.{has_sync, read_refusals}
use Rattle.numbers.specs.Promises.{number_octets, NumbersPut}
use Rattle.numbers.proofs.Laws.{put_whole}
use Rattle.reader.specs.declared.Found.{Found}
use Rattle.reader.specs.declared.Found.TheVariants.{Training, Final}
use Rattle.reader.specs.Promises.{words_in, coefficients_left, vendor_octets, reserved_left, Read}
use Rattle.host.specs.declared.frames.FrameFields.{FrameFields}
use Rattle.host.specs.Frames.{frame_read_refusals, found_of, coefficient_octets, FrameRead}

-- ---- what is read crosses as four numbers

crossed : Found → FrameFields
crossed (Training a b) = record { answer = 0; kind = 0; a = a; b = b }
crossed Final = record { answer = 0; kind = 1; a = 0; b = 0 }

-- a training frame is no final one
not-training : {a b : ℕ} → Training a b ≡ Final → ⊥
unfolding crossed
not-training e = absurd (omega (arith, ap (λ (x : Found). (crossed x).kind) e))

-- ---- reading

module _ (frame os vendor reserved : List ℕ) (cs cs' : List ℤ) (vendor' reserved' : List ℕ) (l : length os ≡ 720) (n : length cs ≡ 180) where
  abbrev A : ℕ
  A = answer (read_refusals frame cs vendor reserved)

  abbrev H : ℕ
  H = answer (frame_read_refusals frame os vendor reserved)

  abbrev B : List ℕ
  B = bits_of frame

  same : A ≡ H
  same = simp (eq-eqb _ _ l, eq-eqb _ _ n)

  -- what is returned, vendor data and reserved bits
  out : (f : Result Found Refused) → Read frame cs vendor reserved f cs' vendor' reserved' → (r : FrameFields) → r ≡ found_of H B
      → (os' : List ℕ) → os' ≡ held H os (coefficient_octets B os) → FrameRead frame os vendor reserved r os' vendor' reserved'
  out f p r g os' e =
      record {
        found = g;
        coefficients_held = e;
        vendor_held = p.vendor_held ∙ ap (λ (k : ℕ). held k vendor (vendor_octets B)) same;
        reserved_held = p.reserved_held ∙ ap (λ (k : ℕ). held k reserved (reserved_left B reserved)) same;
      }

  pub refused-out : (e : Refused) → Read frame cs vendor reserved (Err e) cs' vendor' reserved'
      → FrameRead frame os vendor reserved (record { answer = number_of e; kind = 0; a = 0; b = 0 }) os vendor' reserved'
  refused-out e p =
      out (Err e) p _ (with_number (number_of e) (refused-number e) ∙ ap (λ (k : ℕ). found_of k B) (p.answered ∙ same)) os
      (sym (kept H os (coefficient_octets B os) (λ z. let q = refused-number e in omega (arith, q, p.answered ∙ same, z))))
    where
      with_number : (k : ℕ) → 1 ≤ k → record { answer = k; kind = 0; a = 0; b = 0 } ≡ found_of k B
      with_number zero h = absurd (omega (arith, h))
      with_number (suc k) h = refl

  -- the coefficients' octets, where nothing is refused
  left_is : H ≡ 0 → (t : Bool) → has_sync training_sync B ≡ t → held H os (coefficient_octets B os) ≡ cond t (number_octets (coefficients_of B)) os
  left_is z t e = given H os (coefficient_octets B os) z ∙ ap (λ (k : Bool). cond k (number_octets (coefficients_of B)) os) e

  module _ (f : Found) (p : Read frame cs vendor reserved (Ok f) cs' vendor' reserved') where
    zero-answer : H ≡ 0
    zero-answer = sym (p.answered ∙ same)

    -- what is returned, by whether the frame is a training frame
    by_sync : (t : Bool) → has_sync training_sync B ≡ t
        → cond t (record { answer = 0; kind = 0; a = value_of (field_of a_field B); b = value_of (field_of b_field B) }) (record { answer = 0; kind = 1; a = 0; b = 0 })
        ≡ found_of H B
    by_sync t e =
        ap (λ (k : Bool). cond k (record { answer = 0; kind = 0; a = value_of (field_of a_field B); b = value_of (field_of b_field B) }) (record { answer = 0; kind = 1; a = 0; b = 0 })) (sym e)
        ∙ ap (λ (k : ℕ). found_of k B) (sym zero-answer)

    pub training-out : (a b : ℕ) → f ≡ Training a b → (os' : List ℕ) → NumbersPut os cs' os'
        → FrameRead frame os vendor reserved (record { answer = 0; kind = 0; a = a; b = b }) os' vendor' reserved'
    unfolding crossed
    training-out a b w os' e = go (has_sync training_sync B) refl (sym w ∙ p.found)
      where
        go : (t : Bool) → has_sync training_sync B ≡ t → Training a b ≡ cond t (words_in B) Final
            → FrameRead frame os vendor reserved (record { answer = 0; kind = 0; a = a; b = b }) os' vendor' reserved'
        go true t q =
            let c : cs' ≡ coefficients_of B =
            p.coefficients_held ∙ given A cs (coefficients_left B cs) (sym p.answered) ∙ ap (λ (b : Bool). cond b (coefficients_of B) cs) t in
            let put = subst (λ (zs : List ℤ). NumbersPut os zs os') c e in
            let filled = put_whole os l (coefficients_of B) (numbers-length 22 180 (field_of coefficients_field B)) in
            out (Ok f) p _ (ap crossed q ∙ by_sync true t) os' (put ∙ filled ∙ sym (left_is zero-answer true t))
        go false t q = absurd (not-training q)

    pub final-out : f ≡ Final → FrameRead frame os vendor reserved (record { answer = 0; kind = 1; a = 0; b = 0 }) os vendor' reserved'
    final-out w = go (has_sync training_sync B) refl (sym w ∙ p.found)
      where
        go : (t : Bool) → has_sync training_sync B ≡ t → Final ≡ cond t (words_in B) Final
            → FrameRead frame os vendor reserved (record { answer = 0; kind = 1; a = 0; b = 0 }) os vendor' reserved'
        go true t q = absurd (not-training (sym q))
        go false t q = out (Ok f) p _ (by_sync false t) os (sym (left_is zero-answer false t))
