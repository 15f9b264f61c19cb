-- Every error of one, two or three bits, and every burst of up to 16, in bits 15 to 4,227 of a frame that answers 0 makes it answer 7, over
-- the definitions. Assumes nothing.
use mathlib.Core.Path.{◌≡◌, refl, sym, ap, ◌∙◌, subst}
use mathlib.Core.Bool.{Bool, true, false, not, ◌||◌}
use mathlib.Core.Logic.{◌⊎◌, inl, inr}
use mathlib.Core.List.{List}
use Prim.Native.Nat.{ℕ}
use native.Mathlib.Omega.{arith}
use borrow.Author.Tests.{eq-eqb, eqb-true}
use lib.Bits.{bit_xor}
use lib.Dec.{eqb}
use lib.ListN.{length, take, drop}
use Rattle.answer.specs.Answer.{answer}
use Rattle.answer.proofs.Laws.{passed, refused}
use Rattle.octets.specs.Bits.{value_of, part}
use Rattle.octets.proofs.Digits.{Bits}
use Rattle.remainder.specs.Division.{polynomial, Multiple, generator}
use Rattle.remainder.proofs.Errors.{sum-multiple}
use Rattle.remainder.proofs.Quotient.{shl-multiple}
use Rattle.layout.specs.Places.{sync_field, check_field, pad_field}
use Rattle.layout.specs.Frame.{training_sync, final_sync, field_of, message_of, check_of}
use Rattle.layout.specs.Refusals.{bit_refusals, has_sync}
use Rattle.layout.proofs.RoundTrip.{sound}
use Rattle.layout.proofs.OneBit.{whole}
use Rattle.distance.specs.Errors.{longest, Same, FewBits, BurstBits, Covered, Few, Burst}
use Rattle.distance.proofs.Between.{before, behind, within-sum}
use Rattle.distance.proofs.Seen.{scope-differ}

module _ (B C : List ℕ) (l : length B ≡ 4232) (m : length C ≡ 4232) (h : Bits B) (k : Bits C) where
  same : length B ≡ length C
  same = l ∙ sym m

  -- where both have right check bits, what lies between them is a multiple of the generator
  both_right : Covered B C → polynomial (field_of check_field B) ≡ check_of (message_of B) → polynomial (field_of check_field C) ≡ check_of (message_of C)
      → Same generator B C
  both_right w p q =
      let x = polynomial (part 14 4213 B) in
      let y = polynomial (part 14 4213 C) in
      subst (Multiple generator) (sym (within-sum 14 4213 B C same w h k))
      (shl-multiple generator (bit_xor x y) (length (drop 4227 B)) (sum-multiple generator x y (whole B l h p) (whole C m k q)))

  -- a frame is short enough for its generator
  seen : Few B C ⊎ Burst B C → Same generator B C → ⊥
  seen f = scope-differ B C same h k (omega arith) (kind f)
    where
      kind : Few B C ⊎ Burst B C → FewBits B C ⊎ BurstBits longest B C
      kind (inl f) = inl (record { some = f.some; few = f.few })
      kind (inr f) = inr (record { some = f.some; start = f.start; near = f.near })

  covered : Few B C ⊎ Burst B C → Covered B C
  covered (inl f) = f.covered
  covered (inr f) = f.covered

  -- so the check bits of the other are wrong, and nothing that is looked at before them
  pub detected : Few B C ⊎ Burst B C → answer (bit_refusals B) ≡ 0 → answer (bit_refusals C) ≡ 7
  detected f z =
      let s = sound B z in
      let w = covered f in
      let first : field_of sync_field C ≡ field_of sync_field B = sym (before 14 4213 B C same w) in
      let last : field_of pad_field C ≡ field_of pad_field B = ap (take 5) (sym (behind 14 4213 B C same w)) in
      let known : (has_sync training_sync C || has_sync final_sync C) ≡ true =
      ap (λ (x : List ℕ). eqb (value_of x) (value_of training_sync) || eqb (value_of x) (value_of final_sync)) first ∙ s.known in
      passed 5 (drop 1 (bit_refusals C)) (ap not known)
      ∙ passed 6 (drop 2 (bit_refusals C)) (ap not (eq-eqb _ _ (ap value_of last ∙ s.clear)))
      ∙ refused 7 (drop 3 (bit_refusals C)) (ap not (wrong (eqb (polynomial (field_of check_field C)) (check_of (message_of C))) refl))
    where
      wrong : (t : Bool) → eqb (polynomial (field_of check_field C)) (check_of (message_of C)) ≡ t → t ≡ false
      wrong true e = absurd (seen f (both_right (covered f) (sound B z).checked (eqb-true _ _ e)))
      wrong false e = refl
