-- A frame with any one of its bits 1 to 4,232 changed no longer answers 0. Assumes nothing.
use mathlib.Core.Path.{◌≡◌, refl, sym, ap, ◌∙◌, subst}
use mathlib.Core.Bool.{Bool, true, false, not, ◌&&◌, ◌||◌}
use mathlib.Core.Logic.{◌⊎◌, inl, inr}
use mathlib.Core.List.{List, ◌++◌}
use Prim.Native.Nat.{ℕ, zero, suc, ◌+◌, ◌-◌, ◌≤◌, ◌<◌}
use native.Mathlib.Decide.{dec_lt}
use native.Mathlib.Nat.{not-suc-le-zero, le_of_suc-le-suc, eq-or-lt_of_le, zero-add}
use native.Mathlib.Omega.{arith}
use borrow.Author.Tests.{eqb-true, eqb-false, not-true}
use lib.Dec.{lit≤, eqb}
use lib.ListN.{length, get_or, take, drop, set, replicate, length-set, get_or-replicate}
use lib.Seq.{get_or-take, get_or-drop, get_or-set_same, take-set-lt, drop-set-add, take-add, drop-drop}
use Rattle.answer.specs.Answer.{answer}
use Rattle.octets.specs.Bits.{value_of, part}
use Rattle.octets.proofs.Digits.{Bits}
use Rattle.remainder.specs.Division.{polynomial, generator, Multiple, Remainder}
use Rattle.remainder.specs.Errors.{flipped}
use Rattle.remainder.proofs.Division.{exists}
use Rattle.remainder.proofs.Errors.{flipped-bits, divisible, one-flip, generator-degree, generator-odd}
use Rattle.ranges.proofs.Laws.{both}
use Rattle.layout.specs.Places.{sync_field, check_field, pad_field}
use Rattle.layout.specs.Frame.{training_sync, final_sync, field_of, message_of, check_of}
use Rattle.layout.specs.Refusals.{bit_refusals, has_sync}
use Rattle.layout.proofs.RoundTrip.{Sound, sound, field-length, field-bits, training-sync, final-sync, zeros-are}

-- ---- a part of a list in which one bit is turned over

-- the part holds it
part-flipped : (B : List ℕ) (at n i : ℕ) → i < n → part at n (flipped B (at + i)) ≡ flipped (part at n B) i
part-flipped B at n i h =
    let e : get_or (part at n B) i 0 ≡ get_or B (at + i) 0 = get_or-take n (drop at B) i 0 h ∙ get_or-drop at B i 0 in
    ap (take n) (drop-set-add at B i (1 - get_or B (at + i) 0))
    ∙ take-set-lt n (drop at B) i (1 - get_or B (at + i) 0) h
    ∙ ap (λ (x : ℕ). set (part at n B) i (1 - x)) (sym e)

-- ---- sync

-- no sync word with one bit turned over is a sync word: tried at all fourteen places
apart-at : List ℕ → List ℕ → ℕ → Bool
apart-at w x zero = true
apart-at w x (suc i) = not (eqb (value_of (flipped w i)) (value_of x)) && apart-at w x i

apart-is : (w x : List ℕ) (n i : ℕ) → apart-at w x n ≡ true → i < n → value_of (flipped w i) ≡ value_of x → ⊥
unfolding apart-at
apart-is w x zero i e h f = not-suc-le-zero h
apart-is w x (suc n) i e h f =
    let b = both (not (eqb (value_of (flipped w n)) (value_of x))) (apart-at w x n) e in
    pick (eq-or-lt_of_le (le_of_suc-le-suc h)) b.0 (λ l. apart-is w x n i b.1 l f)
  where
    pick : (i ≡ n) ⊎ (i < n) → not (eqb (value_of (flipped w n)) (value_of x)) ≡ true → (i < n → ⊥) → ⊥
    pick (inl g) d k = eqb-false _ _ (not-true _ d) (ap (λ (j : ℕ). value_of (flipped w j)) (sym g) ∙ f)
    pick (inr l) d k = k l

syncs-apart : (apart-at training_sync training_sync 14 ≡ true) × (apart-at training_sync final_sync 14 ≡ true)
    × (apart-at final_sync training_sync 14 ≡ true) × (apart-at final_sync final_sync 14 ≡ true)
unfolding apart-at training_sync final_sync value_of
syncs-apart = (refl, refl, refl, refl)

-- one of two tests holds
either : (s t : Bool) → (s || t) ≡ true → (s ≡ true) ⊎ (t ≡ true)
either true t e = inl refl
either false t e = inr e

-- ---- the bit that was turned over

module _ (B : List ℕ) (l : length B ≡ 4232) (h : Bits B) where
  -- where the check bits are right, message and check bits are a multiple of the generator
  pub whole : polynomial (field_of check_field B) ≡ check_of (message_of B) → Multiple generator (polynomial (part 14 4213 B))
  whole k =
      let m = message_of B in
      let c = field_of check_field B in
      let e : part 14 4213 B ≡ m ++ c = take-add 4197 16 (drop 14 B) ∙ ap (λ (x : List ℕ). m ++ take 16 x) (drop-drop 4197 14 B) in
      let d = exists 16 generator (lit≤ tt) generator-degree m (field-bits B l h 14 4197) in
      subst (λ (x : List ℕ). Multiple generator (polynomial x)) (sym e)
      ((divisible 16 generator m c (field-bits B l h 4211 16) (field-length B l h 4211 16 (lit≤ tt))).0
      (subst (Remainder 16 generator m) (sym k) d))

module _ (B : List ℕ) (i : ℕ) (l : length B ≡ 4232) (h : Bits B) (s : Sound B) (s' : Sound (flipped B i)) where
  l' : length (flipped B i) ≡ 4232
  l' = length-set B i (1 - get_or B i 0) ∙ l

  h' : Bits (flipped B i)
  h' = flipped-bits B i h

  in-sync : i < 14 → ⊥
  in-sync k = pick (either _ _ s.known) (either _ _ s'.known)
    where
      -- the sync field, changed
      now : (w : List ℕ) → field_of sync_field B ≡ w → field_of sync_field (flipped B i) ≡ flipped w i
      now w e = ap (λ (j : ℕ). part 0 14 (flipped B j)) (sym (zero-add i)) ∙ part-flipped B 0 14 i k ∙ ap (λ (x : List ℕ). flipped x i) e

      clash : (w x : List ℕ) → apart-at w x 14 ≡ true → field_of sync_field B ≡ w → value_of (field_of sync_field (flipped B i)) ≡ value_of x → ⊥
      clash w x a e f = apart-is w x 14 i a k (sym (ap value_of (now w e)) ∙ f)

      pick : (has_sync training_sync B ≡ true) ⊎ (has_sync final_sync B ≡ true)
          → (has_sync training_sync (flipped B i) ≡ true) ⊎ (has_sync final_sync (flipped B i) ≡ true) → ⊥
      pick (inl t) (inl u) = clash training_sync training_sync syncs-apart.0 (training-sync B l h t) (eqb-true _ _ u)
      pick (inl t) (inr u) = clash training_sync final_sync syncs-apart.1 (training-sync B l h t) (eqb-true _ _ u)
      pick (inr t) (inl u) = clash final_sync training_sync syncs-apart.2 (final-sync B l h t) (eqb-true _ _ u)
      pick (inr t) (inr u) = clash final_sync final_sync syncs-apart.3 (final-sync B l h t) (eqb-true _ _ u)

  in-message : 14 ≤ i → i < 4227 → ⊥
  in-message k m =
      let W = part 14 4213 B in
      let e : i ≡ 14 + (i - 14) = omega arith in
      let f : part 14 4213 (flipped B i) ≡ flipped W (i - 14) = ap (λ (j : ℕ). part 14 4213 (flipped B j)) e ∙ part-flipped B 14 4213 (i - 14) (omega arith) in
      one-flip 16 generator (lit≤ tt) generator-degree generator-odd W (i - 14) (field-bits B l h 14 4213) (omega (arith, field-length B l h 14 4213 (lit≤ tt)))
      (whole B l h s.checked) (subst (λ (x : List ℕ). Multiple generator (polynomial x)) f (whole (flipped B i) l' h' s'.checked))

  in-pad : 4227 ≤ i → i < 4232 → ⊥
  in-pad k m =
      let j = i - 4227 in
      let e : i ≡ 4227 + j = omega arith in
      let f : part 4227 5 (flipped B i) ≡ flipped (field_of pad_field B) j = ap (λ (n : ℕ). part 4227 5 (flipped B n)) e
      ∙ part-flipped B 4227 5 j (omega arith) in
      let z : field_of pad_field B ≡ replicate 5 0 = zeros-are B l h 4227 5 (lit≤ tt) s.clear in
      let z' : part 4227 5 (flipped B i) ≡ replicate 5 0 = zeros-are (flipped B i) l' h' 4227 5 (lit≤ tt) s'.clear in
      let g : get_or (replicate {A = ℕ} 5 0) j 0 ≡ 0 = get_or-replicate 5 j zero zero (omega arith) in
      let one : get_or (flipped (replicate 5 0) j) j 0 ≡ 1 = get_or-set_same (replicate 5 0) j (1 - get_or (replicate 5 0) j 0) 0 (omega arith)
      ∙ ap (λ (n : ℕ). 1 - n) g in
      let no : get_or (flipped (replicate 5 0) j) j 0 ≡ 0 = ap (λ (x : List ℕ). get_or x j 0) (sym (f ∙ ap (λ (x : List ℕ). flipped x j) z) ∙ z') ∙ g in
      omega arith

-- any one changed bit is seen
pub one_bit : (B : List ℕ) (i : ℕ) → length B ≡ 4232 → Bits B → i < 4232 → answer (bit_refusals B) ≡ 0 → answer (bit_refusals (flipped B i)) ≡ 0 → ⊥
one_bit B i l h k e f = pick (dec_lt i 14) (dec_lt i 4227)
  where
    pick : Dec (i < 14) → Dec (i < 4227) → ⊥
    pick (yes a) d = in-sync B i l h (sound B e) (sound (flipped B i) f) a
    pick (no a) (yes b) = in-message B i l h (sound B e) (sound (flipped B i) f) (omega arith) b
    pick (no a) (no b) = in-pad B i l h (sound B e) (sound (flipped B i) f) (omega arith) k
