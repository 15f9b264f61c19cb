-- The same for the functions, from their promises alone: an error in a frame that answers 0 makes `check` and `read` answer 7; and one bit
-- turned over is such an error. Assumes nothing.
use mathlib.Core.Path.{◌≡◌, refl, sym, ap, ◌∙◌}
use mathlib.Core.Bool.{not, cond}
use mathlib.Core.Logic.{◌⊎◌, inl, inr, ◌≢◌}
use mathlib.Core.List.{List, [], ◌∷◌}
use Prim.Native.Nat.{ℕ, zero, suc, ◌+◌, ◌-◌, ◌*◌, ◌≤◌, ◌<◌}
use native.Mathlib.Nat.{le_of_suc-le-suc, not-suc-le-zero}
use native.Mathlib.Omega.{arith}
use borrow.Author.Tests.{eq-eqb, eqb-true, not-false}
use lib.Dec.{eqb}
use lib.IntN.{ℤ}
use lib.ListN.{length, get_or, drop}
use lib.Seq.{get_or-set_other}
use Rattle.std.specs.Prelude.{Result, Ok, Err}
use Rattle.answer.specs.Answer.{answer}
use Rattle.answer.specs.declared.Refused.{Refused}
use Rattle.answer.specs.declared.Refused.TheVariants.{Check}
use Rattle.answer.specs.Given.{answer_of}
use Rattle.answer.proofs.Given.{result-one}
use Rattle.answer.proofs.Laws.{none, passed}
use Rattle.octets.specs.Bits.{bits_of}
use Rattle.octets.proofs.Digits.{Bits}
use Rattle.octets.proofs.Laws.{bits-length, bits-bits}
use Rattle.octets.proofs.Xor.{no-two}
use Rattle.remainder.specs.Errors.{flipped}
use Rattle.layout.specs.Refusals.{bit_refusals, read_refusals}
use Rattle.reader.specs.declared.Found.{Found}
use Rattle.checker.specs.Promises.{Checked}
use Rattle.reader.specs.Promises.{Read}
use Rattle.distance.specs.Errors.{distance, Few, Burst}
use Rattle.distance.proofs.Detected.{detected}

module _ (frame frame' : List ℕ) (l : length frame' ≡ 529)
    (f : Few (bits_of frame) (bits_of frame') ⊎ Burst (bits_of frame) (bits_of frame')) (c : Checked frame 0) where
  bits-answer : answer (bit_refusals (bits_of frame')) ≡ 7
  bits-answer =
      let x = none 0 (not (eqb (length frame) 529)) (bit_refusals (bits_of frame)) (sym c.answered) in
      let B = bits_of frame in
      let C = bits_of frame' in
      let long : (s : List ℕ) → length s ≡ 529 → length (bits_of s) ≡ 4232 = λ s e. bits-length s ∙ ap (λ (n : ℕ). 8 * n) e in
      detected B C (long frame (eqb-true _ _ (not-false _ x.0))) (long frame' l) (bits-bits frame) (bits-bits frame') f x.1

  pub changed-checked : (r : ℕ) → Checked frame' r → r ≡ 7
  changed-checked r g = g.answered ∙ passed 1 (bit_refusals (bits_of frame')) (ap not (eq-eqb _ _ l)) ∙ bits-answer

  pub changed-read : (room room' : List ℤ) (octets octets' reserved reserved' : List ℕ) (r : Result Found Refused) → length room ≡ 180 → length octets ≡ 16
      → length reserved ≡ 9 → Read frame' room octets reserved r room' octets' reserved' → r ≡ Err Check
  changed-read room room' octets octets' reserved reserved' r lr lo ls g =
      let R = read_refusals frame' room octets reserved in
      result-one r (Err Check)
      (g.answered ∙ passed 1 (drop 1 R) (ap not (eq-eqb _ _ l)) ∙ passed 1 (drop 2 R) (ap not (eq-eqb _ _ lr))
      ∙ passed 1 (drop 3 R) (ap not (eq-eqb _ _ lo)) ∙ passed 1 (drop 4 R) (ap not (eq-eqb _ _ ls)) ∙ bits-answer) (λ v w p q. absurd (ok≢err q))
    where
      ok≢err : {w : Found} → ◌≡◌ {A = Result Found Refused} (Err Check) (Ok w) → ⊥
      ok≢err e = absurd (omega (arith, ap (λ (x : Result Found Refused). answer_of x) e))

-- ---- one bit turned over

no_distance : (bs : List ℕ) → distance bs bs ≡ 0
unfolding distance
no_distance [] = refl
no_distance (b ∷ bs) = ap (λ t. cond t 0 1 + distance bs bs) (eq-eqb b b refl) ∙ omega (arith, no_distance bs)

flipped-distance : (bs : List ℕ) (i : ℕ) → Bits bs → i < length bs → distance bs (flipped bs i) ≡ 1
unfolding distance
flipped-distance [] i h l = absurd (not-suc-le-zero l)
flipped-distance (b ∷ bs) zero h l = ap (λ (n : ℕ). n + distance bs bs) (other b (h 0)) ∙ omega (arith, no_distance bs)
  where
    other : (b : ℕ) → b < 2 → ◌≡◌ {A = ℕ} (cond (eqb b (1 - b)) 0 1) 1
    other zero h = refl
    other (suc zero) h = refl
    other (suc (suc b)) h = no-two b h
flipped-distance (b ∷ bs) (suc i) h l =
    ap (λ t. cond t 0 1 + distance bs (flipped bs i)) (eq-eqb b b refl) ∙ omega (arith, flipped-distance bs i (λ j. h (suc j)) (le_of_suc-le-suc l))

pub flipped-few : (bs : List ℕ) (i : ℕ) → length bs ≡ 4232 → Bits bs → 14 ≤ i → i < 4227 → Few bs (flipped bs i)
flipped-few bs i l h a b =
    let d = flipped-distance bs i h (omega arith) in
    record { some = omega (arith, d); few = omega (arith, d); covered = λ j o. sym (get_or-set_other bs i j (1 - get_or bs i 0) 0 (apart j o)) }
  where
    apart : (j : ℕ) → (j < 14) ⊎ (4227 ≤ j) → j ≢ i
    apart j (inl o) e = omega arith
    apart j (inr o) e = omega arith
