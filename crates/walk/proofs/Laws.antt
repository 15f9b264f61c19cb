-- Where no place is past the last one that a number can name, fields one behind the other are the numbers in the bits, and the place behind them is
-- their widths further. Assumes nothing.
use mathlib.Core.Path.{◌≡◌, refl, sym, ap, ap₂, ◌∙◌}
use mathlib.Core.List.{List, ◌∷◌}
use Prim.Native.Nat.{ℕ, zero, suc, ◌+◌, ◌*◌, ◌^◌, ◌≤◌, ◌<◌, min}
use native.Mathlib.Nat.{min-eq_left, mul-suc, mul-zero}
use native.Mathlib.Omega.{arith}
use lib.IntN.{ℤ}
use lib.ListN.{drop}
use lib.Seq.{drop-drop}
use Rattle.octets.specs.Bits.{value_of, bits_of, part}
use Rattle.octets.specs.Signed.{signed_of, numbers_in}
use Rattle.bitfields.specs.Promises.{behind_of}
use Rattle.octets.proofs.Fields.{part-part}
use Rattle.walk.specs.Promises.{signed_from, behind_all}

module _ (w : ℕ) (h : w ≤ 32) where
  -- the place behind a field
  pub behind-is : (at : ℕ) → at + w < 2 ^ 64 → behind_of at w ≡ at + w
  behind-is at l = min-eq_left (omega (arith, width)) ∙ ap (λ (k : ℕ). at + k) width
    where
      width : min w 32 ≡ w
      width = min-eq_left h

  -- the place behind n fields
  pub behind-all-is : (n at : ℕ) → at + w * n < 2 ^ 64 → behind_all at w n ≡ at + w * n
  unfolding behind_all
  behind-all-is zero at l = omega (arith, mul-zero w)
  behind-all-is (suc n) at l =
      ap (λ (k : ℕ). behind_all k w n) (behind-is at (omega (arith, mul-suc w n))) ∙ behind-all-is n (at + w) (omega (arith, mul-suc w n))
      ∙ omega (arith, mul-suc w n)

  -- n fields within the m bits from place p on, from the bit `at` of those on
  pub signed-from : (s : List ℕ) (p m : ℕ) → p + m < 2 ^ 64 → (n at : ℕ) → at + w * n ≤ m
      → signed_from s (p + at) w n ≡ numbers_in w n (drop at (part p m (bits_of s)))
  unfolding signed_from numbers_in
  signed-from s p m l zero at f = refl
  signed-from s p m l (suc n) at f =
      let B = bits_of s in
      let e : p + at + w ≡ p + (at + w) = omega arith in
      ap₂ (λ (z : ℤ) (zs : List ℤ). z ∷ zs)
      (ap (λ (k : ℕ). signed_of k (value_of (part (p + at) k B))) (min-eq_left h)
      ∙ ap (λ (x : List ℕ). signed_of w (value_of x)) (sym (part-part B at w p m (p + at) (omega (arith, mul-suc w n)) refl)))
      (ap (λ (k : ℕ). signed_from s k w n) (behind-is (p + at) (omega (arith, mul-suc w n)) ∙ e)
      ∙ signed-from s p m l n (at + w) (omega (arith, mul-suc w n))
      ∙ ap (numbers_in w n) (sym (drop-drop w at (part p m B))))
