-- Laws of the sum of products: how large it can be. Assumes nothing.
use mathlib.Core.Path.{◌≡◌, refl}
use mathlib.Core.Bool.{true}
use mathlib.Core.List.{List}
use Prim.Native.Nat.{ℕ, zero, suc, ◌+◌, ◌*◌, ◌≤◌}
use native.Mathlib.Nat.{mul-le-mul}
use native.Mathlib.Omega.{arith}
use lib.IntN.{ℤ, pos, negsuc, neg_ℤ, nat_abs, ◌+ℤ◌, ◌*ℤ◌}
use lib.ListN.{get_or}
use lib.Signed.{mag}
use mir.Syntax.{w32, w64}
use mir.Val.{SFits}
use mir.Facts.{sfits_widen}
use Rattle.ranges.specs.Ranges.{is_coefficient, every}
use Rattle.samples.specs.Samples.{is_signal}
use Rattle.precoder.specs.Precoder.{exact_sum}
use Rattle.samples.proofs.Linear.{abs_is, abs-of, add-bal}
use Rattle.ranges.proofs.Laws.{mag-at}

neg-abs : (n : ℕ) → nat_abs (neg_ℤ (pos n)) ≡ n
neg-abs zero = refl
neg-abs (suc n) = refl

pub mul-abs : (a b : ℤ) → nat_abs (a *ℤ b) ≡ nat_abs a * nat_abs b
mul-abs (pos a) (pos b) = refl
mul-abs (pos a) (negsuc b) = neg-abs (a * suc b)
mul-abs (negsuc a) (pos b) = neg-abs (suc a * b)
mul-abs (negsuc a) (negsuc b) = refl

pub add-abs : (a b : ℤ) → nat_abs (a +ℤ b) ≤ nat_abs a + nat_abs b
add-abs a b =
    abs-of (a +ℤ b) (nat_abs a + nat_abs b) (omega (arith, add-bal a b, abs_is a, abs_is b))
    (omega (arith, add-bal a b, abs_is a, abs_is b))

pub abs_mag : (z : ℤ) → nat_abs z ≤ suc (mag z)
abs_mag (pos n) = omega arith
abs_mag (negsuc n) = omega arith

-- an i32 that was widened is the number that it was
pub wide_fits : (z : ℤ) → SFits w32 z → SFits w64 z
wide_fits z f = sfits_widen tt f

module _ (coefficients past : List ℤ) (hc : every is_coefficient coefficients ≡ true) (hp : every is_signal past ≡ true) where
  term-abs : (k : ℕ) → nat_abs (get_or coefficients k (pos 0) *ℤ get_or past k (pos 0)) ≤ 2097152 * 131072
  term-abs k =
      let c : nat_abs (get_or coefficients k (pos 0)) ≤ 2097152 = omega (arith, abs_mag (get_or coefficients k (pos 0)), mag-at 2097151 coefficients k hc) in
      let y : nat_abs (get_or past k (pos 0)) ≤ 131072 = omega (arith, abs_mag (get_or past k (pos 0)), mag-at 131071 past k hp) in
      rw (mul-abs (get_or coefficients k (pos 0)) (get_or past k (pos 0))) (mul-le-mul c y)

  pub sum-abs : (k : ℕ) → nat_abs (exact_sum k coefficients past) ≤ 274877906944 * k
  unfolding exact_sum
  sum-abs zero = omega arith
  sum-abs (suc k) =
      omega (arith, sum-abs k, term-abs k, add-abs (exact_sum k coefficients past) (get_or coefficients k (pos 0) *ℤ get_or past k (pos 0)))
