-- Laws of two's complement, over the width. Assumes nothing.
use mathlib.Core.Path.{◌≡◌, refl, sym, ap, ◌∙◌, subst}
use mathlib.Core.Bool.{Bool, true, false, cond}
use Prim.Native.Nat.{ℕ, zero, suc, ◌+◌, ◌-◌, ◌*◌, ◌/◌, ◌%◌, ◌^◌, ◌≤◌, ◌<◌}
use native.Mathlib.Nat.{pow-suc, mod-lt, mod-eq_of_lt, add-mul}
use native.Mathlib.Decide.{dec_lt}
use native.Mathlib.Omega.{arith}
use borrow.Author.Tests.{lt-ltb, le-ltb, ltb-true}
use lib.IntN.{ℤ, pos, negsuc, ◌-ℤ◌}
use lib.Arith.{digits_div, digits_mod}
use lib.Pow.{pow_pos, pow_mono, pow-add, split, shr_lt, mod-mod-pow}
use lib.Signed.{mag, lt_z}
use mir.Syntax.{w32}
use mir.Val.{SFits, to_z, of_z}
use mir.Facts.{to_z-of_z, to_z_pos}
use Rattle.octets.specs.Bits.{digits_of}
use Rattle.octets.specs.Signed.{signed_of, twos_of}
use Rattle.octets.proofs.Digits.{digits-mod-pow}

-- twice the weight of the highest digit
pub twice : (w : ℕ) → 1 ≤ w → 2 ^ w ≡ 2 ^ (w - 1) * 2
twice zero h = absurd (omega arith)
twice (suc w) h = pow-suc 2 w ∙ ap (λ (n : ℕ). 2 ^ n * 2) (pred-suc w)
  where
    pred-suc : (w : ℕ) → w ≡ suc w - 1
    pred-suc w = omega arith

-- a number less a larger one
less : (a b : ℕ) → a < b → pos a -ℤ pos b ≡ negsuc (b - 1 - a)
less a zero h = absurd (omega arith)
less a (suc b) h = ap (λ (t : Bool). cond t (negsuc (suc b - suc a)) (pos (a - suc b))) (lt-ltb a (suc b) h) ∙ ap negsuc (omega arith)

module _ (w n : ℕ) where
  pub signed_low : n < 2 ^ (w - 1) → signed_of w n ≡ pos n
  unfolding signed_of
  signed_low h = simp (lt-ltb n (2 ^ (w - 1)) h)

  pub signed_high : 2 ^ (w - 1) ≤ n → n < 2 ^ w → signed_of w n ≡ negsuc (2 ^ w - 1 - n)
  unfolding signed_of
  signed_high h l = simp (le-ltb n (2 ^ (w - 1)) h) (less n (2 ^ w) l)

-- ---- as the code computes it

-- where the highest digit is 0, as the code asks it: no more than half of 2^w; a number of no digits is 0
pub low_half : (w n : ℕ) → n + n < 2 ^ w → n < 2 ^ (w - 1)
low_half zero n h = omega arith
low_half (suc w) n h = omega (arith, twice (suc w) (omega arith))

pub high_half : (w n : ℕ) → 2 ^ w ≤ n + n → n < 2 ^ w → 2 ^ (w - 1) ≤ n
high_half zero n h l = absurd (omega arith)
high_half (suc w) n h l = omega (arith, twice (suc w) (omega arith))

pub less_one : (d : ℕ) → negsuc 0 -ℤ pos d ≡ negsuc d
less_one zero = refl
less_one (suc d) = ap negsuc (omega arith)

none : (n : ℕ) → pos n -ℤ pos 0 ≡ pos n
none zero = refl
none (suc n) = ap pos (omega arith)

-- the number, less 2^w where the highest digit is 1
pub signed_less : (w n : ℕ) → n < 2 ^ w → pos n -ℤ pos ((n + n) / 2 ^ w * 2 ^ w) ≡ signed_of w n
signed_less w n h = pick (dec_lt (n + n) (2 ^ w))
  where
    P : ℕ
    P = 2 ^ w

    taken : (q : ℕ) → (n + n) / P ≡ q → pos n -ℤ pos ((n + n) / P * P) ≡ pos n -ℤ pos (q * P)
    taken q e = ap (λ (x : ℕ). pos n -ℤ pos (x * P)) e

    pick : Dec (n + n < P) → pos n -ℤ pos ((n + n) / P * P) ≡ signed_of w n
    pick (yes l) =
        let e : n + n ≡ 0 * P + (n + n) = omega arith in
        let z : 0 * P ≡ 0 = omega arith in
        taken 0 (ap (λ (x : ℕ). x / P) e ∙ digits_div 0 l) ∙ ap (λ (x : ℕ). pos n -ℤ pos x) z ∙ none n
        ∙ sym (signed_low w n (low_half w n l))
    pick (no l) =
        let m : P ≤ n + n = omega arith in
        let e : n + n ≡ 1 * P + (n + n - P) = omega arith in
        let o : 1 * P ≡ P = omega arith in
        taken 1 (ap (λ (x : ℕ). x / P) e ∙ digits_div 1 (omega arith)) ∙ ap (λ (x : ℕ). pos n -ℤ pos x) o ∙ less n P h
        ∙ sym (signed_high w n (high_half w n m h) h)

-- the bits that a machine holds of a whole number
pub cast-twos : (z : ℤ) → SFits w32 z → of_z w32 z ≡ twos_of 32 z
unfolding twos_of
cast-twos (pos n) f = omega (arith, f.sfits)
cast-twos (negsuc n) f = omega (arith, f.sfits)

back : (n : ℕ) → negsuc 0 -ℤ negsuc n ≡ pos n
back n =
    let e : suc n - 1 ≡ n = omega arith in
    ap (λ (t : Bool). cond t (negsuc (1 - suc (suc n))) (pos (suc n - 1))) (le-ltb (suc n) 1 (omega arith)) ∙ ap pos e

module _ (z : ℤ) (f : SFits w32 z) where
  pub below-zero : lt_z z (pos 0) ≡ true → (negsuc 0 -ℤ z ≡ pos (mag z)) × (4294967295 - mag z ≡ twos_of 32 z)
  unfolding twos_of
  below-zero = go z f
    where
      go : (z : ℤ) → SFits w32 z → lt_z z (pos 0) ≡ true → (negsuc 0 -ℤ z ≡ pos (mag z)) × (4294967295 - mag z ≡ twos_of 32 z)
      go (pos n) f e = absurd (omega (arith, ltb-true n 0 e))
      go (negsuc n) f e = (back n, omega (arith, f.sfits))

  pub from_zero : lt_z z (pos 0) ≡ false → (z ≡ pos (mag z)) × (mag z ≡ twos_of 32 z)
  unfolding twos_of
  from_zero = go z f
    where
      go : (z : ℤ) → SFits w32 z → lt_z z (pos 0) ≡ false → (z ≡ pos (mag z)) × (mag z ≡ twos_of 32 z)
      go (pos n) f e = (refl, omega (arith, f.sfits))
      go (negsuc n) f e = absurd (mathlib.Core.Bool.true≢false e)

-- and what they stand for, read in two's complement
pub cast-signed : (n : ℕ) → n < 2 ^ 32 → to_z w32 n ≡ signed_of 32 n
cast-signed n h = pick (dec_lt n (2 ^ 31))
  where
    pick : Dec (n < 2 ^ 31) → to_z w32 n ≡ signed_of 32 n
    pick (yes l) = to_z_pos w32 l ∙ sym (signed_low 32 n l)
    pick (no l) =
        let m : 2 ^ 31 ≤ n = omega arith in
        simp (le-ltb n (2 ^ 31) m) (ap negsuc (omega arith) ∙ sym (signed_high 32 n m h))

-- ---- fewer digits of the same number

-- the digits of the highest number less m, turned over digit by digit
over-mod : (j w m : ℕ) → m < 2 ^ (j + w) → (2 ^ (j + w) - 1 - m) % 2 ^ w ≡ 2 ^ w - 1 - m % 2 ^ w
over-mod j w m h =
    let P = 2 ^ w in
    let q = m / P in
    let r = m % P in
    let t = 2 ^ j - 1 - q in
    let hr : r < P = mod-lt m (pow_pos w) in
    let hq : q < 2 ^ j = shr_lt j w h in
    let m-is : q * P + r ≡ m = split m w in
    let j-is : 2 ^ j ≡ q + 1 + t = omega arith in
    let whole : 2 ^ (j + w) ≡ q * P + P + t * P =
    pow-add 2 j w ∙ ap (λ (x : ℕ). x * P) j-is ∙ add-mul (q + 1) t P ∙ ap (λ (x : ℕ). x + t * P) (add-mul q 1 P ∙ omega arith) in
    let e : 2 ^ (j + w) - 1 - m ≡ t * P + (P - 1 - r) = omega arith in
    ap (λ (x : ℕ). x % P) e ∙ digits_mod t (omega arith)

pub twos-mod : (j w : ℕ) (z : ℤ) → twos_of (j + w) z % 2 ^ w ≡ twos_of w z
unfolding twos_of
twos-mod j w (pos n) = mod-mod-pow n j w
twos-mod j w (negsuc n) =
    over-mod j w (n % 2 ^ (j + w)) (mod-lt n (pow_pos (j + w))) ∙ ap (λ (x : ℕ). 2 ^ w - 1 - x) (mod-mod-pow n j w)

-- the w low digits of the 32
pub twos-digits : (w : ℕ) (z : ℤ) → w ≤ 32 → digits_of w (twos_of 32 z) ≡ digits_of w (twos_of w z)
twos-digits w z h =
    let e : 32 ≡ 32 - w + w = omega arith in
    sym (digits-mod-pow w (twos_of 32 z))
    ∙ ap (digits_of w) (ap (λ (n : ℕ). twos_of n z % 2 ^ w) e ∙ twos-mod (32 - w) w z)

-- ---- there and back

pub twos-lt : (w : ℕ) (z : ℤ) → twos_of w z < 2 ^ w
unfolding twos_of
twos-lt w (pos n) = mod-lt n (pow_pos w)
twos-lt w (negsuc n) = omega (arith, pow_pos w)

-- the number that the digits of z stand for is z, where z lies from -2^(w-1) to 2^(w-1)-1
pub signed-twos : (w : ℕ) (z : ℤ) → 1 ≤ w → mag z < 2 ^ (w - 1) → signed_of w (twos_of w z) ≡ z
unfolding twos_of
signed-twos w (pos n) h l =
    let e : n % 2 ^ w ≡ n = mod-eq_of_lt (omega (arith, twice w h)) in
    ap (signed_of w) e ∙ signed_low w n l
signed-twos w (negsuc n) h l =
    let e : n % 2 ^ w ≡ n = mod-eq_of_lt (omega (arith, twice w h)) in
    let k : 2 ^ w - 1 - (2 ^ w - 1 - n) ≡ n = omega (arith, twice w h) in
    ap (λ (x : ℕ). signed_of w (2 ^ w - 1 - x)) e
    ∙ signed_high w (2 ^ w - 1 - n) (omega (arith, twice w h)) (omega (arith, twice w h))
    ∙ ap negsuc k

-- the digits of the number that n stands for are those of n
pub twos-signed : (w n : ℕ) → 1 ≤ w → n < 2 ^ w → twos_of w (signed_of w n) ≡ n
unfolding twos_of
twos-signed w n h l = pick (dec_lt n (2 ^ (w - 1)))
  where
    pick : Dec (n < 2 ^ (w - 1)) → twos_of w (signed_of w n) ≡ n
    pick (yes p) = ap (twos_of w) (signed_low w n p) ∙ mod-eq_of_lt l
    pick (no p) =
        let q : 2 ^ (w - 1) ≤ n = omega arith in
        let r : 2 ^ w - 1 - n < 2 ^ w = omega arith in
        ap (twos_of w) (signed_high w n q l) ∙ ap (λ (x : ℕ). 2 ^ w - 1 - x) (mod-eq_of_lt r) ∙ omega arith

-- it lies from -2^(w-1) to 2^(w-1)-1
pub signed_range : (w n : ℕ) → 1 ≤ w → n < 2 ^ w → mag (signed_of w n) < 2 ^ (w - 1)
signed_range w n h l = pick (dec_lt n (2 ^ (w - 1)))
  where
    pick : Dec (n < 2 ^ (w - 1)) → mag (signed_of w n) < 2 ^ (w - 1)
    pick (yes p) = subst (λ (z : ℤ). mag z < 2 ^ (w - 1)) (sym (signed_low w n p)) p
    pick (no p) =
        let q : 2 ^ (w - 1) ≤ n = omega arith in
        subst (λ (z : ℤ). mag z < 2 ^ (w - 1)) (sym (signed_high w n q l)) (omega (arith, twice w h))

-- of 32 digits or fewer it fits an i32
pub signed_fits : (w n : ℕ) → w ≤ 32 → n < 2 ^ w → SFits w32 (signed_of w n)
signed_fits zero n h l = subst (SFits w32) (sym (signed_low 0 n l)) (record { sfits = omega arith })
signed_fits (suc w) n h l =
    let i : w ≤ 31 = omega arith in
    let p : 2 ^ w ≤ 2 ^ 31 = pow_mono i in
    let e : suc w - 1 ≡ w = omega arith in
    record { sfits = omega (arith, p, signed_range (suc w) n (omega arith) l, ap (λ (x : ℕ). 2 ^ x) e) }

-- a number that fits an i32 is read back from its bits
pub read-i32 : (z : ℤ) → mag z < 2 ^ 31 → to_z w32 (of_z w32 z) ≡ z
read-i32 z h = let f : SFits w32 z = record { sfits = h } in to_z-of_z f
