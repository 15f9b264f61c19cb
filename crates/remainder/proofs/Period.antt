-- The register by digits that come round, for any generator and a p where the register 1 is 1 again after p zeros: then p digits stand for all bits before
-- them, and those that leave at the front come in again at the end. Assumes nothing.
use mathlib.Core.Path.{◌≡◌, refl, sym, ap, ap₂, subst, ◌∙◌}
use mathlib.Core.Bool.{Bool, true, false}
use mathlib.Core.List.{List, [], ◌∷◌, ◌++◌}
use Prim.Native.Nat.{ℕ, ◌+◌, ◌-◌, ◌*◌, ◌/◌, ◌%◌, ◌^◌, ◌≤◌, ◌<◌}
use native.Mathlib.Nat.{mul_assoc, mod-lt, div-eq_of_lt}
use native.Mathlib.Omega.{arith}
use lib.Arith.{digits_lt}
use lib.Bits.{bit_xor, bit_or, or_shifted_r, xor_comm, xor_zero_r, xor_lt, xor_shr}
use lib.Dec.{lit≤}
use lib.Pow.{pow-add, pow_pos, pow_mono, shr_lt}
use Rattle.octets.specs.Bits.{digits_of}
use Rattle.octets.proofs.Digits.{append_bits, digits-bits, digits-length, digits-mod-pow}
use Rattle.octets.proofs.Words.{digits-cut, digits-join}
use Rattle.octets.proofs.Turn.{turn_of, turn-xor, turn-zero}
use Rattle.octets.proofs.Xor.{xor_assoc, shl-xor, back, mid}
use Rattle.octets.proofs.Sums.{sum, shifts, doubled, Solves, solves-far, solves-root, coded, solved, within-le}
use Rattle.remainder.specs.Division.{scale, times, polynomial, Degree, Multiple}
use Rattle.remainder.specs.Register.{register_of}
use Rattle.remainder.proofs.Division.{exists, exists-from, unique}
use Rattle.remainder.proofs.Errors.{polynomial-append, sum-multiple}
use Rattle.remainder.proofs.Quotient.{shl-multiple, sum-times, same_left, start_first, zeros-over, at-the-end}

-- a multiple of a multiple
through : (g h n : ℕ) → Multiple g h → Multiple h n → Multiple g n
unfolding times
through g h n m p = subst (Multiple g) (sym p.product) (each p.quotient)
  where
    one : (c : Bool) → Multiple g (scale c h)
    one true = m
    one false = record { quotient = []; product = refl }

    each : (q : List Bool) → Multiple g (times q h)
    each [] = record { quotient = []; product = refl }
    each (c ∷ q) = sum-multiple g (times q h * 2) (scale c h) (shl-multiple g (times q h) 1 (each q)) (one c)

-- the digits of twice a number: a zero comes first, and counts for nothing from zero
pub zero-first : (k g n x : ℕ) → register_of k g 0 (digits_of (1 + n) (x * 2)) ≡ register_of k g 0 (digits_of n x)
zero-first k g n x =
    let none : x * 2 ≡ x * 2 ^ 1 + 0 = omega arith in
    ap (register_of k g 0) (ap (digits_of (1 + n)) none ∙ digits-join 1 n (1 + n) x 0 refl (lit≤ tt)) ∙ zeros-over k g 1 (digits_of n x)

module _ (k g p : ℕ) (hk : 1 ≤ k) (dg : Degree g k) (e : register_of k g 1 (digits_of p 0) ≡ 1) where
  -- so D^p + 1 is a multiple, and so is that times anything
  round-one : Multiple g (sum (p ∷ []) 1)
  unfolding shifts
  round-one =
      let lt : 1 < 2 ^ k = omega (arith, pow_mono hk) in
      let D = exists-from k g hk dg 1 (digits_of p 0) (digits-bits p 0) lt in
      let none : 0 * 2 ^ k ≡ 0 = omega arith in
      record {
        quotient = D.quotient;
        product =
            ap (bit_xor 1)
            (sym (ap₂ (λ (n x : ℕ). bit_xor (1 * 2 ^ n) x) (digits-length p 0) (ap (λ (x : ℕ). x * 2 ^ k) (turn-zero p) ∙ none))
            ∙ D.divided ∙ ap (bit_xor (times D.quotient g)) e)
            ∙ xor_comm 1 (bit_xor (times D.quotient g) 1) ∙ back (times D.quotient g) 1;
      }

  round-multiple : (v : ℕ) → Multiple g (bit_xor (v * 2 ^ p) v)
  unfolding shifts
  round-multiple v =
      subst (Multiple g) (ap (bit_xor v) (xor_zero_r (v * 2 ^ p)) ∙ xor_comm v (v * 2 ^ p)) (through g (sum (p ∷ []) 1) (sum (p ∷ []) v) round-one (sum-times (p ∷ []) v))

  -- the digits that stand for a start
  pub start-round : (r : ℕ) → k ≤ p → r < 2 ^ k → register_of k g 0 (digits_of p (turn_of k r)) ≡ r
  start-round r h l =
      let t = turn_of k r in
      let M = round-multiple r in
      unique k g dg (digits_of p t) (register_of k g 0 (digits_of p t)) r (exists k g hk dg (digits_of p t) (digits-bits p t))
      (record {
        quotient = M.quotient;
        divided = start_first k p r h l ∙ sym (back (r * 2 ^ p) r) ∙ ap (λ (x : ℕ). bit_xor x r) M.product;
        below = l;
      })

  -- n digits more: the first n come round to the end
  more-round : (x t n : ℕ) → n ≤ p → register_of k g 0 (digits_of p x ++ digits_of n t) ≡ register_of k g 0 (digits_of (p - n) (x / 2 ^ n) ++ digits_of n (bit_xor x t))
  more-round x t n h =
      let j = p - n in
      let c : p ≡ n + j = omega arith in
      let c' : j + n ≡ p = omega arith in
      let B = x / 2 ^ n in
      let X = turn_of n x in
      let T = turn_of n t in
      let U = turn_of j B in
      let up : X * 2 ^ j * 2 ^ n ≡ X * 2 ^ p = mul_assoc X (2 ^ j) (2 ^ n) ∙ ap (λ (y : ℕ). X * y) (sym (pow-add 2 j n) ∙ ap (λ (m : ℕ). 2 ^ m) c') in
      let whole : turn_of p x * 2 ^ n ≡ bit_xor (X * 2 ^ p) (U * 2 ^ n) =
      ap (λ (y : ℕ). y * 2 ^ n)
      (ap polynomial (digits-cut n j p x c) ∙ polynomial-append (digits_of n x) (digits_of j B) (digits-bits j B)
      ∙ ap (λ (m : ℕ). bit_xor (X * 2 ^ m) U) (digits-length j B))
      ∙ shl-xor n (X * 2 ^ j) U ∙ ap (λ (y : ℕ). bit_xor y (U * 2 ^ n)) up in
      let a = digits_of p x ++ digits_of n t in
      let b = digits_of j B ++ digits_of n (bit_xor x t) in
      let pa : polynomial a ≡ bit_xor (X * 2 ^ p) (bit_xor (U * 2 ^ n) T) =
      polynomial-append (digits_of p x) (digits_of n t) (digits-bits n t) ∙ ap (λ (m : ℕ). bit_xor (turn_of p x * 2 ^ m) T) (digits-length n t)
      ∙ ap (λ (y : ℕ). bit_xor y T) whole ∙ xor_assoc (X * 2 ^ p) (U * 2 ^ n) T in
      let pb : polynomial b ≡ bit_xor (bit_xor (U * 2 ^ n) T) X =
      polynomial-append (digits_of j B) (digits_of n (bit_xor x t)) (digits-bits n (bit_xor x t))
      ∙ ap₂ (λ (m y : ℕ). bit_xor (U * 2 ^ m) y) (digits-length n (bit_xor x t)) (turn-xor n x t ∙ xor_comm X T) ∙ sym (xor_assoc (U * 2 ^ n) T X) in
      same_left k g hk dg a b (append_bits (digits_of p x) (digits_of n t) (digits-bits p x) (digits-bits n t))
      (append_bits (digits_of j B) (digits_of n (bit_xor x t)) (digits-bits j B) (digits-bits n (bit_xor x t)))
      (subst (Multiple g) (sym (ap₂ bit_xor pa pb ∙ mid (X * 2 ^ p) (bit_xor (U * 2 ^ n) T) X)) (round-multiple X))

  -- as the code brings them round
  module _ (x t n : ℕ) (h : n ≤ p) (hx : x < 2 ^ p) (ht : t < 2 ^ n) where
    abbrev y : ℕ
    y = bit_xor x t

    abbrev brought : ℕ
    brought = bit_or (y / 2 ^ n) (y % 2 ^ n * 2 ^ (p - n))

    low-lt : y / 2 ^ n < 2 ^ (p - n)
    low-lt =
        let c : p ≡ p - n + n = omega arith in
        shr_lt (p - n) n (subst (λ (m : ℕ). y < 2 ^ m) c (xor_lt p x t hx (omega (arith, pow_mono h))))

    low-is : y / 2 ^ n ≡ x / 2 ^ n
    low-is = xor_shr x t n ∙ ap (bit_xor (x / 2 ^ n)) (div-eq_of_lt ht) ∙ xor_zero_r (x / 2 ^ n)

    sum_is : brought ≡ y % 2 ^ n * 2 ^ (p - n) + y / 2 ^ n
    sum_is = or_shifted_r (y % 2 ^ n) (p - n) (y / 2 ^ n) low-lt

    pub brought-lt : brought < 2 ^ p
    brought-lt =
        let c : n + (p - n) ≡ p = omega arith in
        subst (λ (m : ℕ). brought < 2 ^ m) c
        (subst (λ (z : ℕ). brought < z) (sym (pow-add 2 n (p - n)))
        (subst (λ (z : ℕ). z < 2 ^ n * 2 ^ (p - n)) (sym sum_is) (digits_lt (mod-lt y (pow_pos n)) low-lt)))

    pub brought-is : register_of k g 0 (digits_of p x ++ digits_of n t) ≡ register_of k g 0 (digits_of p brought)
    brought-is =
        let c : p ≡ p - n + n = omega arith in
        more-round x t n h
        ∙ ap (register_of k g 0)
        (sym (ap (digits_of p) sum_is ∙ digits-join (p - n) n p (y % 2 ^ n) (y / 2 ^ n) c low-lt
        ∙ ap₂ (λ (z : ℕ) (l : List ℕ). digits_of (p - n) z ++ l) low-is (digits-mod-pow n y)))

-- ---- X^6 + X + 1

pub six-degree : Degree 67 6
six-degree = record { reached = lib.Dec.lit≤ tt; within = lib.Dec.lit< tt }

-- the register 1 is 1 again after 63 zeros
pub six-round : register_of 6 67 1 (digits_of 63 0) ≡ 1
unfolding register_of digits_of
six-round = refl

abbrev six-powers : List ℕ
six-powers = 6 ∷ 1 ∷ []

-- turned, without the constant term; its square, its fourth and its eighth power have each shift doubled
abbrev six-turned : List ℕ
six-turned = 5 ∷ 6 ∷ []

six-are : sum six-powers 1 ≡ 67
unfolding shifts
six-are = refl

six-multiple : (t : ℕ) → Multiple 67 (sum six-powers t)
six-multiple t = subst (λ (g : ℕ). Multiple g (sum six-powers t)) six-are (sum-times six-powers t)

-- the register after 64 digits, as the code finds the quotients
module _ (x : ℕ) (hx : x < 2 ^ 64) where
  abbrev eighth : ℕ
  eighth = coded 64 x (40 ∷ 48 ∷ []) x

  abbrev fourth : ℕ
  fourth = coded 64 eighth (20 ∷ 24 ∷ []) eighth

  abbrev square : ℕ
  square = coded 64 fourth (10 ∷ 12 ∷ []) fourth

  abbrev whole : ℕ
  whole = coded 64 square (5 ∷ 6 ∷ []) square

  found : Solves 64 six-turned x whole
  found =
      let two = doubled six-turned in
      let four = doubled two in
      let eight = doubled four in
      solves-root 64 six-turned x square (solves-root 64 two x fourth (solves-root 64 four x eighth (solves-root 64 eight x x (solves-far 64 (doubled eight) x hx refl))))

  pub six-settled-is : turn_of 6 (register_of 6 67 0 (digits_of 64 x)) ≡ bit_xor (whole / 2 ^ 59) (whole / 2 ^ 58)
  six-settled-is =
      let s = found in
      at-the-end 6 67 (lit≤ tt) six-degree 6 whole x (bit_xor (whole / 2 ^ 59) (whole / 2 ^ 58)) six-turned six-powers (lit≤ tt) s.0 hx (small whole s.0)
      (within-le 6 (0 ∷ six-turned) refl) refl six-multiple (solved 64 5 (6 ∷ []) x whole (within-le 64 six-turned refl) s) refl
    where
      small : (v : ℕ) → v < 2 ^ 64 → bit_xor (v / 2 ^ 59) (v / 2 ^ 58) < 2 ^ 6
      small v h = xor_lt 6 (v / 2 ^ 59) (v / 2 ^ 58) (omega arith) (omega arith)
