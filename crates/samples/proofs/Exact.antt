-- y/131,072 as an f32: the cast and the division round nothing, one float has that value, and it tells y. Assumes nothing.
use Prim.Native.Nat.{ℕ, zero, suc, ◌+◌, ◌*◌, ◌%◌, ◌^◌, ◌≤◌}
use native.Mathlib.Omega.{arith}
use native.Mathlib.Nat.{mul_assoc, mul_comm, mul-one, one-mul, zero-mul, suc-mul, mul_left_comm, mul_right_comm, mul-pos, mul-le-mul_right, pow-suc}
use native.Mathlib.Nat.{pow-succ', lt_of_le_of_lt, eq_of_mul-eq-mul_right}
use mathlib.Core.Path.{◌≡◌, refl, sym, ap, ap₂, ◌∙◌, subst}
use mathlib.Core.Bool.{Bool, true, false, not, ◌&&◌}
use lib.Dec.{T, leb, ltb, eqb, eqb→eq, lit<, le→leb, lt→ltb}
use lib.Pow.{pow_pos, pow-add}
use lib.IntN.{ℤ, pos, negsuc, nat_abs}
use lib.Signed.{non_neg}
use lib.Ieee.{Float, nan, inf, fin, binary32, up, down, unlike, round, div, of_int, of_bits, of_fields, odd, in_float, fits}
use lib.Count.{count_trailing_zeros}
use lib.Ieee.Exact.{HasValue, round_exact}
use lib.Ieee.Back.{round_whole}
use lib.Ieee.Scale.{round_same}
use lib.Ieee.Fits.{down_pos, div-fits, and_l}
use Rattle.samples.specs.Samples.{is_signal}
use Rattle.samples.specs.Shaper.{Exactly}
use Rattle.samples.proofs.Linear.{P, N, eq_of}
use Rattle.ranges.proofs.Laws.{range-mag}

-- ---- nothing is rounded

pub signal-abs : (y : ℤ) → is_signal y ≡ true → nat_abs y ≤ 131072
signal-abs (pos n) h = omega (arith, range-mag 131071 (pos n) h)
signal-abs (negsuc n) h = omega (arith, range-mag 131071 (negsuc n) h)

pub cast_ok : (y : ℤ) → nat_abs y ≤ 131072 → T (in_float binary32 y)
unfolding in_float
cast_ok (pos n) h = le→leb n (2 ^ 24) (omega arith)
cast_ok (negsuc n) h = lt→ltb n (2 ^ 24) (omega arith)

cast-value : (y : ℤ) → nat_abs y ≤ 131072 → HasValue (of_int binary32 y) (not (non_neg y)) (nat_abs y) 1
unfolding of_int
cast-value (pos n) h = round_whole binary32 false n (omega arith)
cast-value (negsuc n) h = round_whole binary32 true (suc n) (omega arith)

-- the program's constant 131072.0
divisor : of_bits binary32 1207959552 ≡ fin false 1 (pos 17)
unfolding of_bits of_fields odd count_trailing_zeros
divisor = refl

same_sign : (t : Bool) → unlike t false ≡ t
same_sign true = refl
same_sign false = refl

div_value : (x : Float) (s : Bool) (n : ℕ) → n ≤ 131072 → HasValue x s n 1 → HasValue (div binary32 x (fin false 1 (pos 17))) s n 131072
unfolding div
div_value nan s n h v = absurd v
div_value (inf t) s n h v = absurd v
div_value (fin t m e) s n h v =
    let cross : m * up e * 1 * 131072 ≡ n * (131072 * down e) =
    ap (λ (x : ℕ). x * 131072) v.1 ∙ mul_assoc n (down e) 131072 ∙ ap (λ (x : ℕ). n * x) (mul_comm (down e) 131072) in
    let is : round binary32 (unlike t false) (m * up e * 1) (131072 * down e) ≡ round binary32 s n 131072 =
    ap (λ (b : Bool). round binary32 b (m * up e * 1) (131072 * down e)) (same_sign t ∙ v.0)
    ∙ round_same binary32 s (m * up e * 1) (131072 * down e) n 131072 (mul-pos (lit< tt) (down_pos e)) (lit< tt) cross in
    subst (λ (x : Float). HasValue x s n 131072) (sym is)
    (round_exact binary32 s n 131072 n 132 (lit< tt) (omega arith) (lt_of_le_of_lt (mul-le-mul_right (2 ^ 132) h) (lit< tt))
    (sym (mul_assoc n (2 ^ 132) 131072)))

pub part-value : (y : ℤ) → nat_abs y ≤ 131072 → HasValue (div binary32 (of_int binary32 y) (of_bits binary32 1207959552)) (not (non_neg y)) (nat_abs y) 131072
part-value y h = rw divisor (div_value (of_int binary32 y) (not (non_neg y)) (nat_abs y) h (cast-value y h))

-- what the code computes is exactly y/131,072
pub exact : (y : ℤ) → nat_abs y ≤ 131072 → Exactly (div binary32 (of_int binary32 y) (of_bits binary32 1207959552)) y
exact y h = record { is_32_bit = div-fits binary32 (of_int binary32 y) (of_bits binary32 1207959552); value = part-value y h }

-- and so is 0.0
pub exact-zero : Exactly (of_bits binary32 0) (pos 0)
unfolding of_bits of_fields odd count_trailing_zeros fits
exact-zero = record { is_32_bit = tt; value = (refl, refl) }

-- ---- the float tells y

size-one : (x : Float) (s t : Bool) (a b : ℕ) → HasValue x s a 131072 → HasValue x t b 131072 → (s ≡ t) × (a ≡ b)
size-one nan s t a b v w = absurd v
size-one (inf u) s t a b v w = absurd v
size-one (fin u m e) s t a b v w =
    (sym v.0 ∙ w.0, eq_of_mul-eq-mul_right (down e) (down_pos e) a b (sym v.1 ∙ w.1))

same_number : (y z : ℤ) → not (non_neg y) ≡ not (non_neg z) → nat_abs y ≡ nat_abs z → y ≡ z
same_number (pos m) (pos n) s e = ap pos e
same_number (pos m) (negsuc n) s e = let z : ◌≡◌ {A = ℕ} 0 1 = cc in absurd (omega arith)
same_number (negsuc m) (pos n) s e = let z : ◌≡◌ {A = ℕ} 0 1 = cc in absurd (omega arith)
same_number (negsuc m) (negsuc n) s e = ap negsuc (omega arith)

-- nothing is lost: two different y never give the same float
pub exact-tells : (f : Float) (y z : ℤ) → Exactly f y → Exactly f z → y ≡ z
exact-tells f y z p q =
    let k = size-one f (not (non_neg y)) (not (non_neg z)) (nat_abs y) (nat_abs z) p.value q.value in
    same_number y z k.0 k.1

-- ---- one 32-bit float has that value

up_is : (e : ℤ) → up e ≡ 2 ^ P e
unfolding P
up_is (pos k) = refl
up_is (negsuc k) = refl

down_is : (e : ℤ) → down e ≡ 2 ^ N e
unfolding N
down_is (pos k) = refl
down_is (negsuc k) = refl

even_odd : (m t : ℕ) → m % 2 ≡ 1 → m ≡ 2 * t → ⊥
even_odd m t o h = omega arith

-- an odd number times a power of two is written in one way
odd_pow : (m n a b : ℕ) → m % 2 ≡ 1 → n % 2 ≡ 1 → m * 2 ^ a ≡ n * 2 ^ b → (m ≡ n) × (a ≡ b)
odd_pow m n zero zero o p h = (sym (mul-one m) ∙ h ∙ mul-one n, refl)
odd_pow m n zero (suc b) o p h =
    absurd (even_odd m (n * 2 ^ b) o (sym (mul-one m) ∙ h ∙ ap (λ (x : ℕ). n * x) (pow-succ' 2 b) ∙ mul_left_comm n 2 (2 ^ b)))
odd_pow m n (suc a) zero o p h =
    absurd (even_odd n (m * 2 ^ a) p (sym (mul-one n) ∙ sym h ∙ ap (λ (x : ℕ). m * x) (pow-succ' 2 a) ∙ mul_left_comm m 2 (2 ^ a)))
odd_pow m n (suc a) (suc b) o p h =
    let l : m * 2 ^ suc a ≡ m * 2 ^ a * 2 = ap (λ (x : ℕ). m * x) (pow-suc 2 a) ∙ sym (mul_assoc m (2 ^ a) 2) in
    let r : n * 2 ^ suc b ≡ n * 2 ^ b * 2 = ap (λ (x : ℕ). n * x) (pow-suc 2 b) ∙ sym (mul_assoc n (2 ^ b) 2) in
    let k = odd_pow m n a b o p (omega (arith, l, r)) in
    (k.0, ap suc k.1)

-- a float that fits has an odd significand, or is 0 with the exponent 0
fits-odd : (s : Bool) (m : ℕ) (e : ℤ) → T (fits binary32 (fin s (suc m) e)) → suc m % 2 ≡ 1
unfolding fits
fits-odd s m e t =
    eqb→eq (suc m % 2) 1 (and_l (eqb (suc m % 2) 1) (ltb (suc m) (2 ^ 24)) (and_l (eqb (suc m % 2) 1 && ltb (suc m) (2 ^ 24)) (leb (down e) (2 ^ 149))
    (and_l (eqb (suc m % 2) 1 && ltb (suc m) (2 ^ 24) && leb (down e) (2 ^ 149)) (ltb (suc m * up e) (2 ^ 128 * down e)) t)))

flat : (e : ℤ) → up e * down e ≡ 1 → e ≡ pos 0
flat (pos zero) h = refl
flat (pos (suc k)) h = absurd (omega (arith, mul-one (2 ^ suc k), pow-suc 2 k, pow_pos k))
flat (negsuc k) h = absurd (omega (arith, one-mul (2 ^ suc k), pow-suc 2 k, pow_pos k))

fits-zero : (s : Bool) (e : ℤ) → T (fits binary32 (fin s zero e)) → e ≡ pos 0
unfolding fits
fits-zero s e t = flat e (eqb→eq (up e * down e) 1 t)

-- the two values crosswise
across : (m n a : ℕ) (e g : ℤ) → m * up e * 131072 ≡ a * down e → n * up g * 131072 ≡ a * down g → m * 2 ^ (P e + N g) ≡ n * 2 ^ (P g + N e)
across m n a e g v w =
    let left : m * up e * down g * 131072 ≡ a * down e * down g = mul_right_comm (m * up e) (down g) 131072 ∙ ap (λ (x : ℕ). x * down g) v in
    let right : n * up g * down e * 131072 ≡ a * down e * down g = mul_right_comm (n * up g) (down e) 131072 ∙ ap (λ (x : ℕ). x * down e) w
    ∙ mul_right_comm a (down g) (down e) in
    let both : m * up e * down g ≡ n * up g * down e = eq_of_mul-eq-mul_right 131072 (lit< tt) (m * up e * down g) (n * up g * down e) (left ∙ sym right) in
    joined m e g ∙ both ∙ sym (joined n g e)
  where
    joined : (m : ℕ) (e g : ℤ) → m * 2 ^ (P e + N g) ≡ m * up e * down g
    joined m e g =
        ap (λ (x : ℕ). m * x) (pow-add 2 (P e) (N g)) ∙ sym (mul_assoc m (2 ^ P e) (2 ^ N g))
        ∙ ap₂ (λ (x y : ℕ). m * x * y) (sym (up_is e)) (sym (down_is g))

not-zero : (n j k : ℕ) → zero * 2 ^ j ≡ suc n * 2 ^ k → ⊥
not-zero n j k h = omega (arith, zero-mul (2 ^ j), suc-mul n (2 ^ k), pow_pos k)

value-unique : (f g : Float) (s : Bool) (a : ℕ) → T (fits binary32 f) → T (fits binary32 g) → HasValue f s a 131072 → HasValue g s a 131072 → f ≡ g
value-unique nan g s a p q v w = absurd v
value-unique (inf t) g s a p q v w = absurd v
value-unique (fin t m e) nan s a p q v w = absurd w
value-unique (fin t m e) (inf u) s a p q v w = absurd w
value-unique (fin t zero e) (fin u zero g) s a p q v w = λ i. fin ((v.0 ∙ sym w.0) i) zero ((fits-zero t e p ∙ sym (fits-zero u g q)) i)
value-unique (fin t zero e) (fin u (suc n) g) s a p q v w = absurd (not-zero n (P e + N g) (P g + N e) (across zero (suc n) a e g v.1 w.1))
value-unique (fin t (suc m) e) (fin u zero g) s a p q v w = absurd (not-zero m (P g + N e) (P e + N g) (across zero (suc m) a g e w.1 v.1))
value-unique (fin t (suc m) e) (fin u (suc n) g) s a p q v w =
    let k = odd_pow (suc m) (suc n) (P e + N g) (P g + N e) (fits-odd t m e p) (fits-odd u n g q) (across (suc m) (suc n) a e g v.1 w.1) in
    λ i. fin ((v.0 ∙ sym w.0) i) (k.0 i) (eq_of e g k.1 i)

pub exact-unique : (f g : Float) (y : ℤ) → Exactly f y → Exactly g y → f ≡ g
exact-unique f g y p q = value-unique f g (not (non_neg y)) (nat_abs y) p.is_32_bit q.is_32_bit p.value q.value
