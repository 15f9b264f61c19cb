-- The integers for omega: `P z` and `N z` are the parts of z above and below zero, z = P z - N z, and each law turns a fact of ℤ into a linear one of ℕ.
use Prim.Native.Nat.{ℕ, zero, suc, ◌+◌, ◌-◌, ◌*◌, ◌/◌, ◌≤◌, ◌<◌}
use native.Mathlib.Omega.{arith}
use native.Mathlib.Nat as NatL
use mathlib.Core.Path.{◌≡◌, refl, sym, ap, ◌∙◌, subst}
use mathlib.Core.Bool.{Bool, true, false, not, cond}
use lib.Dec.{T, ltb, ltb→lt, nltb→le, leb→le, le→leb, lt→ltb}
use lib.IntN.{ℤ, pos, negsuc, neg_ℤ, nat_abs, sub_ℕ, ◌+ℤ◌, ◌-ℤ◌, ◌*ℤ◌}
use Rattle.std.specs.Int.{int_div_euclid, int_rem_euclid}
use lib.Signed.{mag, shr_z, le_z, lt_z, lt_z_yes, lt_z_no, le_z_yes, ◌≤ℤ◌, ◌<ℤ◌}
use borrow.Author.Tests.{leb-false}

unfoldable pub P : ℤ → ℕ
P (pos n) = n
P (negsuc n) = 0

unfoldable pub N : ℤ → ℕ
N (pos n) = 0
N (negsuc n) = suc n

pub P_pos : (n : ℕ) → P (pos n) ≡ n
unfolding P
P_pos n = refl

pub N-pos : (n : ℕ) → N (pos n) ≡ 0
unfolding N
N-pos n = refl

pub P-negsuc : (n : ℕ) → P (negsuc n) ≡ 0
unfolding P
P-negsuc n = refl

pub N-negsuc : (n : ℕ) → N (negsuc n) ≡ suc n
unfolding N
N-negsuc n = refl

-- ---- orders and equations, both ways
pub le-to : {a b : ℤ} → a ≤ℤ b → P a + N b ≤ P b + N a
unfolding P N
le-to {a = pos a} {b = pos b} h = omega (arith, leb→le a b h.le)
le-to {a = pos a} {b = negsuc b} h = absurd h.le
le-to {a = negsuc a} {b = pos b} h = omega arith
le-to {a = negsuc a} {b = negsuc b} h = omega (arith, leb→le b a h.le)

pub lt-to : {a b : ℤ} → a <ℤ b → P a + N b < P b + N a
unfolding P N
lt-to {a = pos a} {b = pos b} h = omega (arith, ltb→lt a b h.lt)
lt-to {a = pos a} {b = negsuc b} h = absurd h.lt
lt-to {a = negsuc a} {b = pos b} h = omega arith
lt-to {a = negsuc a} {b = negsuc b} h = omega (arith, ltb→lt b a h.lt)

pub le_of : (a b : ℤ) → P a + N b ≤ P b + N a → a ≤ℤ b
unfolding P N
le_of (pos a) (pos b) h = record { le = le→leb a b (omega arith) }
le_of (pos a) (negsuc b) h = absurd (omega arith)
le_of (negsuc a) (pos b) h = record { le = tt }
le_of (negsuc a) (negsuc b) h = record { le = le→leb b a (omega arith) }

pub lt_of : (a b : ℤ) → P a + N b < P b + N a → a <ℤ b
unfolding P N
lt_of (pos a) (pos b) h = record { lt = lt→ltb a b (omega arith) }
lt_of (pos a) (negsuc b) h = absurd (omega arith)
lt_of (negsuc a) (pos b) h = record { lt = tt }
lt_of (negsuc a) (negsuc b) h = record { lt = lt→ltb b a (omega arith) }

pub eq_of : (a b : ℤ) → P a + N b ≡ P b + N a → a ≡ b
unfolding P N
eq_of (pos a) (pos b) h = ap pos (omega arith)
eq_of (pos a) (negsuc b) h = absurd (omega arith)
eq_of (negsuc a) (pos b) h = absurd (omega arith)
eq_of (negsuc a) (negsuc b) h = ap negsuc (omega arith)

-- ---- operations
pub neg-P : (a : ℤ) → P (neg_ℤ a) ≡ N a
unfolding P N
neg-P (pos zero) = refl
neg-P (pos (suc n)) = refl
neg-P (negsuc n) = refl

pub neg-N : (a : ℤ) → N (neg_ℤ a) ≡ P a
unfolding P N
neg-N (pos zero) = refl
neg-N (pos (suc n)) = refl
neg-N (negsuc n) = refl

by_cond : (c : Bool) (x y : ℤ) (Q : ℤ → Type 0) → (T c → Q x) → (T (not c) → Q y) → Q (cond c x y)
by_cond true x y Q f g = f tt
by_cond false x y Q f g = g tt

sub-bal : (a b : ℕ) → P (sub_ℕ a b) + b ≡ a + N (sub_ℕ a b)
unfolding P N
sub-bal a b =
    by_cond (ltb a b) (negsuc (b - suc a)) (pos (a - b)) (λ z. P z + b ≡ a + N z)
    (λ t. omega (arith, ltb→lt a b t)) (λ t. omega (arith, nltb→le a b t))

pub add-bal : (a b : ℤ) → P (a +ℤ b) + (N a + N b) ≡ (P a + P b) + N (a +ℤ b)
unfolding P N
add-bal (pos a) (pos b) = omega arith
add-bal (pos a) (negsuc b) = omega (arith, sub-bal a (suc b))
add-bal (negsuc a) (pos b) = omega (arith, sub-bal b (suc a))
add-bal (negsuc a) (negsuc b) = omega arith

pub sub_is : (a b : ℤ) → P (a -ℤ b) + (N a + P b) ≡ (P a + N b) + N (a -ℤ b)
sub_is a b = omega (arith, add-bal a (neg_ℤ b), neg-P b, neg-N b)

-- times a number that is not negative
neg-pos-P : (n : ℕ) → P (neg_ℤ (pos n)) ≡ 0
unfolding P
neg-pos-P zero = refl
neg-pos-P (suc n) = refl

neg-pos-N : (n : ℕ) → N (neg_ℤ (pos n)) ≡ n
unfolding N
neg-pos-N zero = refl
neg-pos-N (suc n) = refl

pub mul-P : (k : ℕ) (a : ℤ) → P (pos k *ℤ a) ≡ k * P a
unfolding P
mul-P k (pos a) = refl
mul-P k (negsuc a) = neg-pos-P (k * suc a) ∙ sym (NatL.mul-zero k)

pub mul-N : (k : ℕ) (a : ℤ) → N (pos k *ℤ a) ≡ k * N a
unfolding N
mul-N k (pos a) = sym (NatL.mul-zero k)
mul-N k (negsuc a) = neg-pos-N (k * suc a)

-- ---- sizes
pub abs_is : (z : ℤ) → nat_abs z ≡ P z + N z
unfolding P N
abs_is (pos n) = omega arith
abs_is (negsuc n) = omega arith

pub abs-of : (z : ℤ) (b : ℕ) → P z ≤ N z + b → N z ≤ P z + b → nat_abs z ≤ b
unfolding P N
abs-of (pos n) b h k = omega arith
abs-of (negsuc n) b h k = omega arith

pub P-mag : (z : ℤ) → P z ≤ mag z
unfolding P
P-mag (pos n) = omega arith
P-mag (negsuc n) = omega arith

pub N-mag : (z : ℤ) → N z ≤ suc (mag z)
unfolding N
N-mag (pos n) = omega arith
N-mag (negsuc n) = omega arith

pub mag_of : (z : ℤ) (b : ℕ) → P z < N z + b → N z ≤ P z + b → mag z < b
unfolding P N
mag_of (pos n) b h k = omega arith
mag_of (negsuc n) b h k = omega arith

-- ---- division as the code has it: the quotient rounded down, and what is left over, from 0 to below the divisor
pub division : (n : ℕ) → 0 < n → (z : ℤ)
    → (P (int_div_euclid z (pos n)) * n + P (int_rem_euclid z (pos n)) + N z ≡ P z + N (int_div_euclid z (pos n)) * n)
    × (N (int_rem_euclid z (pos n)) ≡ 0) × (P (int_rem_euclid z (pos n)) < n)
unfolding P N
division n h (pos a) = (omega (arith, NatL.div-add-mod' a n, NatL.zero-mul n), refl, NatL.mod-lt a h)
division n h (negsuc a) = (
  omega (arith, NatL.div-add-mod' a n, NatL.mod-lt a h, NatL.zero-mul n, NatL.suc-mul (a / n) n),
  refl,
  omega (arith, NatL.mod-lt a h),
)

-- ---- rounding down
pub floor : (n : ℕ) → 0 < n → (z : ℤ) → (P (shr_z z n) * n + N z ≤ P z + N (shr_z z n) * n) × (P z + N (shr_z z n) * n < P (shr_z z n) * n + N z + n)
unfolding P N
floor n h (pos a) = (omega (arith, NatL.div-add-mod' a n, NatL.zero-mul n), omega (arith, NatL.div-add-mod' a n, NatL.mod-lt a h, NatL.zero-mul n))
floor n h (negsuc a) = (
  omega (arith, NatL.div-add-mod' a n, NatL.mod-lt a h, NatL.zero-mul n, NatL.suc-mul (a / n) n),
  omega (arith, NatL.div-add-mod' a n, NatL.zero-mul n, NatL.suc-mul (a / n) n),
)

-- ---- a test in the code, `a < b` at signed integers, whose outcome is an equation of the flag
pub lt-true : (a b : ℤ) → lt_z a b ≡ true → P a + N b < P b + N a
lt-true a b e = lt-to (lt_z_yes (subst T (sym e) tt))

pub lt-false : (a b : ℤ) → lt_z a b ≡ false → P b + N a ≤ P a + N b
lt-false a b e = le-to (lt_z_no (subst (λ (t : Bool). T (not t)) (sym e) tt))

pub le-true : (a b : ℤ) → le_z a b ≡ true → P a + N b ≤ P b + N a
le-true a b e = le-to (le_z_yes (subst T (sym e) tt))

pub le-false : (a b : ℤ) → le_z a b ≡ false → P b + N a < P a + N b
unfolding P N
le-false (pos a) (pos b) e = omega (arith, leb-false a b e)
le-false (pos a) (negsuc b) e = omega arith
le-false (negsuc a) (pos b) e = let z : ◌≡◌ {A = Bool} true false = e in absurd (subst T z tt)
le-false (negsuc a) (negsuc b) e = omega (arith, leb-false b a e)
