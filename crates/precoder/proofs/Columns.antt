-- Laws of narrow products: a number in two halves, the four products of two such numbers, sums of these, and a shift. Assumes nothing.
use mathlib.Core.Path.{◌≡◌, refl, sym, ap, ap₂, ◌∙◌}
use mathlib.Core.Bool.{true, false≢true}
use Prim.Native.Nat.{ℕ, zero, suc, ◌+◌, ◌-◌, ◌*◌, ◌/◌, ◌%◌, ◌^◌, ◌≤◌, ◌<◌}
use native.Mathlib.Nat.{mul_comm, mul-zero, zero-mul, mul-le-mul, lt_of_mul-lt-mul_left, mod-lt, mod-eq_of_lt, add-mul-mod_self_left, div-add-mod, div-lt_iff_lt-mul}
use native.Mathlib.Omega.{arith}
use lib.IntN.{ℤ, pos, negsuc, neg_ℤ, nat_abs, ◌+ℤ◌, ◌-ℤ◌, ◌*ℤ◌, neg_ℤ-neg_ℤ, *ℤ_comm, +ℤ_comm, +ℤ_assoc}
use lib.Dec.{T, leb}
use lib.Signed.{mag, non_neg, pos-nat_abs}
use mir.Syntax.{Width, w16, w32, w64}
use mir.Val.{Fits, SFits, hbits, to_z, of_z}
use mir.Facts.{to_z-of_z, to_z_pos, to_z-neg, Fits-of_lt, sfits_widen}
use borrow.Author.Tests.{le-leb, leb-true, le-ltb}
use Rattle.ranges.specs.Ranges.{between}
use Rattle.ranges.proofs.Laws.{both, mag-range, range-mag}
use Rattle.samples.proofs.Linear.{P, N, P_pos, N-pos, P-negsuc, N-negsuc, eq_of, add-bal, sub_is, neg-P, neg-N, mul-P, mul-N, abs_is, mag_of, P-mag, N-mag}
use Rattle.samples.proofs.Rounding.{abs-fits}
use Rattle.precoder.proofs.Products.{mul-abs, add-abs, abs_mag}

-- ---- products over sums

mul-bal : (a b : ℤ) → P (a *ℤ b) + (P a * N b + N a * P b) ≡ (P a * P b + N a * N b) + N (a *ℤ b)
unfolding P N
mul-bal (pos a) (pos b) = omega (arith, mul-zero a, zero-mul b)
mul-bal (pos a) (negsuc b) = omega (arith, mul-zero a, zero-mul (suc b), neg-P (pos (a * suc b)), neg-N (pos (a * suc b)))
mul-bal (negsuc a) (pos b) = omega (arith, mul-zero (suc a), zero-mul b, neg-P (pos (suc a * b)), neg-N (pos (suc a * b)))
mul-bal (negsuc a) (negsuc b) = omega (arith, mul-zero (suc a), zero-mul (suc b))

add-mul-bal : (a b : ℤ) (k : ℕ) → P (a +ℤ b) * k + (N a * k + N b * k) ≡ (P a * k + P b * k) + N (a +ℤ b) * k
add-mul-bal a b k = omega (arith, ap (λ (x : ℕ). x * k) (add-bal a b))

-- (a + b) z = a z + b z
add_times : (a b z : ℤ) → (a +ℤ b) *ℤ z ≡ a *ℤ z +ℤ b *ℤ z
add_times a b z =
    eq_of _ _
    (omega (arith, mul-bal (a +ℤ b) z, mul-bal a z, mul-bal b z, add-bal (a *ℤ z) (b *ℤ z), add-mul-bal a b (P z), add-mul-bal a b (N z)))

-- z (a + b) = z a + z b
times-add : (z a b : ℤ) → z *ℤ (a +ℤ b) ≡ z *ℤ a +ℤ z *ℤ b
times-add z a b = *ℤ_comm z (a +ℤ b) ∙ add_times a b z ∙ ap₂ (λ (x y : ℤ). x +ℤ y) (*ℤ_comm a z) (*ℤ_comm b z)

-- (n a) z = n (a z)
scale : (n : ℕ) (a z : ℤ) → (pos n *ℤ a) *ℤ z ≡ pos n *ℤ (a *ℤ z)
scale n a z =
    eq_of _ _
    (omega (
      arith,
      mul-bal (pos n *ℤ a) z,
      mul-P n (a *ℤ z),
      mul-N n (a *ℤ z),
      ap (λ (x : ℕ). x * P z) (mul-P n a),
      ap (λ (x : ℕ). x * N z) (mul-P n a),
      ap (λ (x : ℕ). x * P z) (mul-N n a),
      ap (λ (x : ℕ). x * N z) (mul-N n a),
      ap (λ (x : ℕ). n * x) (mul-bal a z),
    ))

-- (n h + l) z = n (h z) + l z
times : (n : ℕ) (h l z : ℤ) → (pos n *ℤ h +ℤ l) *ℤ z ≡ pos n *ℤ (h *ℤ z) +ℤ l *ℤ z
times n h l z = add_times (pos n *ℤ h) l z ∙ ap (λ (x : ℤ). x +ℤ l *ℤ z) (scale n h z)

-- the same from the other side: h (m j + k) = m (h j) + h k
times-back : (m : ℕ) (h j k : ℤ) → h *ℤ (pos m *ℤ j +ℤ k) ≡ pos m *ℤ (h *ℤ j) +ℤ h *ℤ k
times-back m h j k =
    *ℤ_comm h (pos m *ℤ j +ℤ k) ∙ times m j k h ∙ ap₂ (λ (x y : ℤ). pos m *ℤ x +ℤ y) (*ℤ_comm j h) (*ℤ_comm k h)

-- two numbers in halves, of any two widths: their product is the four products of the halves, put together
pub four : (n m : ℕ) (h l j k : ℤ) → (pos n *ℤ h +ℤ l) *ℤ (pos m *ℤ j +ℤ k)
    ≡ pos (n * m) *ℤ (h *ℤ j) +ℤ pos n *ℤ (h *ℤ k) +ℤ pos m *ℤ (l *ℤ j) +ℤ l *ℤ k
four n m h l j k =
    times n h l (pos m *ℤ j +ℤ k)
    ∙ ap₂ (λ (x y : ℤ). pos n *ℤ x +ℤ y) (times-back m h j k) (times-back m l j k)
    ∙ ap (λ (x : ℤ). x +ℤ (pos m *ℤ (l *ℤ j) +ℤ l *ℤ k)) (times-add (pos n) (pos m *ℤ (h *ℤ j)) (h *ℤ k))
    ∙ ap (λ (x : ℤ). x +ℤ pos n *ℤ (h *ℤ k) +ℤ (pos m *ℤ (l *ℤ j) +ℤ l *ℤ k)) (sym (scale n (pos m) (h *ℤ j)))
    ∙ sym (+ℤ_assoc (pos (n * m) *ℤ (h *ℤ j) +ℤ pos n *ℤ (h *ℤ k)) (pos m *ℤ (l *ℤ j)) (l *ℤ k))

-- ---- a number in two halves

-- a number that is small enough fits; samples has the law for 64 bits
size_fits : (w : Width) (z : ℤ) → nat_abs z < 2 ^ hbits w → SFits w z
size_fits w z h = record { sfits = mag_of z (2 ^ hbits w) (omega (arith, abs_is z)) (omega (arith, abs_is z)) }

from_zero : (h n : ℕ) → n ≤ h → between (pos 0) (pos h) (pos n) ≡ true
from_zero h n l = rw (le-leb 0 n (omega arith)) (le-leb n h l)

-- a number whose part above zero is no smaller than the one below has no sign
unsigned : (z : ℤ) → N z ≤ P z → T (non_neg z)
unfolding P N
unsigned (pos n) h = tt
unsigned (negsuc n) h = absurd (omega arith)

-- from -m to m - 1
pub within : (m : ℕ) (z : ℤ) → 0 < m → between (neg_ℤ (pos m)) (pos (m - 1)) z ≡ true → mag z < m
within zero z h e = absurd (omega arith)
within (suc j) z h e =
    let i : suc j - 1 ≡ j = omega arith in
    let f : mag z ≤ j = range-mag j z (ap (λ (n : ℕ). between (negsuc j) (pos n) z) (sym i) ∙ e) in
    omega arith

ends : (k : ℕ) → 0 < k → (neg_ℤ (pos k) ≡ negsuc (k - 1)) × (pos k -ℤ pos 1 ≡ pos (k - 1))
ends zero h = absurd (omega arith)
ends (suc j) h = let i : suc j - 1 ≡ j = omega arith in (ap negsuc (sym i), rw (le-ltb (suc j) 1 (omega arith)) refl)

-- the ends of such a range, written with the raise
pub to_raise : (k : ℕ) → 0 < k → (v : ℤ) → between (negsuc (k - 1)) (pos (k - 1)) v ≡ true → between (neg_ℤ (pos k)) (pos k -ℤ pos 1) v ≡ true
to_raise k h v e = let d = ends k h in ap₂ (λ (a b : ℤ). between a b v) d.0 d.1 ∙ e

-- z lies from -(n k) to n k - 1. Raised by n k it has no sign; its quotient by n, less k, is its high half, and the rest its low one
module _ (n k : ℕ) (sizes : (0 < n) × (n ≤ 2 ^ 14) × (k ≤ 2 ^ 14)) (z : ℤ) (range : mag z < n * k) where
  abbrev raised : ℤ
  raised = z +ℤ pos (n * k)

  abbrev r : ℕ
  r = nat_abs raised

  abbrev high : ℤ
  high = pos (r / n) -ℤ pos k

  raised-unsigned : T (non_neg raised)
  raised-unsigned = unsigned raised (omega (arith, add-bal z (pos (n * k)), P_pos (n * k), N-pos (n * k), N-mag z))

  raised-bal : r + N z ≡ P z + n * k
  raised-bal =
      omega (
        arith,
        add-bal z (pos (n * k)),
        P_pos (n * k),
        N-pos (n * k),
        ap P (pos-nat_abs raised raised-unsigned),
        ap N (pos-nat_abs raised raised-unsigned),
        P_pos r,
        N-pos r,
      )

  high-bal : P high + k ≡ r / n + N high
  high-bal = omega (arith, sub_is (pos (r / n)) (pos k), P_pos (r / n), N-pos (r / n), P_pos k, N-pos k)

  -- raised, a number is below twice the raise
  raised-less : r < 2 * k * n
  raised-less = omega (arith, raised-bal, P-mag z, mul_comm n k)

  -- the quotient is below 2 k
  quotient : r / n < 2 * k
  quotient = (div-lt_iff_lt-mul sizes.0).1 raised-less

  pub high-mag : mag high < k
  high-mag = mag_of high k (omega (arith, high-bal, quotient)) (omega (arith, high-bal))

  pub low-less : r % n < n
  low-less = mod-lt r sizes.0

  pub halves : pos n *ℤ high +ℤ pos (r % n) ≡ z
  halves =
      eq_of _ _
      (omega (
        arith,
        add-bal (pos n *ℤ high) (pos (r % n)),
        mul-P n high,
        mul-N n high,
        ap (λ (x : ℕ). n * x) high-bal,
        div-add-mod r n,
        raised-bal,
        P_pos (r % n),
        N-pos (r % n),
      ))

  -- what the code asks on its way, and what it finds: `taken` and `bare` are z raised, as the code has it
  module _ (fits : SFits w32 z) where
    abbrev back : to_z w32 (of_z w32 z) ≡ z
    back = to_z-of_z fits

    wide : n * k ≤ 2 ^ 14 * 2 ^ 14
    wide = mul-le-mul sizes.1 sizes.2

    raised-fits : SFits w32 raised
    raised-fits =
        record {
          sfits =
              mag_of raised 2147483648
              (omega (arith, add-bal z (pos (n * k)), P_pos (n * k), N-pos (n * k), P-mag z, wide))
              (omega (arith, add-bal z (pos (n * k)), P_pos (n * k), N-pos (n * k), N-mag z, wide));
        }

    abbrev taken : ℤ
    taken = to_z w32 (of_z w32 (to_z w32 (of_z w32 z) -ℤ neg_ℤ (pos (n * k))))

    taken_is : taken ≡ raised
    taken_is = rw (back, neg_ℤ-neg_ℤ (pos (n * k))) (to_z-of_z raised-fits)

    abbrev bare : ℕ
    bare = nat_abs taken

    pub bare-less : bare < 2 * k * n
    bare-less = rw taken_is raised-less

    pub unsign-asks : T (non_neg taken) × Fits w32 bare
    unsign-asks = (rw taken_is raised-unsigned, Fits-of_lt (omega (arith, bare-less, wide, mul_comm n k)))

    quotient_is : to_z w16 (bare / n) ≡ pos (r / n)
    quotient_is = rw taken_is (to_z_pos w16 (omega (arith, quotient, sizes.2)))

    rest-is : to_z w16 (bare % n) ≡ pos (r % n)
    rest-is = rw taken_is (to_z_pos w16 (omega (arith, low-less, sizes.1)))

    high_fits : SFits w16 high
    high_fits = record { sfits = omega (arith, high-mag, sizes.2) }

    high_is : to_z w16 (of_z w16 (to_z w16 (bare / n) -ℤ pos k)) ≡ high
    high_is = rw quotient_is (to_z-of_z high_fits)

    -- the quotient fits, and so does it less the raise
    pub quotient-fits : SFits w16 (pos (bare / n))
    quotient-fits = rw taken_is (record { sfits = omega (arith, quotient, sizes.2) })

    pub lower-asks : SFits w16 (to_z w16 (bare / n) -ℤ pos k)
    lower-asks = rw quotient_is high_fits

    pub found : (pos n *ℤ to_z w16 (of_z w16 (to_z w16 (bare / n) -ℤ pos k)) +ℤ to_z w16 (bare % n) ≡ z)
        × (between (negsuc (k - 1)) (pos (k - 1)) (to_z w16 (of_z w16 (to_z w16 (bare / n) -ℤ pos k))) ≡ true)
        × (between (pos 0) (pos (n - 1)) (to_z w16 (bare % n)) ≡ true)
    found =
        rw (high_is, rest-is) (halves, mag-range (k - 1) high (omega (arith, high-mag)), from_zero (n - 1) (r % n) (omega (arith, low-less)))

-- a number has one high and one low part: where two pairs put together are the same number, they are the same pair
pub halves-one : (n : ℕ) (h j : ℤ) (l k : ℕ) → l < n → k < n → pos n *ℤ h +ℤ pos l ≡ pos n *ℤ j +ℤ pos k → (h ≡ j) × (l ≡ k)
halves-one n h j l k f g e =
    let bal : n * (P h + N j) + l ≡ n * (P j + N h) + k =
    omega (
      arith,
      add-bal (pos n *ℤ h) (pos l),
      add-bal (pos n *ℤ j) (pos k),
      ap P e,
      ap N e,
      mul-P n h,
      mul-N n h,
      mul-P n j,
      mul-N n j,
      P_pos l,
      N-pos l,
      P_pos k,
      N-pos k,
    )
    in
    let below : n * (P h + N j) < n * suc (P j + N h) = omega arith in
    let above : n * (P j + N h) < n * suc (P h + N j) = omega arith in
    let same : P h + N j ≡ P j + N h = omega (arith, lt_of_mul-lt-mul_left n below, lt_of_mul-lt-mul_left n above) in
    (eq_of h j same, omega (arith, ap (λ (x : ℕ). n * x) same))

-- ---- the halves of a coefficient and of an output, and their products

-- from -(h + 1) to h, and from 0 to h
signed-abs : (h : ℕ) (z : ℤ) → between (negsuc h) (pos h) z ≡ true → nat_abs z ≤ suc h
signed-abs h z e = omega (arith, abs_mag z, range-mag h z e)

unsigned_abs : (h : ℕ) (z : ℤ) → between (pos 0) (pos h) z ≡ true → nat_abs z ≤ h
unsigned_abs h (pos n) e = leb-true n h (both (leb 0 n) (leb n h) e).1
unsigned_abs h (negsuc n) e = absurd (false≢true e)

module _ (h l j k : ℤ) (hr : between (negsuc 1023) (pos 1023) h ≡ true) (lr : between (pos 0) (pos 2047) l ≡ true)
    (jr : between (negsuc 255) (pos 255) j ≡ true) (kr : between (pos 0) (pos 511) k ≡ true) where
  small : (nat_abs h ≤ 2047) × (nat_abs l ≤ 2047) × (nat_abs j ≤ 511) × (nat_abs k ≤ 511)
  small = (omega (arith, signed-abs 1023 h hr), unsigned_abs 2047 l lr, omega (arith, signed-abs 255 j jr), unsigned_abs 511 k kr)

  half_back : (z : ℤ) → nat_abs z ≤ 2047 → to_z w16 (of_z w16 z) ≡ z
  half_back z f = to_z-of_z (size_fits w16 z (omega arith))

  -- each is read back from its 16 bits
  pub backs : (to_z w16 (of_z w16 h) ≡ h) × (to_z w16 (of_z w16 l) ≡ l) × (to_z w16 (of_z w16 j) ≡ j) × (to_z w16 (of_z w16 k) ≡ k)
  backs = (half_back h small.0, half_back l small.1, half_back j (omega (arith, small.2)), half_back k (omega (arith, small.3)))

  size : (a b : ℤ) → nat_abs a ≤ 2047 → nat_abs b ≤ 511 → nat_abs (a *ℤ b) ≤ 2047 * 511
  size a b f g = rw (mul-abs a b) (mul-le-mul f g)

  -- no product of two of them is larger than that of the low ones at their most
  pub sizes : (nat_abs (h *ℤ j) ≤ 2047 * 511) × (nat_abs (h *ℤ k) ≤ 2047 * 511) × (nat_abs (l *ℤ j) ≤ 2047 * 511) × (nat_abs (l *ℤ k) ≤ 2047 * 511)
  sizes = (size h j small.0 small.2, size h k small.0 small.3, size l j small.1 small.2, size l k small.1 small.3)

-- ---- four sums of products

left_comm : (a b c : ℤ) → a +ℤ (b +ℤ c) ≡ b +ℤ (a +ℤ c)
left_comm a b c = sym (+ℤ_assoc a b c) ∙ ap (λ (x : ℤ). x +ℤ c) (+ℤ_comm a b) ∙ +ℤ_assoc b a c

regroup : (a p b q c r d s : ℤ) → (a +ℤ p) +ℤ (b +ℤ q) +ℤ (c +ℤ r) +ℤ (d +ℤ s) ≡ (a +ℤ b +ℤ c +ℤ d) +ℤ (p +ℤ q +ℤ r +ℤ s)
regroup a p b q c r d s = simp (+ℤ_assoc, left_comm) refl

-- four sums and four products more, put together with any weights: the sum of both put together
pub columns : (u v w : ℕ) (a b c d p q r s : ℤ) → pos u *ℤ (a +ℤ p) +ℤ pos v *ℤ (b +ℤ q) +ℤ pos w *ℤ (c +ℤ r) +ℤ (d +ℤ s)
    ≡ (pos u *ℤ a +ℤ pos v *ℤ b +ℤ pos w *ℤ c +ℤ d) +ℤ (pos u *ℤ p +ℤ pos v *ℤ q +ℤ pos w *ℤ r +ℤ s)
columns u v w a b c d p q r s =
    rw (times-add (pos u) a p, times-add (pos v) b q, times-add (pos w) c r)
    (regroup (pos u *ℤ a) (pos u *ℤ p) (pos v *ℤ b) (pos v *ℤ q) (pos w *ℤ c) (pos w *ℤ r) d s)

-- a sum of up to 180 products, at most 188,283,060 in size, fits 32 bits with its sign
pub column_fits : (n : ℕ) (s : ℤ) → n ≤ 180 → nat_abs s ≤ 2047 * 511 * n → SFits w32 s
column_fits n s h f = size_fits w32 s (omega arith)

-- a sum of n products, and one product more
pub column-more : (n : ℕ) (s p : ℤ) → nat_abs s ≤ 2047 * 511 * n → nat_abs p ≤ 2047 * 511 → nat_abs (s +ℤ p) ≤ 2047 * 511 * (n + 1)
column-more n s p f g = omega (arith, add-abs s p)

-- the same as the code has it, one of up to 180
module _ (n : ℕ) (less : n < 180) (s p : ℤ) (so_far : nat_abs s ≤ 2047 * 511 * n) (part : nat_abs p ≤ 2047 * 511) where
  part-is : to_z w32 (of_z w32 p) ≡ p
  part-is = to_z-of_z (column_fits 1 p (omega arith) (omega arith))

  more-fits : SFits w32 (s +ℤ p)
  more-fits = column_fits (n + 1) (s +ℤ p) (omega arith) (column-more n s p so_far part)

  pub column-asks : SFits w32 (s +ℤ to_z w32 (of_z w32 p))
  column-asks = rw part-is more-fits

  pub column-is : to_z w32 (of_z w32 (s +ℤ to_z w32 (of_z w32 p))) ≡ s +ℤ p
  column-is = rw part-is (to_z-of_z more-fits)

-- any products of parts, one for each tap, added up
unfoldable pub column : (ℕ → ℤ) → ℕ → ℤ
column parts zero = pos 0
column parts (suc k) = column parts k +ℤ parts k

column-abs : (parts : ℕ → ℤ) → ((k : ℕ) → nat_abs (parts k) ≤ 2047 * 511) → (n : ℕ) → nat_abs (column parts n) ≤ 2047 * 511 * n
unfolding column
column-abs parts small zero = omega arith
column-abs parts small (suc k) = omega (arith, column-more k (column parts k) (parts k) (column-abs parts small k) (small k))

-- every column fits 32 bits with its sign after any number of taps up to 180
pub columns-fit : (parts : ℕ → ℤ) → ((k : ℕ) → nat_abs (parts k) ≤ 2047 * 511) → (n : ℕ) → n ≤ 180 → SFits w32 (column parts n)
columns-fit parts small n h = column_fits n (column parts n) h (column-abs parts small n)

-- the product of two numbers of 16 bits fits 32
pub product-fits : (a b : ℤ) → SFits w16 a → SFits w16 b → SFits w32 (a *ℤ b)
product-fits a b f g =
    let p : nat_abs a ≤ 32768 = omega (arith, abs_mag a, f.sfits) in
    let q : nat_abs b ≤ 32768 = omega (arith, abs_mag b, g.sfits) in
    let bound : nat_abs a * nat_abs b ≤ 32768 * 32768 = mul-le-mul p q in
    size_fits w32 (a *ℤ b) (omega (arith, mul-abs a b, bound))

-- what the code multiplies: numbers of 16 bits, each widened to 32
pub widened : (a : ℤ) → SFits w16 a → SFits w32 (to_z w16 (of_z w16 a))
widened a f = rw (to_z-of_z f) (sfits_widen tt f)

module _ (a b : ℤ) (f : SFits w16 a) (g : SFits w16 b) where
  abbrev taken-product : ℤ
  taken-product = to_z w32 (of_z w32 (to_z w16 (of_z w16 a))) *ℤ to_z w32 (of_z w32 (to_z w16 (of_z w16 b)))

  taken-product-is : taken-product ≡ a *ℤ b
  taken-product-is =
      rw (to_z-of_z f, to_z-of_z g, to_z-of_z {w = w32} {z = a} (sfits_widen tt f), to_z-of_z {w = w32} {z = b} (sfits_widen tt g)) refl

  pub product-asks : SFits w32 taken-product
  product-asks = rw taken-product-is (product-fits a b f g)

  pub product_is : to_z w32 (of_z w32 taken-product) ≡ a *ℤ b
  product_is = rw taken-product-is (to_z-of_z (product-fits a b f g))

-- sums of two, three and four numbers of up to 52 bits fit 64
pub two-fit : (a b : ℤ) → nat_abs a ≤ 2 ^ 51 → nat_abs b ≤ 2 ^ 51 → SFits w64 (a +ℤ b)
two-fit a b f g = abs-fits (a +ℤ b) (omega (arith, add-abs a b))

pub three-fit : (a b c : ℤ) → nat_abs a ≤ 2 ^ 51 → nat_abs b ≤ 2 ^ 51 → nat_abs c ≤ 2 ^ 51 → SFits w64 (a +ℤ b +ℤ c)
three-fit a b c f g h = abs-fits (a +ℤ b +ℤ c) (omega (arith, add-abs (a +ℤ b) c, add-abs a b))

pub four-fit : (a b c d : ℤ) → nat_abs a ≤ 2 ^ 51 → nat_abs b ≤ 2 ^ 51 → nat_abs c ≤ 2 ^ 51 → SFits w32 d → SFits w64 (a +ℤ b +ℤ c +ℤ d)
four-fit a b c d f g h i =
    abs-fits (a +ℤ b +ℤ c +ℤ d) (omega (arith, add-abs (a +ℤ b +ℤ c) d, add-abs (a +ℤ b) c, add-abs a b, abs_mag d, i.sfits))

-- ---- a shift, on the bits of a whole number

neg-times : (m n : ℕ) → 1 ≤ m * suc n → pos m *ℤ negsuc n ≡ negsuc (m * suc n - 1)
neg-times m n h =
    eq_of _ _
    (omega (
      arith,
      mul-P m (negsuc n),
      mul-N m (negsuc n),
      ap (λ (x : ℕ). m * x) (P-negsuc n),
      ap (λ (x : ℕ). m * x) (N-negsuc n),
      P-negsuc (m * suc n - 1),
      N-negsuc (m * suc n - 1),
    ))

-- the bits of -(n + 1), m times: those of -m (n + 1), and the top over and over
around : (top d n j : ℕ) → d + suc n ≡ top → suc j * suc n ≤ top → d * suc j ≡ (top - suc (suc j * suc n - 1)) + top * j
around top d n j e h = omega (arith, ap (λ (x : ℕ). x * suc j) e)

pub times-abs : (m : ℕ) (z : ℤ) → m ≤ 2 ^ 20 → SFits w32 z → nat_abs (pos m *ℤ z) ≤ 2 ^ 51
times-abs m z h f =
    let small : nat_abs z ≤ 2147483648 = omega (arith, abs_mag z, f.sfits) in
    let bound : m * nat_abs z ≤ 1048576 * 2147483648 = mul-le-mul h small in
    omega (arith, mul-abs (pos m) z, bound)

-- the bits of z, times m and cut to 64 bits, are those of m z
pub shifted : (m : ℕ) (z : ℤ) → 0 < m → m ≤ 2 ^ 20 → SFits w32 z → to_z w64 (of_z w64 z * m % 2 ^ 64) ≡ pos m *ℤ z
shifted m (pos n) low high f =
    let small : n ≤ 2147483648 = omega (arith, f.sfits) in
    let bound : n * m ≤ 2147483648 * 1048576 = mul-le-mul small high in
    let whole : n * m % 2 ^ 64 ≡ n * m = mod-eq_of_lt (omega arith) in
    ap (to_z w64) whole ∙ to_z_pos w64 (omega arith) ∙ ap pos (mul_comm n m)
shifted zero (negsuc n) low high f = absurd (omega arith)
shifted (suc j) (negsuc n) low high f =
    let small : suc n ≤ 2147483648 = omega (arith, f.sfits) in
    let bound : suc j * suc n ≤ 1048576 * 2147483648 = mul-le-mul high small in
    let rest : ℕ = 2 ^ 64 - suc (suc j * suc n - 1) in
    let bits : (2 ^ 64 - suc n) * suc j ≡ rest + 2 ^ 64 * j = around (2 ^ 64) (2 ^ 64 - suc n) n j (omega arith) (omega arith) in
    let cut : rest % 2 ^ 64 ≡ rest = mod-eq_of_lt (omega arith) in
    ap (to_z w64) (ap (λ (x : ℕ). x % 2 ^ 64) bits ∙ add-mul-mod_self_left rest (2 ^ 64) j ∙ cut)
    ∙ to_z-neg w64 (suc j * suc n - 1) (omega arith)
    ∙ sym (neg-times (suc j) n (omega arith))
