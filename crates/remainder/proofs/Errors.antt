-- What a checking reader relies on: message and check bits together are a multiple of the generator exactly where the check bits are the
-- message's remainder, and any one changed bit is seen, for every message length. Assumes nothing.
use mathlib.Core.Path.{◌≡◌, refl, sym, ap, ap₂, ◌∙◌, subst}
use mathlib.Core.Bool.{Bool, true, false}
use mathlib.Core.Logic.{◌↔◌}
use mathlib.Core.List.{List, [], ◌∷◌, ◌++◌, reverse, reverse-append, reverse-cons, reverse-reverse}
use Prim.Native.Nat.{ℕ, zero, suc, ◌+◌, ◌-◌, ◌*◌, ◌%◌, ◌^◌, ◌≤◌, ◌<◌}
use native.Mathlib.Nat.{le_of_suc-le-suc, not-suc-le-zero, mod-eq_of_lt, pow-suc, mul_assoc}
use native.Mathlib.Omega.{arith}
use lib.Bits.{bit_xor, differ, xor_self, xor_zero_r, xor_zero_l, xor_block, xor_shifted}
use lib.Pow.{pow_pos, pow-lt, pow_mono}
use lib.ListN.{length, get_or, length-set, length-reverse}
use Rattle.octets.specs.Bits.{digits_of, value_of}
use Rattle.octets.proofs.Digits.{Bits, digits-length, digits-bits, value-append, value-lt, value-digits, reverse_bits, append_bits}
use Rattle.octets.proofs.Xor.{xor_assoc, back, odd, no-two}
use Rattle.remainder.specs.Division.{times, polynomial, check_bits, Degree, Remainder, Multiple, generator}
use Rattle.remainder.specs.Errors.{flipped}
use Rattle.remainder.proofs.Division.{add, distrib, small-multiple}

-- ---- a message and what follows it

pub polynomial-lt : (bs : List ℕ) → Bits bs → polynomial bs < 2 ^ length bs
polynomial-lt bs h = subst (λ (n : ℕ). polynomial bs < 2 ^ n) (length-reverse bs) (value-lt (reverse bs) (reverse_bits bs h))

pub polynomial-append : (m c : List ℕ) → Bits c → polynomial (m ++ c) ≡ bit_xor (polynomial m * 2 ^ length c) (polynomial c)
polynomial-append m c h =
    ap value_of (reverse-append m c) ∙ value-append (reverse c) (reverse m)
    ∙ ap (λ (n : ℕ). polynomial m * 2 ^ n + polynomial c) (length-reverse c)
    ∙ sym (xor_shifted (polynomial m) (length c) (polynomial c) (polynomial-lt c h))

-- check bits as they stand, c1 first
pub check-length : (k r : ℕ) → length (check_bits k r) ≡ k
check-length k r = length-reverse (digits_of k r) ∙ digits-length k r

pub check_bits_right : (k r : ℕ) → Bits (check_bits k r)
check_bits_right k r = reverse_bits (digits_of k r) (digits-bits k r)

pub check-value : (k r : ℕ) → r < 2 ^ k → polynomial (check_bits k r) ≡ r
check-value k r h = ap value_of (reverse-reverse (digits_of k r)) ∙ value-digits k r ∙ mod-eq_of_lt h

-- message and check bits are a multiple of the generator exactly where the check bits are the remainder
pub divisible : (k g : ℕ) (m c : List ℕ) → Bits c → length c ≡ k → Remainder k g m (polynomial c) ↔ Multiple g (polynomial (m ++ c))
divisible k g m c h e = (to, from)
  where
    whole : polynomial (m ++ c) ≡ bit_xor (polynomial m * 2 ^ k) (polynomial c)
    whole = polynomial-append m c h ∙ ap (λ (n : ℕ). bit_xor (polynomial m * 2 ^ n) (polynomial c)) e

    to : Remainder k g m (polynomial c) → Multiple g (polynomial (m ++ c))
    to d =
        record {
          quotient = d.quotient;
          product = whole ∙ ap (λ (n : ℕ). bit_xor n (polynomial c)) d.divided ∙ back (times d.quotient g) (polynomial c);
        }

    from : Multiple g (polynomial (m ++ c)) → Remainder k g m (polynomial c)
    from d =
        record {
          quotient = d.quotient;
          divided = sym (back (polynomial m * 2 ^ k) (polynomial c)) ∙ ap (λ (n : ℕ). bit_xor n (polynomial c)) (sym whole ∙ d.product);
          below = subst (λ (n : ℕ). polynomial c < 2 ^ n) e (polynomial-lt c h);
        }

-- ---- one bit turned over

pub polynomial-cons : (x : ℕ) (bs : List ℕ) → polynomial (x ∷ bs) ≡ x * 2 ^ length bs + polynomial bs
unfolding value_of
polynomial-cons x bs =
    ap value_of (reverse-cons x bs) ∙ value-append (reverse bs) (x ∷ [])
    ∙ ap₂ (λ (n p : ℕ). n * 2 ^ p + polynomial bs) (omega arith) (length-reverse bs)

-- it adds its power of D
pub polynomial-flipped : (bs : List ℕ) (i : ℕ) → Bits bs → i < length bs → polynomial (flipped bs i) ≡ bit_xor (polynomial bs) (2 ^ (length bs - 1 - i))
polynomial-flipped [] i h l = absurd (not-suc-le-zero l)
polynomial-flipped (x ∷ bs) zero h l =
    let n = length bs in
    let p : suc n - 1 - 0 ≡ n = omega arith in
    let one : 1 * 2 ^ n + 0 ≡ 2 ^ n = omega arith in
    polynomial-cons (1 - x) bs
    ∙ ap₂ (λ (a b : ℕ). a * 2 ^ n + b) (sym (other x (h 0))) (sym (xor_zero_r (polynomial bs)))
    ∙ sym (xor_block n x 1 (polynomial bs) 0 (polynomial-lt bs (λ j. h (suc j))) (pow_pos n))
    ∙ ap₂ bit_xor (sym (polynomial-cons x bs)) (one ∙ ap (λ (e : ℕ). 2 ^ e) (sym p))
  where
    other : (x : ℕ) → x < 2 → bit_xor x 1 ≡ 1 - x
    other zero h = refl
    other (suc zero) h = refl
    other (suc (suc x)) h = no-two x h
polynomial-flipped (x ∷ bs) (suc i) h l =
    let n = length bs in
    let e = n - 1 - i in
    let p : suc n - 1 - suc i ≡ e = omega arith in
    let less : e < n = omega arith in
    let none : 0 * 2 ^ n + 2 ^ e ≡ 2 ^ e = omega arith in
    polynomial-cons x (flipped bs i)
    ∙ ap₂ (λ (m b : ℕ). x * 2 ^ m + b) (length-set bs i (1 - get_or bs i 0)) (polynomial-flipped bs i (λ j. h (suc j)) (le_of_suc-le-suc l))
    ∙ ap (λ (a : ℕ). a * 2 ^ n + bit_xor (polynomial bs) (2 ^ e)) (sym (xor_zero_r x))
    ∙ sym (xor_block n x 0 (polynomial bs) (2 ^ e) (polynomial-lt bs (λ j. h (suc j))) (pow-lt less))
    ∙ ap₂ bit_xor (sym (polynomial-cons x bs)) (none ∙ ap (λ (a : ℕ). 2 ^ a) (sym p))

-- the sum of two multiples is one
pub sum-multiple : (g a b : ℕ) → Multiple g a → Multiple g b → Multiple g (bit_xor a b)
sum-multiple g a b p q =
    record { quotient = add p.quotient q.quotient; product = ap₂ bit_xor p.product q.product ∙ distrib p.quotient q.quotient g }

-- of a generator with a constant term: where a polynomial times a power of D is a multiple, it is one itself
pub unshifted : (g : ℕ) → g % 2 ≡ 1 → (n i : ℕ) → Multiple g (n * 2 ^ i) → Multiple g n
unfolding times
unshifted g o n zero m = subst (Multiple g) (omega arith) m
unshifted g o n (suc i) m =
    let e : n * 2 ^ suc i ≡ n * 2 ^ i * 2 = ap (λ (p : ℕ). n * p) (pow-suc 2 i) ∙ sym (mul_assoc n (2 ^ i) 2) in
    unshifted g o n i (halved (n * 2 ^ i) m.quotient (sym e ∙ m.product))
  where
    even : (n : ℕ) → n * 2 % 2 ≡ 0
    even n = omega arith

    halved : (n : ℕ) (q : List Bool) → n * 2 ≡ times q g → Multiple g n
    halved n [] e = record { quotient = []; product = omega arith }
    halved n (true ∷ q) e =
        let x : n * 2 % 2 ≡ 1 = ap (λ (t : ℕ). t % 2) e ∙ odd (times q g * 2) g ∙ ap₂ differ (even (times q g)) o in
        absurd (omega arith)
    halved n (false ∷ q) e = record { quotient = q; product = omega (arith, e ∙ xor_zero_r (times q g * 2)) }

-- and no polynomial of a degree below its own, but 0, is one, times any power of D
pub short : (k g : ℕ) → Degree g k → g % 2 ≡ 1 → (b i : ℕ) → b < 2 ^ k → Multiple g (b * 2 ^ i) → b ≡ 0
short k g d o b i h m =
    let q = unshifted g o b i m in
    q.product ∙ small-multiple k g d q.quotient (subst (λ (n : ℕ). n < 2 ^ k) q.product h)

-- so no power of D is
pub no_power : (k g : ℕ) → 1 ≤ k → Degree g k → g % 2 ≡ 1 → (e : ℕ) → Multiple g (2 ^ e) → ⊥
no_power k g hk d o e m = let one : 2 ^ e ≡ 1 * 2 ^ e = omega arith in omega (arith, short k g d o 1 e (pow_mono hk) (subst (Multiple g) one m))

-- any one changed bit of message or check bits is seen
pub one-flip : (k g : ℕ) → 1 ≤ k → Degree g k → g % 2 ≡ 1 → (w : List ℕ) (i : ℕ) → Bits w → i < length w
    → Multiple g (polynomial w) → Multiple g (polynomial (flipped w i)) → ⊥
one-flip k g hk d o w i h l p q =
    let e = length w - 1 - i in
    let P = polynomial w in
    let only : bit_xor P (polynomial (flipped w i)) ≡ 2 ^ e =
    ap (bit_xor P) (polynomial-flipped w i h l) ∙ sym (xor_assoc P P (2 ^ e)) ∙ ap (λ (n : ℕ). bit_xor n (2 ^ e)) (xor_self P) ∙ xor_zero_l (2 ^ e) in
    no_power k g hk d o e (subst (Multiple g) only (sum-multiple g P (polynomial (flipped w i)) p q))

-- the same of a message m with check bits c that came to be m' and c'
pub one-flip-seen : (k g : ℕ) → 1 ≤ k → Degree g k → g % 2 ≡ 1 → (m c m' c' : List ℕ) → Bits m → Bits c → Bits c' → length c ≡ k → length c' ≡ k
    → (i : ℕ) → i < length (m ++ c) → m' ++ c' ≡ flipped (m ++ c) i
    → Remainder k g m (polynomial c) → Remainder k g m' (polynomial c') → ⊥
one-flip-seen k g hk d o m c m' c' hm hc hc' e e' i l f a b =
    one-flip k g hk d o (m ++ c) i (append_bits m c hm hc) l ((divisible k g m c hc e).0 a)
    (subst (λ (w : List ℕ). Multiple g (polynomial w)) f ((divisible k g m' c' hc' e').0 b))

-- ---- the generator of SCOPE

pub generator-degree : Degree generator 16
generator-degree = record { reached = lib.Dec.lit≤ tt; within = lib.Dec.lit< tt }

pub generator-odd : generator % 2 ≡ 1
generator-odd = refl

-- a bit turned over is a bit
pub flipped-bits : (B : List ℕ) (i : ℕ) → Bits B → Bits (flipped B i)
flipped-bits [] i h j = h j
flipped-bits (x ∷ B) zero h zero = omega arith
flipped-bits (x ∷ B) zero h (suc j) = h (suc j)
flipped-bits (x ∷ B) (suc i) h zero = h 0
flipped-bits (x ∷ B) (suc i) h (suc j) = flipped-bits B i (λ k. h (suc k)) j
