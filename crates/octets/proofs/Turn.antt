-- Laws of digits taken from the other end. Assumes nothing.
use mathlib.Core.Path.{◌≡◌, refl, sym, ap, ap₂, ◌∙◌}
use mathlib.Core.List.{List, [], ◌∷◌, reverse, reverse-append, reverse-cons, reverse-reverse}
use Prim.Native.Nat.{ℕ, zero, suc, ◌+◌, ◌*◌, ◌/◌, ◌%◌, ◌^◌, ◌<◌}
use native.Mathlib.Nat.{mod-eq_of_lt, div-eq_of_lt}
use native.Mathlib.Omega.{arith}
use lib.Arith.{digits_div, digits_mod}
use lib.Bits.{bit_xor, xor_block, xor_shr}
use lib.ListN.{length-reverse}
use lib.Pow.{pow_pos}
use Rattle.octets.specs.Bits.{digits_of, value_of}
use Rattle.octets.proofs.Xor.{odd, bit, bit-xor}
use Rattle.octets.proofs.Digits.{digits-length, digits-bits, digits_more, digits-mod-pow, digits_value, reverse_bits, value-digits, value-append}

-- the k low digits of x, the other end first
abbrev pub turn_of : ℕ → ℕ → ℕ
turn_of k x = value_of (reverse (digits_of k x))

pub turn-digits : (k x : ℕ) → digits_of k (turn_of k x) ≡ reverse (digits_of k x)
turn-digits k x =
    let L = reverse (digits_of k x) in
    ap (λ (n : ℕ). digits_of n (value_of L)) (sym (length-reverse (digits_of k x) ∙ digits-length k x)) ∙ digits_value L (reverse_bits (digits_of k x) (digits-bits k x))

-- twice is as before
pub turn-turn : (k x : ℕ) → x < 2 ^ k → turn_of k (turn_of k x) ≡ x
turn-turn k x h =
    ap (λ (l : List ℕ). value_of (reverse l)) (turn-digits k x) ∙ ap value_of (reverse-reverse (digits_of k x)) ∙ value-digits k x ∙ mod-eq_of_lt h

-- one digit more: the highest, which comes first
pub turn_more : (k x : ℕ) → turn_of (suc k) x ≡ turn_of k x * 2 + x / 2 ^ k % 2
unfolding value_of
turn_more k x = ap value_of (ap reverse (digits_more k x) ∙ reverse-append (digits_of k x) (x / 2 ^ k % 2 ∷ []))

pub turn-half : (k x : ℕ) → turn_of (suc k) x / 2 ≡ turn_of k x
turn-half k x = ap (λ (n : ℕ). n / 2) (turn_more k x) ∙ digits_div (turn_of k x) (bit (x / 2 ^ k))

pub turn_odd : (k x : ℕ) → turn_of (suc k) x % 2 ≡ x / 2 ^ k % 2
turn_odd k x = ap (λ (n : ℕ). n % 2) (turn_more k x) ∙ digits_mod (turn_of k x) (bit (x / 2 ^ k))

-- twice the number: the highest digit goes
pub turn-double : (k x : ℕ) → turn_of (suc k) (x * 2 % 2 ^ suc k) ≡ turn_of k x
unfolding digits_of value_of
turn-double k x =
    let e : x * 2 / 2 ≡ x = omega arith in
    let z : x * 2 % 2 ≡ 0 = omega arith in
    ap (λ (l : List ℕ). value_of (reverse l)) (digits-mod-pow (suc k) (x * 2) ∙ ap₂ (λ (a b : ℕ). a ∷ digits_of k b) z e)
    ∙ ap value_of (reverse-cons 0 (digits_of k x)) ∙ value-append (reverse (digits_of k x)) (0 ∷ []) ∙ omega arith

-- digit by digit
pub turn-xor : (k a b : ℕ) → turn_of k (bit_xor a b) ≡ bit_xor (turn_of k a) (turn_of k b)
unfolding digits_of value_of
turn-xor zero a b = refl
turn-xor (suc k) a b =
    let p = a / 2 ^ k in
    let q = b / 2 ^ k in
    turn_more k (bit_xor a b)
    ∙ ap₂ (λ (x y : ℕ). x * 2 + y) (turn-xor k a b) (ap (λ (n : ℕ). n % 2) (xor_shr a b k) ∙ odd p q ∙ sym (bit-xor (p % 2) (q % 2) (bit p) (bit q)))
    ∙ sym (xor_block 1 (turn_of k a) (turn_of k b) (p % 2) (q % 2) (bit p) (bit q))
    ∙ sym (ap₂ bit_xor (turn_more k a) (turn_more k b))

pub turn-zero : (k : ℕ) → turn_of k 0 ≡ 0
unfolding digits_of value_of
turn-zero zero = refl
turn-zero (suc k) = turn_more k 0 ∙ ap₂ (λ (x y : ℕ). x * 2 + y % 2) (turn-zero k) (zero-div k)
  where
    zero-div : (k : ℕ) → 0 / 2 ^ k ≡ 0
    zero-div k = div-eq_of_lt (pow_pos k)

-- none or all
pub turn-times : (k c x : ℕ) → c < 2 → turn_of k (c * x) ≡ c * turn_of k x
turn-times k zero x h = ap (turn_of k) (none x) ∙ turn-zero k ∙ sym (none (turn_of k x))
  where
    none : (n : ℕ) → 0 * n ≡ 0
    none n = omega arith
turn-times k (suc zero) x h = ap (turn_of k) (all x) ∙ sym (all (turn_of k x))
  where
    all : (n : ℕ) → 1 * n ≡ n
    all n = omega arith
turn-times k (suc (suc c)) x h = absurd (omega arith)
