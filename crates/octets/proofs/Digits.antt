-- Laws of binary digits and the numbers that they make. Assumes nothing.
use mathlib.Core.Path.{◌≡◌, refl, sym, ap, ap₂, ◌∙◌, subst}
use mathlib.Core.List.{List, [], ◌∷◌, ◌++◌, reverse, reverse-cons, reverse-append}
use Prim.Native.Nat.{ℕ, zero, suc, ◌+◌, ◌*◌, ◌/◌, ◌%◌, ◌^◌, ◌≤◌, ◌<◌, zero-le, suc-le-suc}
use native.Mathlib.Nat.{le_of_suc-le-suc, not-suc-le-zero, pow-suc, mul_comm, mul_assoc, div-div-eq-div-mul, mod-lt, div-one, mod-one}
use native.Mathlib.Numerals.{add-one}
use native.Mathlib.Omega.{arith}
use lib.Arith.{digits_div, digits_mod, mod-mul}
use lib.Pow.{pow_pos}
use lib.ListN.{length, get_or, take, drop, length-reverse, replicate}
use lib.Seq.{get_or-drop, take-nil}
use Rattle.octets.specs.Bits.{digits_of, value_of}

-- every element of l is a bit
abbrev pub Bits : List ℕ → Type 0
Bits l = (i : ℕ) → get_or l i 0 < 2

-- ---- lists of bits

pub nil-bits : Bits []
nil-bits i = suc-le-suc zero-le

pub cons-bits : (b : ℕ) (l : List ℕ) → b < 2 → Bits l → Bits (b ∷ l)
cons-bits b l h k zero = h
cons-bits b l h k (suc i) = k i

pub append_bits : (xs ys : List ℕ) → Bits xs → Bits ys → Bits (xs ++ ys)
append_bits [] ys h l i = l i
append_bits (x ∷ xs) ys h l zero = h zero
append_bits (x ∷ xs) ys h l (suc i) = append_bits xs ys (λ j. h (suc j)) l i

pub take-bits : (n : ℕ) (l : List ℕ) → Bits l → Bits (take n l)
take-bits zero l h i = nil-bits i
take-bits (suc n) [] h i = nil-bits i
take-bits (suc n) (x ∷ l) h zero = h zero
take-bits (suc n) (x ∷ l) h (suc i) = take-bits n l (λ j. h (suc j)) i

pub drop_bits : (n : ℕ) (l : List ℕ) → Bits l → Bits (drop n l)
drop_bits n l h i = subst (λ (x : ℕ). x < 2) (sym (get_or-drop n l i 0)) (h (n + i))

pub reverse_bits : (l : List ℕ) → Bits l → Bits (reverse l)
reverse_bits [] h = nil-bits
reverse_bits (x ∷ l) h =
    subst Bits (sym (reverse-cons x l)) (append_bits (reverse l) (x ∷ []) (reverse_bits l (λ i. h (suc i))) (cons-bits x [] (h 0) nil-bits))

pub zeros-bits : (n : ℕ) → Bits (replicate n 0)
zeros-bits zero i = nil-bits i
zeros-bits (suc n) zero = suc-le-suc zero-le
zeros-bits (suc n) (suc i) = zeros-bits n i

-- ---- digits

pub digits-length : (k n : ℕ) → length (digits_of k n) ≡ k
unfolding digits_of
digits-length zero n = refl
digits-length (suc k) n = ap suc (digits-length k (n / 2))

pub digits-bits : (k n : ℕ) → Bits (digits_of k n)
unfolding digits_of
digits-bits zero n i = nil-bits i
digits-bits (suc k) n zero = mod-lt n (suc-le-suc zero-le)
digits-bits (suc k) n (suc i) = digits-bits k (n / 2) i

pub shr-suc : (n k : ℕ) → n / 2 / 2 ^ k ≡ n / 2 ^ suc k
shr-suc n k = div-div-eq-div-mul n 2 (2 ^ k) ∙ ap (λ (x : ℕ). n / x) (mul_comm 2 (2 ^ k) ∙ sym (pow-suc 2 k))

pub digits-at : (n o k : ℕ) → k < n → get_or (digits_of n o) k 0 ≡ o / 2 ^ k % 2
unfolding digits_of
digits-at zero o k h = absurd (not-suc-le-zero h)
digits-at (suc n) o zero h = ap (λ (x : ℕ). x % 2) (sym (div-one o))
digits-at (suc n) o (suc k) h = digits-at n (o / 2) k (le_of_suc-le-suc h) ∙ ap (λ (x : ℕ). x % 2) (shr-suc o k)

-- one digit more, the highest
pub digits_more : (k n : ℕ) → digits_of (suc k) n ≡ digits_of k n ++ (n / 2 ^ k % 2 ∷ [])
unfolding digits_of
digits_more zero n = ap (λ (x : ℕ). x % 2 ∷ []) (sym (div-one n))
digits_more (suc k) n =
    ap (λ (l : List ℕ). n % 2 ∷ l) (digits_more k (n / 2) ∙ ap (λ (x : ℕ). digits_of k (n / 2) ++ (x % 2 ∷ [])) (shr-suc n k))

pub digits-mod-pow : (n x : ℕ) → digits_of n (x % 2 ^ n) ≡ digits_of n x
unfolding digits_of
digits-mod-pow zero x = refl
digits-mod-pow (suc n) x =
    let e : x % 2 ^ suc n ≡ x / 2 % 2 ^ n * 2 + x % 2 = ap (λ (y : ℕ). x % y) (pow-suc 2 n) ∙ mod-mul x (pow_pos n) (suc-le-suc zero-le) in
    ap (λ (y : ℕ). y % 2 ∷ digits_of n (y / 2)) e
    ∙ ap₂ (λ (a b : ℕ). a ∷ digits_of n b) (digits_mod (x / 2 % 2 ^ n) (mod-lt x (suc-le-suc zero-le))) (digits_div (x / 2 % 2 ^ n) (mod-lt x (suc-le-suc zero-le)))
    ∙ ap (λ (l : List ℕ). x % 2 ∷ l) (digits-mod-pow n (x / 2))

pub digits-take : (n m x : ℕ) → n ≤ m → take n (digits_of m x) ≡ digits_of n x
unfolding digits_of
digits-take zero m x h = refl
digits-take (suc n) zero x h = absurd (not-suc-le-zero h)
digits-take (suc n) (suc m) x h = ap (λ (l : List ℕ). x % 2 ∷ l) (digits-take n m (x / 2) (le_of_suc-le-suc h))

-- the digits of 0 are 0
pub digits-zero : (n i : ℕ) → get_or (digits_of n 0) i 0 ≡ 0
unfolding digits_of
digits-zero zero i = refl
digits-zero (suc n) zero = refl
digits-zero (suc n) (suc i) = digits-zero n i

pub zeros-digits : (n : ℕ) → digits_of n 0 ≡ replicate n 0
unfolding digits_of
zeros-digits zero = refl
zeros-digits (suc n) = ap (λ (l : List ℕ). 0 ∷ l) (zeros-digits n)

-- ---- values

pub no_value : value_of [] ≡ 0
unfolding value_of
no_value = refl

pub value-digits : (w v : ℕ) → value_of (digits_of w v) ≡ v % 2 ^ w
unfolding value_of digits_of
value-digits zero v = sym (mod-one v)
value-digits (suc w) v =
    ap (λ (x : ℕ). x * 2 + v % 2) (value-digits w (v / 2))
    ∙ sym (ap (λ (y : ℕ). v % y) (pow-suc 2 w) ∙ mod-mul v (pow_pos w) (suc-le-suc zero-le))

pub digits_value : (l : List ℕ) → Bits l → digits_of (length l) (value_of l) ≡ l
unfolding digits_of value_of
digits_value [] h = refl
digits_value (b ∷ bs) h =
    ap₂ (λ (x : ℕ) (y : List ℕ). x ∷ y) (digits_mod (value_of bs) (h 0))
    (ap (digits_of (length bs)) (digits_div (value_of bs) (h 0)) ∙ digits_value bs (λ i. h (suc i)))

pub value-lt : (l : List ℕ) → Bits l → value_of l < 2 ^ length l
unfolding value_of
value-lt [] h = suc-le-suc zero-le
value-lt (x ∷ l) h = omega (arith, pow-suc 2 (length l), value-lt l (λ i. h (suc i)), h 0)

-- the value of n bits or fewer
pub value-part : (n : ℕ) (l : List ℕ) → Bits l → value_of (take n l) < 2 ^ n
unfolding value_of
value-part zero l h = suc-le-suc zero-le
value-part (suc n) [] h = pow_pos (suc n)
value-part (suc n) (x ∷ l) h = omega (arith, pow-suc 2 n, value-part n l (λ i. h (suc i)), h 0)

shifted : (v p q a x : ℕ) → q ≡ p * 2 → (v * p + a) * 2 + x ≡ v * q + (a * 2 + x)
shifted v p q a x e = let f : v * q ≡ v * p * 2 = ap (λ (y : ℕ). v * y) e ∙ sym (mul_assoc v p 2) in omega arith

pub value-append : (a b : List ℕ) → value_of (a ++ b) ≡ value_of b * 2 ^ length a + value_of a
unfolding value_of
value-append [] b = omega arith
value-append (x ∷ a) b =
    ap (λ (n : ℕ). n * 2 + x) (value-append a b) ∙ shifted (value_of b) (2 ^ length a) (2 ^ suc (length a)) (value_of a) x (pow-suc 2 (length a))

pub zeros-value : (n : ℕ) → value_of (replicate n 0) ≡ 0
unfolding value_of
zeros-value zero = refl
zeros-value (suc n) = omega (arith, zeros-value n)

-- two lists of bits of one length and one value are equal
pub value-one : (a b : List ℕ) → Bits a → Bits b → length a ≡ length b → value_of a ≡ value_of b → a ≡ b
value-one a b h k e f = sym (digits_value a h) ∙ ap₂ digits_of e f ∙ digits_value b k

-- ---- a loop that takes the digits of v from the lowest on: rest is what is left after k

pub digits-next : {rest : ℕ} (v k : ℕ) → rest ≡ v / 2 ^ k → digits_of k v ++ (rest % 2 ∷ []) ≡ digits_of (k + 1) v
digits-next v k e =
    ap (λ (x : ℕ). digits_of k v ++ (x % 2 ∷ [])) e ∙ sym (digits_more k v) ∙ ap (λ (n : ℕ). digits_of n v) (sym (add-one k))

pub rest-next : {rest : ℕ} (v k : ℕ) → rest ≡ v / 2 ^ k → rest / 2 ≡ v / 2 ^ (k + 1)
rest-next v k e =
    ap (λ (x : ℕ). x / 2) e ∙ div-div-eq-div-mul v (2 ^ k) 2 ∙ ap (λ (x : ℕ). v / x) (sym (pow-suc 2 k) ∙ ap (λ (n : ℕ). 2 ^ n) (sym (add-one k)))

-- ---- a loop that takes a list's bits from the highest on, and one that takes them from the lowest on; past the end they are 0

pub value-head : (l : List ℕ) (p n : ℕ) → value_of (take n (drop (suc p) l)) * 2 + get_or l p 0 ≡ value_of (take (suc n) (drop p l))
unfolding value_of
value-head [] zero n = ap (λ (l : List ℕ). value_of l * 2 + 0) (take-nil n)
value-head [] (suc p) n = ap (λ (l : List ℕ). value_of l * 2 + 0) (take-nil n)
value-head (x ∷ l) zero n = refl
value-head (x ∷ l) (suc p) n = value-head l p n

pub value-next : (l : List ℕ) (k : ℕ) → value_of (take (suc k) l) ≡ get_or l k 0 * 2 ^ k + value_of (take k l)
unfolding value_of
value-next [] zero = refl
value-next [] (suc k) = omega arith
value-next (x ∷ l) zero = omega arith
value-next (x ∷ l) (suc k) =
    ap (λ (n : ℕ). n * 2 + x) (value-next l k) ∙ shifted (get_or l k 0) (2 ^ k) (2 ^ suc k) (value_of (take k l)) x (pow-suc 2 k)

-- the digits taken so far, the other end first
pub turned-next : {rest : ℕ} (v k : ℕ) → rest ≡ v / 2 ^ k → value_of (reverse (digits_of k v)) * 2 + rest % 2 ≡ value_of (reverse (digits_of (k + 1) v))
unfolding value_of
turned-next {rest} v k e =
    ap value_of (sym (reverse-append (digits_of k v) (rest % 2 ∷ [])) ∙ ap reverse (digits-next v k e))

pub turned_none : (v : ℕ) → 0 ≡ value_of (reverse (digits_of 0 v))
unfolding digits_of value_of
turned_none v = refl

pub turned_lt : (k v : ℕ) → value_of (reverse (digits_of k v)) < 2 ^ k
turned_lt k v =
    subst (λ (n : ℕ). value_of (reverse (digits_of k v)) < 2 ^ n) (length-reverse (digits_of k v) ∙ digits-length k v)
    (value-lt (reverse (digits_of k v)) (reverse_bits (digits_of k v) (digits-bits k v)))
