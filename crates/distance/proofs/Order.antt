-- Up to which length the powers of D are apart. The least power that leaves 1 divides every other that does, and D^32767 does. What divides 32,767
-- and lies below it divides 217, 1,057 or 4,681, and none of these leaves 1: their powers are put together from squares. Assumes nothing.
use mathlib.Core.Path.{◌≡◌, refl, sym, ap, ap₂, ◌∙◌, subst}
use mathlib.Core.Bool.{Bool, true, false, cond, ◌&&◌}
use mathlib.Core.List.{List, [], ◌∷◌}
use mathlib.Core.Logic.{◌⊎◌, inl, inr}
use Prim.Native.Nat.{ℕ, zero, suc, ◌+◌, ◌-◌, ◌*◌, ◌/◌, ◌%◌, ◌^◌, ◌≤◌, ◌<◌}
use native.Mathlib.Decide.{dec_lt}
use native.Mathlib.Nat.{not-suc-le-zero, add_comm, mul_assoc, mul_comm, mul-mod_right, suc-mul, add-mul, pow-suc, mod-lt, div-add-mod'}
use native.Mathlib.Omega.{arith}
use borrow.Author.Tests.{eq-eqb, eqb-true, eqb-false, ltb-true}
use lib.Bits.{bit_xor, xor_comm, xor_self, xor_zero_r, xor_zero_l, xor_shifted}
use lib.Dec.{eqb, ltb, lit≤, lit<}
use lib.Pow.{pow-add}
use Rattle.octets.specs.Bits.{digits_of}
use Rattle.octets.proofs.Digits.{digits-bits, reverse_bits}
use Rattle.octets.proofs.Complement.{twice}
use Rattle.octets.proofs.Sums.{sum, shifts, doubled, sum-xor, sum-shl, sum_twice}
use Rattle.octets.proofs.Xor.{xor_assoc, xor-swap, shl-xor, mid}
use Rattle.remainder.specs.Division.{times, check_bits, Multiple, generator}
use Rattle.remainder.specs.Register.{register_of}
use Rattle.remainder.proofs.Division.{exists, computed}
use Rattle.remainder.proofs.Errors.{check-value, sum-multiple, unshifted, generator-degree, generator-odd}
use Rattle.remainder.proofs.Quotient.{shl-multiple, sum-times}
use Rattle.ranges.proofs.Laws.{both}
use Rattle.distance.specs.Errors.{Apart, Order, reach}
use Rattle.distance.proofs.Multiples.{none, through}

-- no two ones less than n places apart make a multiple
pub pair : (g n : ℕ) → g % 2 ≡ 1 → Apart g n → (m i : ℕ) → 1 ≤ m → m < n → Multiple g ((2 ^ m + 1) * 2 ^ i) → ⊥
pair g n o a m i h l x =
    let t : 2 ^ m ≡ 2 ^ (m - 1) * 2 = twice m h in
    let e : 2 ^ m + 1 ≡ bit_xor (2 ^ m) 1 =
    ap (λ (y : ℕ). y + 1) t ∙ sym (xor_shifted (2 ^ (m - 1)) 1 1 (lit< tt)) ∙ ap (λ (y : ℕ). bit_xor y 1) (sym t) in
    a m h l (subst (Multiple g) e (unshifted g o (2 ^ m + 1) i x))

-- ---- the powers that leave 1

-- D^m leaves 1, divided by g
abbrev One : ℕ → ℕ → Type 0
One g m = Multiple g (bit_xor (2 ^ m) 1)

-- where D^m leaves 1, so does every power of it
times-one : (g m c : ℕ) → One g m → One g (c * m)
times-one g m zero x = let e : 0 * m ≡ 0 = omega arith in subst (One g) (sym e) (none g)
times-one g m (suc c) x =
    let X = 2 ^ (c * m) in
    let one : 1 * 2 ^ m ≡ 2 ^ m = omega arith in
    let e : bit_xor (bit_xor X 1 * 2 ^ m) (bit_xor (2 ^ m) 1) ≡ bit_xor (2 ^ (suc c * m)) 1 =
    ap (λ (y : ℕ). bit_xor y (bit_xor (2 ^ m) 1)) (shl-xor m X 1 ∙ ap₂ bit_xor (sym (pow-add 2 (c * m) m)) one)
    ∙ mid (2 ^ (c * m + m)) (2 ^ m) 1 ∙ ap (λ (k : ℕ). bit_xor (2 ^ k) 1) (sym (suc-mul c m)) in
    subst (Multiple g) e (sum-multiple g (bit_xor X 1 * 2 ^ m) (bit_xor (2 ^ m) 1) (shl-multiple g (bit_xor X 1) m (times-one g m c x)) x)

module _ (g : ℕ) (o : g % 2 ≡ 1) where
  -- where D^a and D^(a + b) leave 1, so does D^b
  rest-one : (a b : ℕ) → One g a → One g (a + b) → One g b
  rest-one a b x y =
      let one : 1 * 2 ^ a ≡ 2 ^ a = omega arith in
      let e : bit_xor (bit_xor (2 ^ a) 1) (bit_xor (2 ^ (a + b)) 1) ≡ bit_xor (2 ^ b) 1 * 2 ^ a =
      xor-swap (2 ^ a) 1 (2 ^ (a + b)) 1 ∙ xor_zero_r (bit_xor (2 ^ a) (2 ^ (a + b))) ∙ xor_comm (2 ^ a) (2 ^ (a + b))
      ∙ ap₂ bit_xor (ap (λ (n : ℕ). 2 ^ n) (add_comm a b) ∙ pow-add 2 b a) (sym one) ∙ sym (shl-xor a (2 ^ b) 1) in
      unshifted g o (bit_xor (2 ^ b) 1) a (subst (Multiple g) e (sum-multiple g (bit_xor (2 ^ a) 1) (bit_xor (2 ^ (a + b)) 1) x y))

  -- so where D^n and D^m do, the power by what is left of n divided by m does
  left_one : (n m : ℕ) → One g n → One g m → One g (n % m)
  left_one n m x y = down (n / m) (subst (One g) (sym (div-add-mod' n m)) x)
    where
      down : (c : ℕ) → One g (c * m + n % m) → One g (n % m)
      down zero z = let e : 0 * m + n % m ≡ n % m = omega arith in subst (One g) e z
      down (suc c) z =
          let e : suc c * m + n % m ≡ m + (c * m + n % m) = omega (arith, suc-mul c m) in
          down c (rest-one m (c * m + n % m) y (subst (One g) e z))

  -- the least power that leaves 1 divides every other one
  least : (n : ℕ) → One g n → ((m : ℕ) → 1 ≤ m → m < n → n % m ≡ 0 → One g m → ⊥) → Apart g n
  least n x d m h l y = go (suc m) m (omega arith) h l y
    where
      pick : (m r : ℕ) → 1 ≤ m → m < n → One g m → n % m ≡ r → (1 ≤ r → r < m → One g r → ⊥) → ⊥
      pick m zero h l y e f = d m h l e y
      pick m (suc r) h l y e f =
          let less : n % m < m = mod-lt n h in
          f (omega arith) (omega arith) (subst (One g) e (left_one n m x y))

      go : (f m : ℕ) → m < f → 1 ≤ m → m < n → One g m → ⊥
      go zero m u h l y = not-suc-le-zero u
      go (suc f) m u h l y = pick m (n % m) h l y refl (λ a b z. go f (n % m) (omega arith) a (omega arith) z)

-- ---- what the powers of D leave: squares and products

-- D^m leaves y
abbrev Left : ℕ → ℕ → ℕ → Type 0
Left g m y = Multiple g (bit_xor (1 * 2 ^ m) y)

-- D^m leaves 1 and the powers rs
abbrev Leaves : ℕ → ℕ → List ℕ → Type 0
Leaves g m rs = Left g m (sum rs 1)

-- the square of a multiple: each power twice as far. What it leaves may be changed by a multiple
squared : (g m : ℕ) (rs ss : List ℕ) → Multiple g (bit_xor (sum (doubled rs) 1) (sum ss 1)) → Leaves g m rs → Leaves g (m + m) ss
unfolding shifts
squared g m rs ss d x =
    let es : List ℕ = m ∷ rs in
    let y = subst (Multiple g) (sym (front m rs)) x in
    let z = subst (Multiple g) (sum_twice es 1 ∙ front (m + m) (doubled rs)) (through g (sum es 1) (sum es (sum es 1)) y (sum-times es (sum es 1))) in
    let A = sum (doubled rs) 1 in
    subst (Multiple g) (mid (1 * 2 ^ (m + m)) A (sum ss 1)) (sum-multiple g (bit_xor (1 * 2 ^ (m + m)) A) (bit_xor A (sum ss 1)) z d)
  where
    front : (m : ℕ) (rs : List ℕ) → sum (m ∷ rs) 1 ≡ bit_xor (1 * 2 ^ m) (sum rs 1)
    front m rs =
        let X = 1 * 2 ^ m in
        sym (xor_assoc 1 X (shifts rs 1)) ∙ ap (λ (y : ℕ). bit_xor y (shifts rs 1)) (xor_comm 1 X) ∙ xor_assoc X 1 (shifts rs 1)

-- every power leaves itself
itself : (g n : ℕ) → Left g n (1 * 2 ^ n)
itself g n = subst (Multiple g) (sym (xor_self (1 * 2 ^ n))) (none g)

-- the product of two powers leaves the product of what they leave
further : (g m n : ℕ) (rs : List ℕ) (y : ℕ) → Leaves g m rs → Left g n y → Left g (m + n) (sum rs y)
unfolding shifts
further g m n rs y p q =
    let S = sum rs 1 * 2 ^ n in
    let X = bit_xor (1 * 2 ^ m) (sum rs 1) in
    let Y = bit_xor (1 * 2 ^ n) y in
    let a : X * 2 ^ n ≡ bit_xor (1 * 2 ^ (m + n)) S =
    shl-xor n (1 * 2 ^ m) (sum rs 1) ∙ ap (λ (x : ℕ). bit_xor x S) (mul_assoc 1 (2 ^ m) (2 ^ n) ∙ ap (λ (x : ℕ). 1 * x) (sym (pow-add 2 m n))) in
    let b : sum rs Y ≡ bit_xor S (sum rs y) = sum-xor rs (1 * 2 ^ n) y ∙ ap (λ (x : ℕ). bit_xor x (sum rs y)) (sum-shl rs n 1) in
    subst (Multiple g) (ap₂ bit_xor a b ∙ mid (1 * 2 ^ (m + n)) S (sum rs y))
    (sum-multiple g (X * 2 ^ n) (sum rs Y) (shl-multiple g X n p) (sum-multiple g Y (shifts rs Y) q (shifted Y q rs)))
  where
    shifted : (x : ℕ) → Multiple g x → (rs : List ℕ) → Multiple g (shifts rs x)
    shifted x m [] = none g
    shifted x m (r ∷ rs) = sum-multiple g (x * 2 ^ r) (shifts rs x) (shl-multiple g x r m) (shifted x m rs)

-- ---- the generator of SCOPE

-- a number is a multiple where the register comes to 0
come-out : (n : ℕ) → n < 2 ^ 33 → register_of 16 generator 0 (check_bits 33 n) ≡ 0 → Multiple generator n
come-out n h z =
    let bs = check_bits 33 n in
    let r = exists 16 generator (lit≤ tt) generator-degree bs (reverse_bits (digits_of 33 n) (digits-bits 33 n)) in
    let e : n * 2 ^ 16 ≡ times r.quotient generator =
    ap (λ (x : ℕ). x * 2 ^ 16) (sym (check-value 33 n h)) ∙ r.divided ∙ ap (bit_xor (times r.quotient generator)) z
    ∙ xor_zero_r (times r.quotient generator) in
    unshifted generator generator-odd n 16 (record { quotient = r.quotient; product = e })

-- and only there
come-back : (w n : ℕ) → n < 2 ^ w → Multiple generator n → register_of 16 generator 0 (check_bits w n) ≡ 0
come-back w n h m =
    let bs = check_bits w n in
    let d = shl-multiple generator n 16 m in
    sym (computed 16 generator (lit≤ tt) generator-degree bs 0 (reverse_bits (digits_of w n) (digits-bits w n))
    (record {
      quotient = d.quotient;
      divided = ap (λ (x : ℕ). x * 2 ^ 16) (check-value w n h) ∙ d.product ∙ sym (xor_zero_r (times d.quotient generator));
      below = lit< tt;
    }))

-- so D^m, which leaves y, does not leave 1 where the register of y + 1 does not come to 0
not-one : (m y w : ℕ) → bit_xor y 1 < 2 ^ w → eqb (register_of 16 generator 0 (check_bits w (bit_xor y 1))) 0 ≡ false → Left generator m y
    → One generator m → ⊥
not-one m y w h e p x =
    let X = 2 ^ m in
    let one : 1 * X ≡ X = omega arith in
    let sum_is : bit_xor (bit_xor (1 * X) y) (bit_xor X 1) ≡ bit_xor y 1 =
    ap (λ (n : ℕ). bit_xor (bit_xor n y) (bit_xor X 1)) one ∙ xor-swap X y X 1 ∙ ap (λ (n : ℕ). bit_xor n (bit_xor y 1)) (xor_self X) ∙ xor_zero_l (bit_xor y 1) in
    eqb-false _ _ e
    (come-back w (bit_xor y 1) h (subst (Multiple generator) sum_is (sum-multiple generator (bit_xor (1 * X) y) (bit_xor X 1) p x)))

-- what D^32 leaves besides 1, D^64, and so on to D^32768; the generator is added where 1 would be missing
abbrev squares : List (List ℕ)
squares =
    (4 ∷ 8 ∷ 9 ∷ 10 ∷ 13 ∷ 16 ∷ [])
    ∷ (5 ∷ 6 ∷ 11 ∷ 12 ∷ 13 ∷ 15 ∷ [])
    ∷ (2 ∷ 3 ∷ 4 ∷ 6 ∷ 7 ∷ 9 ∷ 10 ∷ 11 ∷ 12 ∷ 13 ∷ 15 ∷ 16 ∷ [])
    ∷ (3 ∷ 5 ∷ 9 ∷ 10 ∷ 11 ∷ 15 ∷ [])
    ∷ (2 ∷ 3 ∷ 4 ∷ 6 ∷ 7 ∷ 8 ∷ 9 ∷ 16 ∷ [])
    ∷ (2 ∷ 5 ∷ 6 ∷ 7 ∷ 9 ∷ 10 ∷ 13 ∷ 16 ∷ [])
    ∷ (4 ∷ 5 ∷ 6 ∷ 8 ∷ 10 ∷ 11 ∷ 13 ∷ 14 ∷ 15 ∷ 16 ∷ [])
    ∷ (1 ∷ 2 ∷ 3 ∷ 4 ∷ 5 ∷ 7 ∷ 9 ∷ 11 ∷ 12 ∷ 13 ∷ 15 ∷ 16 ∷ [])
    ∷ (2 ∷ 3 ∷ 4 ∷ 5 ∷ 11 ∷ 12 ∷ 15 ∷ 16 ∷ [])
    ∷ (3 ∷ 4 ∷ 5 ∷ 6 ∷ 10 ∷ 12 ∷ 14 ∷ 16 ∷ [])
    ∷ (1 ∷ 5 ∷ 12 ∷ 16 ∷ [])
    ∷ []

-- each of a list leaves what the square of the one before does
unfoldable follow : List ℕ → List (List ℕ) → Bool
follow rs [] = true
follow rs (ss ∷ t) =
    let n = bit_xor (sum (doubled rs) 1) (sum ss 1) in
    ltb n (2 ^ 33) && (eqb (register_of 16 generator 0 (check_bits 33 n)) 0 && follow ss t)

-- then all of them are so
abbrev Chain : ℕ → List ℕ → List (List ℕ) → Type 0
Chain m rs [] = Leaves generator m rs
Chain m rs (ss ∷ t) = Leaves generator m rs × Chain (m + m) ss t

chain : (m : ℕ) (rs : List ℕ) (t : List (List ℕ)) → follow rs t ≡ true → Leaves generator m rs → Chain m rs t
unfolding follow
chain m rs [] c x = x
chain m rs (ss ∷ t) c x =
    let n = bit_xor (sum (doubled rs) 1) (sum ss 1) in
    let z = eqb (register_of 16 generator 0 (check_bits 33 n)) 0 in
    let p = both (ltb n (2 ^ 33)) (z && follow ss t) c in
    let q = both z (follow ss t) p.1 in
    (x, chain (m + m) ss t q.1 (squared generator m rs ss (come-out n (ltb-true _ _ p.0) (eqb-true _ _ q.0)) x))

-- what D^16 to D^32768 leave
powers : Chain 16 (5 ∷ 12 ∷ []) squares
unfolding shifts register_of digits_of follow
powers = chain 16 (5 ∷ 12 ∷ []) squares refl (come-out generator (lit< tt) refl)

-- D^32768 leaves D, so D^32767 leaves 1
last_one : One generator 32767
unfolding shifts register_of digits_of
last_one =
    let P = sum (1 ∷ 5 ∷ 12 ∷ 16 ∷ []) 1 in
    let x : Leaves generator 32768 (1 ∷ 5 ∷ 12 ∷ 16 ∷ []) = powers.1.1.1.1.1.1.1.1.1.1.1 in
    halved 32767 (subst (Multiple generator) (mid (1 * 2 ^ 32768) P 2)
    (sum-multiple generator (bit_xor (1 * 2 ^ 32768) P) (bit_xor P 2) x (come-out generator (lit< tt) refl)))
  where
    halved : (m : ℕ) → Multiple generator (bit_xor (1 * 2 ^ suc m) 2) → One generator m
    halved m x =
        let e : 1 * 2 ^ suc m ≡ 2 ^ m * 2 = omega (arith, pow-suc 2 m) in
        unshifted generator generator-odd (bit_xor (2 ^ m) 1) 1
        (subst (Multiple generator) (ap (λ (n : ℕ). bit_xor n 2) e ∙ sym (shl-xor 1 (2 ^ m) 1)) x)

-- none of D^217, D^1057 = D^1024 D^33 and D^4681 = D^4096 D^512 D^73 leaves 1
no-217 : One generator 217 → ⊥
unfolding register_of digits_of
no-217 = not-one 217 (1 * 2 ^ 217) 218 (lit< tt) refl (itself generator 217)

no-1057 : One generator 1057 → ⊥
unfolding shifts register_of digits_of
no-1057 =
    not-one 1057 (sum (2 ∷ 5 ∷ 6 ∷ 7 ∷ 9 ∷ 10 ∷ 13 ∷ 16 ∷ []) (1 * 2 ^ 33)) 50 (lit< tt) refl
    (further generator 1024 33 (2 ∷ 5 ∷ 6 ∷ 7 ∷ 9 ∷ 10 ∷ 13 ∷ 16 ∷ []) (1 * 2 ^ 33) powers.1.1.1.1.1.1.0 (itself generator 33))

no-4681 : One generator 4681 → ⊥
unfolding shifts register_of digits_of
no-4681 =
    let rs : List ℕ = 2 ∷ 3 ∷ 4 ∷ 6 ∷ 7 ∷ 8 ∷ 9 ∷ 16 ∷ [] in
    let ss : List ℕ = 1 ∷ 2 ∷ 3 ∷ 4 ∷ 5 ∷ 7 ∷ 9 ∷ 11 ∷ 12 ∷ 13 ∷ 15 ∷ 16 ∷ [] in
    not-one 4681 (sum ss (sum rs (1 * 2 ^ 73))) 106 (lit< tt) refl
    (further generator 4096 585 ss (sum rs (1 * 2 ^ 73)) powers.1.1.1.1.1.1.1.1.0
    (further generator 512 73 rs (1 * 2 ^ 73) powers.1.1.1.1.1.0 (itself generator 73)))

-- what divides 32,767, below n
unfoldable divisors : ℕ → List ℕ
divisors zero = []
divisors (suc d) = cond (eqb (reach % d) 0) (d ∷ divisors d) (divisors d)

-- a number of a list
abbrev In : ℕ → List ℕ → Type 0
In d [] = ⊥
In d (x ∷ xs) = (d ≡ x) ⊎ In d xs

divisor-in : (n d : ℕ) → d < n → reach % d ≡ 0 → In d (divisors n)
unfolding divisors
divisor-in zero d h z = absurd (not-suc-le-zero h)
divisor-in (suc n) d h z = pick (dec_lt d n) (λ k. divisor-in n d k z)
  where
    later : (t : Bool) → In d (divisors n) → In d (cond t (n ∷ divisors n) (divisors n))
    later true x = inr x
    later false x = x

    pick : Dec (d < n) → (d < n → In d (divisors n)) → In d (cond (eqb (reach % n) 0) (n ∷ divisors n) (divisors n))
    pick (yes k) f = later (eqb (reach % n) 0) (f k)
    pick (no k) f =
        let e : d ≡ n = omega arith in
        subst (λ (t : Bool). In d (cond t (n ∷ divisors n) (divisors n))) (sym (eq-eqb _ _ (ap (λ (x : ℕ). reach % x) (sym e) ∙ z))) (inl e)

-- it divides 217, 1,057 or 4,681
pub generator-apart : Apart generator reach
unfolding divisors
generator-apart = least generator generator-odd reach last_one small
  where
    low : (m : ℕ) → In m (217 ∷ 151 ∷ 31 ∷ 7 ∷ 1 ∷ []) → One generator m → ⊥
    low m (inl e) x = no-217 (subst (One generator) e x)
    low m (inr (inl e)) x = no-1057 (subst (λ (n : ℕ). One generator (7 * n)) e (times-one generator m 7 x))
    low m (inr (inr (inl e))) x = no-217 (subst (λ (n : ℕ). One generator (7 * n)) e (times-one generator m 7 x))
    low m (inr (inr (inr (inl e)))) x = no-217 (subst (λ (n : ℕ). One generator (31 * n)) e (times-one generator m 31 x))
    low m (inr (inr (inr (inr (inl e))))) x = no-217 (subst (λ (n : ℕ). One generator (217 * n)) e (times-one generator m 217 x))
    low m (inr (inr (inr (inr (inr z))))) x = elim z [ ]

    high : (c m : ℕ) → 218 ≤ m → m < reach → c * m ≡ reach → In c (217 ∷ 151 ∷ 31 ∷ 7 ∷ 1 ∷ []) → One generator m → ⊥
    high c m h l e (inl f) x = let p : 217 * m ≡ reach = subst (λ (n : ℕ). n * m ≡ reach) f e in omega arith
    high c m h l e (inr (inl f)) x = let p : 151 * m ≡ reach = subst (λ (n : ℕ). n * m ≡ reach) f e in omega arith
    high c m h l e (inr (inr (inl f))) x =
        let p : 31 * m ≡ reach = subst (λ (n : ℕ). n * m ≡ reach) f e in
        let q : m ≡ 1057 = omega arith in
        no-1057 (subst (One generator) q x)
    high c m h l e (inr (inr (inr (inl f)))) x =
        let p : 7 * m ≡ reach = subst (λ (n : ℕ). n * m ≡ reach) f e in
        let q : m ≡ 4681 = omega arith in
        no-4681 (subst (One generator) q x)
    high c m h l e (inr (inr (inr (inr (inl f))))) x = let p : 1 * m ≡ reach = subst (λ (n : ℕ). n * m ≡ reach) f e in omega arith
    high c m h l e (inr (inr (inr (inr (inr z))))) x = elim z [ ]

    small : (m : ℕ) → 1 ≤ m → m < reach → reach % m ≡ 0 → One generator m → ⊥
    small m h l z x = pick (dec_lt m 218)
      where
        pick : Dec (m < 218) → ⊥
        pick (yes k) = low m (divisor-in 218 m k z) x
        pick (no k) =
            let c = reach / m in
            let e : c * m ≡ reach = omega (arith, div-add-mod' reach m) in
            let d = m - 218 in
            let f : 218 + d ≡ m = omega arith in
            let p : 218 * c + d * c ≡ reach = sym (add-mul 218 d c) ∙ ap (λ (n : ℕ). n * c) f ∙ mul_comm m c ∙ e in
            let q : reach % c ≡ 0 = ap (λ (n : ℕ). n % c) (sym e) ∙ mul-mod_right c m in
            high c m (omega arith) l e (divisor-in 218 c (omega arith) q) x

-- 32,767 is the order of D: two bits so far apart go unseen, and no two that are nearer
pub generator-order : Order generator reach
generator-order = let e : 32767 ≡ reach = refl in record { one = subst (One generator) e last_one; apart = generator-apart }
