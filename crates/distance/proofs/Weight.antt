-- How many ones a list of bits has, and its polynomial: none, two, or an odd number. Assumes nothing.
use mathlib.Core.Path.{◌≡◌, refl, sym, ap, ap₂, ◌∙◌, subst}
use mathlib.Core.Bool.{true, false}
use mathlib.Core.List.{List, [], ◌∷◌}
use Prim.Native.Nat.{ℕ, zero, suc, ◌+◌, ◌-◌, ◌*◌, ◌%◌, ◌^◌, ◌≤◌, ◌<◌}
use native.Mathlib.Nat.{pow-suc, suc-mul, add-mul}
use native.Mathlib.Omega.{arith}
use lib.Bits.{bit_xor, xor_self, xor_zero_l, xor_shifted}
use lib.Dec.{lit≤, lit<}
use lib.ListN.{length}
use lib.Pow.{pow_pos, pow-add}
use Rattle.octets.specs.Bits.{value_of}
use Rattle.octets.proofs.Digits.{Bits}
use Rattle.octets.proofs.Xor.{xor_assoc, xor-swap, dbl, bit, no-two}
use Rattle.remainder.specs.Division.{times, polynomial, Degree, Multiple, generator}
use Rattle.remainder.proofs.Division.{small-multiple}
use Rattle.remainder.proofs.Errors.{polynomial-cons, polynomial-lt, sum-multiple}
use Rattle.distance.proofs.Multiples.{none, twice, through}
use Rattle.distance.proofs.Between.{ones}

-- a 0 in front adds nothing, and a 1 its power of D
zero-first : (e : List ℕ) → polynomial (0 ∷ e) ≡ polynomial e
zero-first e = polynomial-cons 0 e ∙ omega arith

one-first : (e : List ℕ) → polynomial (1 ∷ e) ≡ 2 ^ length e + polynomial e
one-first e = polynomial-cons 1 e ∙ omega arith

-- ---- none, one, two

-- where nothing adds up there is none
pub no_ones : (e : List ℕ) → polynomial e ≡ 0 → ones e ≡ 0
unfolding ones
no_ones [] z = refl
no_ones (zero ∷ e) z = omega (arith, no_ones e (sym (zero-first e) ∙ z))
no_ones (suc x ∷ e) z = absurd (omega (arith, polynomial-cons (suc x) e, suc-mul x (2 ^ length e), pow_pos (length e)))

-- and back
zero-ones : (e : List ℕ) → Bits e → ones e ≡ 0 → polynomial e ≡ 0
unfolding ones value_of
zero-ones [] h z = refl
zero-ones (zero ∷ e) h z = zero-first e ∙ zero-ones e (λ i. h (suc i)) (omega arith)
zero-ones (suc x ∷ e) h z = absurd (omega arith)

-- a single 1: the power of D that it adds
record One (e : List ℕ) : Type 0 where
  power : ℕ
  within : power < length e
  alone : polynomial e ≡ 2 ^ power

one-one : (e : List ℕ) → Bits e → ones e ≡ 1 → One e
unfolding ones
one-one [] h o = absurd (omega arith)
one-one (zero ∷ e) h o =
    let r = one-one e (λ i. h (suc i)) (omega arith) in
    record { power = r.power; within = omega (arith, r.within); alone = zero-first e ∙ r.alone }
one-one (suc zero ∷ e) h o =
    record { power = length e; within = omega arith; alone = one-first e ∙ omega (arith, zero-ones e (λ i. h (suc i)) (omega arith)) }
one-one (suc (suc x) ∷ e) h o = no-two x (h 0)

-- two ones: how far they lie apart, and the power of D of the last
pub record Two (e : List ℕ) : Type 0 where
  pub far : ℕ
  pub power : ℕ
  pub some : 1 ≤ far
  pub within : far < length e
  pub both : polynomial e ≡ (2 ^ far + 1) * 2 ^ power

pub two-ones : (e : List ℕ) → Bits e → ones e ≡ 2 → Two e
unfolding ones
two-ones [] h o = absurd (omega arith)
two-ones (zero ∷ e) h o =
    let r = two-ones e (λ i. h (suc i)) (omega arith) in
    record { far = r.far; power = r.power; some = r.some; within = omega (arith, r.within); both = zero-first e ∙ r.both }
two-ones (suc zero ∷ e) h o =
    let r = one-one e (λ i. h (suc i)) (omega arith) in
    let j = r.power in
    let k = length e - j in
    let n : length e ≡ k + j = omega (arith, r.within) in
    record {
      far = k;
      power = j;
      some = omega (arith, r.within);
      within = omega arith;
      both = one-first e ∙ ap₂ (λ (x y : ℕ). x + y) (ap (λ (m : ℕ). 2 ^ m) n ∙ pow-add 2 k j) r.alone ∙ factored (2 ^ k) (2 ^ j);
    }
  where
    factored : (a b : ℕ) → a * b + b ≡ (a + 1) * b
    factored a b = omega (arith, add-mul a 1 b)
two-ones (suc (suc x) ∷ e) h o = no-two x (h 0)

-- ---- where D + 1 divides a polynomial, its ones are even

-- D^n is 1, but for a multiple of D + 1
power-one : (n : ℕ) → Multiple 3 (bit_xor (2 ^ n) 1)
unfolding times
power-one zero = none 3
power-one (suc n) =
    let e : bit_xor (bit_xor (2 ^ n) 1 * 2) 3 ≡ bit_xor (2 ^ suc n) 1 =
    ap (λ (x : ℕ). bit_xor x 3) (dbl (2 ^ n) 1) ∙ xor_assoc (2 ^ n * 2) 2 3 ∙ ap (λ (x : ℕ). bit_xor x 1) (sym (pow-suc 2 n)) in
    let itself : Multiple 3 3 = record { quotient = true ∷ []; product = refl } in
    subst (Multiple 3) e (sum-multiple 3 (bit_xor (2 ^ n) 1 * 2) 3 (twice 3 (bit_xor (2 ^ n) 1) (power-one n)) itself)

-- so a polynomial is 0 or 1 as its ones are even or odd, but for such a multiple
weighed : (e : List ℕ) → Bits e → Multiple 3 (bit_xor (polynomial e) (ones e % 2))
unfolding ones value_of
weighed [] h = none 3
weighed (zero ∷ e) h =
    let n : 0 + ones e ≡ ones e = omega arith in
    subst (Multiple 3) (sym (ap₂ (λ (x y : ℕ). bit_xor x (y % 2)) (zero-first e) n)) (weighed e (λ i. h (suc i)))
weighed (suc zero ∷ e) h =
    let P = polynomial e in
    let x = ones e % 2 in
    let one : 1 * 2 ^ length e ≡ 2 ^ length e = omega arith in
    let p : polynomial (1 ∷ e) ≡ bit_xor (2 ^ length e) P =
    polynomial-cons 1 e ∙ sym (xor_shifted 1 (length e) P (polynomial-lt e (λ i. h (suc i)))) ∙ ap (λ (m : ℕ). bit_xor m P) one in
    let s : (1 + ones e) % 2 ≡ (1 + x) % 2 = omega arith in
    subst (Multiple 3) (xor-swap (2 ^ length e) 1 P x ∙ sym (ap₂ bit_xor p (s ∙ other x (bit (ones e)))))
    (sum-multiple 3 (bit_xor (2 ^ length e) 1) (bit_xor P x) (power-one (length e)) (weighed e (λ i. h (suc i))))
  where
    other : (x : ℕ) → x < 2 → (1 + x) % 2 ≡ bit_xor 1 x
    other zero h = refl
    other (suc zero) h = refl
    other (suc (suc x)) h = no-two x h
weighed (suc (suc x) ∷ e) h = no-two x (h 0)

even-ones : (e : List ℕ) → Bits e → Multiple 3 (polynomial e) → ones e % 2 ≡ 0
even-ones e h m =
    let P = polynomial e in
    let x = ones e % 2 in
    let c : bit_xor P (bit_xor P x) ≡ x = sym (xor_assoc P P x) ∙ ap (λ (y : ℕ). bit_xor y x) (xor_self P) ∙ xor_zero_l x in
    let q = subst (Multiple 3) c (sum-multiple 3 P (bit_xor P x) m (weighed e h)) in
    let d : Degree 3 1 = record { reached = lit≤ tt; within = lit< tt } in
    q.product ∙ small-multiple 1 3 d q.quotient (subst (λ (n : ℕ). n < 2) q.product (bit (ones e)))

-- so where D + 1 divides a generator, its multiples have an even number of ones
pub multiple-even : (g : ℕ) → Multiple 3 g → (e : List ℕ) → Bits e → Multiple g (polynomial e) → ones e % 2 ≡ 0
multiple-even g v e h m = even-ones e h (through 3 g (polynomial e) v m)

-- the generator of SCOPE is (D + 1) (D^15 + D^14 + D^13 + D^12 + D^4 + D^3 + D^2 + D + 1)
pub generator-even : Multiple 3 generator
unfolding times
generator-even =
    record {
      quotient = true ∷ true ∷ true ∷ true ∷ true ∷ false ∷ false ∷ false ∷ false ∷ false ∷ false ∷ false ∷ true ∷ true ∷ true ∷ true ∷ [];
      product = refl;
    }
