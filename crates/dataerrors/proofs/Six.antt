-- Two lists of bits leave the same check bits exactly where what lies between them is a multiple of the generator; modulo X^6 + X + 1 the order of
-- X is 63, so two bits turned over go unseen exactly where they stand a multiple of 63 apart. Assumes nothing.
use mathlib.Core.Path.{◌≡◌, refl, sym, ap, ap₂, ◌∙◌, subst}
use mathlib.Core.Bool.{Bool, true, false, not, ◌&&◌, ◌||◌}
use mathlib.Core.Logic.{◌⊎◌, inl, inr}
use mathlib.Core.List.{List, []}
use Prim.Native.Nat.{ℕ, zero, suc, ◌+◌, ◌-◌, ◌*◌, ◌/◌, ◌%◌, ◌^◌, ◌≤◌, ◌<◌}
use native.Mathlib.Nat.{not-suc-le-zero, le_of_suc-le-suc, eq-or-lt_of_le, div-add-mod', mod-lt}
use native.Mathlib.Omega.{arith}
use borrow.Author.Tests.{eqb-true, eqb-false, not-true}
use lib.Bits.{bit_xor, xor_lt, xor_comm, xor_self, xor_zero_r, xor_zero_l}
use lib.Dec.{eqb, lit≤, lit<}
use lib.ListN.{length}
use lib.Pow.{pow-add, pow-lt}
use Rattle.octets.specs.Bits.{digits_of, value_of}
use Rattle.octets.proofs.Digits.{Bits, nil-bits, digits-bits, reverse_bits}
use Rattle.octets.proofs.Xor.{xor_assoc, xor-swap, shl-xor, mid}
use Rattle.remainder.specs.Division.{times, polynomial, check_bits, Degree, Multiple}
use Rattle.remainder.specs.Register.{register_of}
use Rattle.remainder.specs.Errors.{flipped}
use Rattle.remainder.proofs.Division.{exists, computed, add, distrib}
use Rattle.remainder.proofs.Errors.{flipped-bits, check-value, polynomial-flipped, sum-multiple, unshifted, no_power}
use Rattle.remainder.proofs.Quotient.{shl-multiple}
use Rattle.distance.specs.Errors.{Same, Order, BurstBits}
use Rattle.distance.proofs.Multiples.{none}
use Rattle.distance.proofs.Seen.{burst-differ}
use Rattle.dataframe.specs.Frame.{six_generator}
use Rattle.dataframe.proofs.Order.{six-degree}
use Rattle.answer.proofs.Order.{both}
use Rattle.dataerrors.specs.Errors.{turn, longest}
use Rattle.dataerrors.proofs.Turned.{flipped-length}

-- ---- any generator

module _ (k g : ℕ) (hk : 1 ≤ k) (d : Degree g k) (o : g % 2 ≡ 1) (m n : List ℕ) (hm : Bits m) (hn : Bits n) where
  abbrev M : ℕ
  M = polynomial m

  abbrev N : ℕ
  N = polynomial n

  -- lists that leave the same
  pub same_of : register_of k g 0 m ≡ register_of k g 0 n → Same g m n
  same_of e =
      let p = exists k g hk d m hm in
      let q = exists k g hk d n hn in
      let T = times p.quotient g in
      let U = times q.quotient g in
      let r = register_of k g 0 m in
      unshifted g o (bit_xor M N) k (record {
        quotient = add p.quotient q.quotient;
        product =
            shl-xor k M N ∙ ap₂ bit_xor p.divided (q.divided ∙ ap (bit_xor U) (sym e)) ∙ xor-swap T r U r ∙ ap (bit_xor (bit_xor T U)) (xor_self r)
            ∙ xor_zero_r (bit_xor T U) ∙ distrib p.quotient q.quotient g;
      })

  -- and back
  pub of-same : Same g m n → register_of k g 0 m ≡ register_of k g 0 n
  of-same s =
      let p = exists k g hk d m hm in
      let q = shl-multiple g (bit_xor M N) k s in
      let T = times p.quotient g in
      let U = times q.quotient g in
      let r = register_of k g 0 m in
      let a = M * 2 ^ k in
      let b = N * 2 ^ k in
      let sum : bit_xor (bit_xor a b) a ≡ b =
      xor_comm (bit_xor a b) a ∙ sym (xor_assoc a a b) ∙ ap (λ (x : ℕ). bit_xor x b) (xor_self a) ∙ xor_zero_l b in
      computed k g hk d n r hn (record {
        quotient = add q.quotient p.quotient;
        divided =
            sym sum ∙ ap₂ bit_xor (sym (shl-xor k M N) ∙ q.product) p.divided ∙ sym (xor_assoc U T r)
            ∙ ap (λ (x : ℕ). bit_xor x r) (distrib q.quotient p.quotient g);
        below = p.below;
      })

-- ---- two bits turned over

-- it adds two powers of X
pub two-sum : (m : List ℕ) (i j : ℕ) → Bits m → i < j → j < length m
    → bit_xor (polynomial m) (polynomial (flipped (flipped m i) j)) ≡ bit_xor (2 ^ (j - i)) 1 * 2 ^ (length m - 1 - j)
two-sum m i j h u l =
    let a = length m - 1 - i in
    let b = length m - 1 - j in
    let P = polynomial m in
    let e : length (flipped m i) - 1 - j ≡ b = ap (λ (n : ℕ). n - 1 - j) (flipped-length m i) in
    let f : a ≡ (j - i) + b = omega arith in
    let one : 1 * 2 ^ b ≡ 2 ^ b = omega arith in
    ap (bit_xor P) (polynomial-flipped (flipped m i) j (flipped-bits m i h) (subst (λ (n : ℕ). j < n) (sym (flipped-length m i)) l)
    ∙ ap₂ (λ (x y : ℕ). bit_xor x (2 ^ y)) (polynomial-flipped m i h (omega arith)) e ∙ xor_assoc P (2 ^ a) (2 ^ b))
    ∙ sym (xor_assoc P P (bit_xor (2 ^ a) (2 ^ b))) ∙ ap (λ (x : ℕ). bit_xor x (bit_xor (2 ^ a) (2 ^ b))) (xor_self P) ∙ xor_zero_l (bit_xor (2 ^ a) (2 ^ b))
    ∙ ap₂ bit_xor (ap (λ (n : ℕ). 2 ^ n) f ∙ pow-add 2 (j - i) b) (sym one) ∙ sym (shl-xor b (2 ^ (j - i)) 1)

-- ---- the generator of the six

pub six-odd : six_generator % 2 ≡ 1
six-odd = refl

-- X^m leaves 1
abbrev One : ℕ → Type 0
One m = Multiple six_generator (bit_xor (2 ^ m) 1)

left : ℕ → ℕ
left n = register_of 6 six_generator 0 (check_bits 64 n)

-- a number is a multiple exactly where nothing is left of it
module _ (n : ℕ) (h : n < 2 ^ 64) where
  abbrev bs : List ℕ
  bs = check_bits 64 n

  bs-bits : Bits bs
  bs-bits = reverse_bits (digits_of 64 n) (digits-bits 64 n)

  between : bit_xor (polynomial bs) (polynomial []) ≡ n
  unfolding value_of
  between = xor_zero_r (polynomial bs) ∙ check-value 64 n h

  come-out : left n ≡ 0 → Multiple six_generator n
  unfolding register_of left
  come-out e = subst (Multiple six_generator) between (same_of 6 six_generator (lit≤ tt) six-degree six-odd bs [] bs-bits nil-bits e)

  come-back : Multiple six_generator n → left n ≡ 0
  unfolding register_of left
  come-back e = of-same 6 six_generator (lit≤ tt) six-degree six-odd bs [] bs-bits nil-bits (subst (Multiple six_generator) (sym between) e)

-- what X^63 leaves is 1, and X to X^62 leave something else: tried
tried : ℕ → Bool
tried zero = true
tried (suc m) = (eqb m 0 || not (eqb (left (bit_xor (2 ^ m) 1)) 0)) && tried m

all-tried : tried 63 ≡ true
unfolding tried left register_of digits_of
all-tried = refl

last_one : One 63
unfolding left register_of digits_of
last_one = come-out (bit_xor (2 ^ 63) 1) (lit< tt) refl

six-apart : (n m : ℕ) → n ≤ 63 → tried n ≡ true → 1 ≤ m → m < n → One m → ⊥
unfolding tried
six-apart zero m w e h l x = not-suc-le-zero l
six-apart (suc n) m w e h l x =
    let b = both (eqb n 0 || not (eqb (left (bit_xor (2 ^ n) 1)) 0)) (tried n) e in
    pick (eq-or-lt_of_le (le_of_suc-le-suc l)) b.0 (λ f. six-apart n m (omega arith) b.1 h f x)
  where
    small : (n : ℕ) → n ≤ 62 → bit_xor (2 ^ n) 1 < 2 ^ 64
    small n w = let l : n < 64 = omega arith in xor_lt 64 (2 ^ n) 1 (pow-lt l) (lit< tt)

    other : (t : Bool) → eqb n 0 ≡ t → 1 ≤ n → (t || not (eqb (left (bit_xor (2 ^ n) 1)) 0)) ≡ true → eqb (left (bit_xor (2 ^ n) 1)) 0 ≡ false
    other true f g c = absurd (omega (arith, eqb-true n 0 f))
    other false f g c = not-true _ c

    pick : (m ≡ n) ⊎ (m < n) → (eqb n 0 || not (eqb (left (bit_xor (2 ^ n) 1)) 0)) ≡ true → (m < n → ⊥) → ⊥
    pick (inl f) c g =
        eqb-false (left (bit_xor (2 ^ n) 1)) 0 (other (eqb n 0) refl (omega arith) c)
        (come-back (bit_xor (2 ^ n) 1) (small n (omega arith)) (subst One f x))
    pick (inr f) c g = g f

-- 63 is the order of X
pub six-order : Order six_generator turn
six-order = record { one = last_one; apart = λ m h l x. six-apart 63 m (omega arith) all-tried h l x }

-- powers in two steps
steps : (a b : ℕ) → bit_xor (bit_xor (2 ^ a) 1 * 2 ^ b) (bit_xor (2 ^ b) 1) ≡ bit_xor (2 ^ (a + b)) 1
steps a b =
    let one : 1 * 2 ^ b ≡ 2 ^ b = omega arith in
    ap (λ (y : ℕ). bit_xor y (bit_xor (2 ^ b) 1)) (shl-xor b (2 ^ a) 1 ∙ ap₂ bit_xor (sym (pow-add 2 a b)) one) ∙ mid (2 ^ (a + b)) (2 ^ b) 1

-- so every multiple of 63 leaves 1
turns-one : (q : ℕ) → One (q * turn)
turns-one zero = none six_generator
turns-one (suc q) =
    let e : q * turn + turn ≡ suc q * turn = omega arith in
    subst One e (subst (Multiple six_generator) (steps (q * turn) turn)
    (sum-multiple six_generator (bit_xor (2 ^ (q * turn)) 1 * 2 ^ turn) (bit_xor (2 ^ turn) 1)
    (shl-multiple six_generator (bit_xor (2 ^ (q * turn)) 1) turn (turns-one q)) six-order.one))

pub is_one : (m : ℕ) → m % turn ≡ 0 → One m
is_one m e = let f : m / turn * turn ≡ m = omega (arith, div-add-mod' m turn) in subst One f (turns-one (m / turn))

-- and no other power does
pub one-is : (m : ℕ) → One m → m % turn ≡ 0
one-is m x = pick (m % turn) refl
  where
    q : ℕ
    q = m / turn * turn

    rest : One (m % turn)
    rest =
        let r = m % turn in
        let A = bit_xor (2 ^ q) 1 * 2 ^ r in
        let e : q + r ≡ m = omega (arith, div-add-mod' m turn) in
        let f : bit_xor A (bit_xor (2 ^ m) 1) ≡ bit_xor (2 ^ r) 1 =
        ap (λ (n : ℕ). bit_xor A (bit_xor (2 ^ n) 1)) (sym e) ∙ ap (bit_xor A) (sym (steps q r)) ∙ sym (xor_assoc A A (bit_xor (2 ^ r) 1))
        ∙ ap (λ (y : ℕ). bit_xor y (bit_xor (2 ^ r) 1)) (xor_self A) ∙ xor_zero_l (bit_xor (2 ^ r) 1) in
        subst (Multiple six_generator) f
        (sum-multiple six_generator A (bit_xor (2 ^ m) 1) (shl-multiple six_generator (bit_xor (2 ^ q) 1) r (turns-one (m / turn))) x)

    pick : (r : ℕ) → m % turn ≡ r → m % turn ≡ 0
    pick zero e = e
    pick (suc r) e = absurd (six-order.apart (m % turn) (omega arith) (mod-lt m (omega arith)) rest)

-- ---- what the six see

module _ (m : List ℕ) (i j : ℕ) (h : Bits m) (u : i < j) (l : j < length m) where
  abbrev m' : List ℕ
  m' = flipped (flipped m i) j

  m'-bits : Bits m'
  m'-bits = flipped-bits (flipped m i) j (flipped-bits m i h)

  -- two bits a multiple of 63 apart go unseen
  pub two-unseen : (j - i) % turn ≡ 0 → register_of 6 six_generator 0 (flipped (flipped m i) j) ≡ register_of 6 six_generator 0 m
  two-unseen e =
      sym (of-same 6 six_generator (lit≤ tt) six-degree six-odd m m' h m'-bits
      (subst (Multiple six_generator) (sym (two-sum m i j h u l)) (shl-multiple six_generator (bit_xor (2 ^ (j - i)) 1) (length m - 1 - j) (is_one (j - i) e))))

  -- and no other two
  pub two-seen : register_of 6 six_generator 0 (flipped (flipped m i) j) ≡ register_of 6 six_generator 0 m → (j - i) % turn ≡ 0
  two-seen e =
      one-is (j - i) (unshifted six_generator six-odd (bit_xor (2 ^ (j - i)) 1) (length m - 1 - j)
      (subst (Multiple six_generator) (two-sum m i j h u l) (same_of 6 six_generator (lit≤ tt) six-degree six-odd m m' h m'-bits (sym e))))

-- any one bit is seen
pub one_seen : (m : List ℕ) (i : ℕ) → Bits m → i < length m → register_of 6 six_generator 0 (flipped m i) ≡ register_of 6 six_generator 0 m → ⊥
one_seen m i h l e =
    let P = polynomial m in
    let a = length m - 1 - i in
    let f : bit_xor P (polynomial (flipped m i)) ≡ 2 ^ a =
    ap (bit_xor P) (polynomial-flipped m i h l) ∙ sym (xor_assoc P P (2 ^ a)) ∙ ap (λ (n : ℕ). bit_xor n (2 ^ a)) (xor_self P) ∙ xor_zero_l (2 ^ a) in
    no_power 6 six_generator (lit≤ tt) six-degree six-odd a
    (subst (Multiple six_generator) f (same_of 6 six_generator (lit≤ tt) six-degree six-odd m (flipped m i) h (flipped-bits m i h) (sym e)))

-- any number of bits within six in a row
pub burst-seen : (m n : List ℕ) → length m ≡ length n → Bits m → Bits n → BurstBits longest m n
    → register_of 6 six_generator 0 m ≡ register_of 6 six_generator 0 n → ⊥
burst-seen m n l h k f e =
    burst-differ six_generator six-odd m n l h k 6 six-degree longest (omega arith) f
    (same_of 6 six_generator (lit≤ tt) six-degree six-odd m n h k e)
