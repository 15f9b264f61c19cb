-- The register 64 bits at a time, for any generator with a constant term: its terms as shifts (Sums.antt). A word stands for all bits before it where the
-- two have the same remainder; the word 64 bits further on is what a power of the generator leaves of it. Assumes nothing.
use mathlib.Core.Path.{◌≡◌, refl, sym, ap, ap₂, subst, ◌∙◌}
use mathlib.Core.Bool.{true, false}
use mathlib.Core.List.{List, [], ◌∷◌, ◌++◌, append_assoc}
use Prim.Native.Nat.{ℕ, zero, suc, ◌+◌, ◌-◌, ◌*◌, ◌/◌, ◌%◌, ◌^◌, ◌≤◌, ◌<◌}
use native.Mathlib.Nat.{mul_assoc, pow-suc, div-one, mod-eq_of_lt, div-eq_of_lt}
use native.Mathlib.Omega.{arith}
use lib.Arith.{bin_ind}
use lib.Bits.{bit_xor, bit_or, or_mod, or_shifted, xor_comm, xor_zero_r, xor_zero_l, xor_self, xor_lt, xor_shifted}
use lib.Dec.{lit≤}
use lib.ListN.{length, get_or, take, drop}
use lib.Pow.{pow-add, pow_pos, shr_lt}
use Rattle.octets.specs.Bits.{digits_of, bits_of, bit_of, part}
use Rattle.octets.proofs.Digits.{Bits, append_bits, digits-bits, digits-length, digits-mod-pow, take-bits, drop_bits, turned_lt}
use Rattle.octets.proofs.Laws.{bits-bits, part-bits, part-next}
use Rattle.octets.proofs.Words.{digits-cut, digits-join, part-more}
use Rattle.octets.proofs.Turn.{turn_of, turn-xor, turn-turn}
use Rattle.octets.proofs.Xor.{xor_assoc, shl-xor, back, mid}
use Rattle.octets.proofs.Sums.{sum, shifts, doubled, sum-xor, sum-shl, sum_twice, Solves, solves-far, solves-root, near, coded, coded-sum, sum_near, mirror, turn-long, turned-sum, solved, within-le}
use Rattle.remainder.specs.Division.{times, polynomial, Degree, Multiple, generator}
use Rattle.remainder.specs.Register.{step_of, register_of}
use Rattle.remainder.proofs.Division.{add, distrib, step-lt, exists, exists-from, left_unique, unique, register-append}
use Rattle.remainder.proofs.Errors.{polynomial-append, generator-degree}

-- ---- multiples

-- times a power of D
pub shl-multiple : (g n i : ℕ) → Multiple g n → Multiple g (n * 2 ^ i)
unfolding times
shl-multiple g n zero m = let one : n ≡ n * 1 = omega arith in subst (Multiple g) one m
shl-multiple g n (suc i) m =
    let d = shl-multiple g n i m in
    record {
      quotient = false ∷ d.quotient;
      product =
          ap (λ (x : ℕ). n * x) (pow-suc 2 i) ∙ sym (mul_assoc n (2 ^ i) 2) ∙ ap (λ (x : ℕ). x * 2) d.product ∙ sym (xor_zero_r (times d.quotient g * 2));
    }

-- a sum of shifts, whatever it is of: of the polynomial that the shifts are the powers of
pub sum-times : (gs : List ℕ) (v : ℕ) → Multiple (sum gs 1) (sum gs v)
unfolding times
sum-times gs =
    bin_ind (λ (v : ℕ). Multiple (sum gs 1) (sum gs v)) (record { quotient = []; product = none })
    (λ v m. more v m (v % 2) refl)
  where
    none : sum gs 0 ≡ 0
    none = let e : sum gs 0 ≡ sum gs 0 * 2 = sum-shl gs 1 0 in omega arith

    halves : (v c : ℕ) → v % 2 ≡ c → sum gs v ≡ bit_xor (sum gs (v / 2) * 2) (sum gs c)
    halves v c e =
        let p : v ≡ v / 2 * 2 + c = omega arith in
        let lt : c < 2 = omega arith in
        ap (sum gs) (p ∙ sym (xor_shifted (v / 2) 1 c lt)) ∙ sum-xor gs (v / 2 * 2) c ∙ ap (λ (x : ℕ). bit_xor x (sum gs c)) (sum-shl gs 1 (v / 2))

    more : (v : ℕ) → Multiple (sum gs 1) (sum gs (v / 2)) → (c : ℕ) → v % 2 ≡ c → Multiple (sum gs 1) (sum gs v)
    more v m zero e =
        record { quotient = false ∷ m.quotient; product = halves v 0 e ∙ ap₂ (λ (x y : ℕ). bit_xor (x * 2) y) m.product none }
    more v m (suc zero) e =
        record { quotient = true ∷ m.quotient; product = halves v 1 e ∙ ap (λ (x : ℕ). bit_xor (x * 2) (sum gs 1)) m.product }
    more v m (suc (suc c)) e = absurd (omega arith)

-- ---- a register that starts at zero passes zeros over

-- the n low digits of a word, moved up to its end: zeros come before them
digits_up : (n x : ℕ) → n ≤ 64 → digits_of 64 (x * 2 ^ (64 - n) % 2 ^ 64) ≡ digits_of (64 - n) 0 ++ digits_of n x
digits_up n x h =
    let j = 64 - n in
    let c : 64 ≡ j + n = omega arith in
    let none : x * 2 ^ j ≡ x * 2 ^ j + 0 = omega arith in
    digits-mod-pow 64 (x * 2 ^ j) ∙ ap (digits_of 64) none ∙ digits-join j n 64 x 0 c (pow_pos j)

module _ (k g : ℕ) where
  step-zero : step_of k g 0 0 ≡ 0
  step-zero =
      let G = g % 2 ^ k in
      let none : 0 * G ≡ 0 = omega arith in
      ap₂ (λ (x y : ℕ). bit_xor x (bit_xor y 0 * G)) (mod-eq_of_lt (pow_pos k)) (div-eq_of_lt (pow_pos (k - 1))) ∙ ap (bit_xor 0) none

  pub zeros-over : (n : ℕ) (bs : List ℕ) → register_of k g 0 (digits_of n 0 ++ bs) ≡ register_of k g 0 bs
  unfolding register_of digits_of
  zeros-over zero bs = refl
  zeros-over (suc n) bs = ap (λ (r : ℕ). register_of k g r (digits_of n 0 ++ bs)) step-zero ∙ zeros-over n bs

  pub up-over : (n x : ℕ) → n ≤ 64 → register_of k g 0 (digits_of 64 (x * 2 ^ (64 - n) % 2 ^ 64)) ≡ register_of k g 0 (digits_of n x)
  up-over n x h = ap (register_of k g 0) (digits_up n x h) ∙ zeros-over (64 - n) (digits_of n x)

-- ---- words that stand for bits

-- a start, turned, as the first of n bits: it stands n - k powers up
pub start_first : (k n r : ℕ) → k ≤ n → r < 2 ^ k → turn_of n (turn_of k r) * 2 ^ k ≡ r * 2 ^ n
start_first k n r h l =
    let j = n - k in
    let c : k + j ≡ n = omega arith in
    let c' : j + k ≡ n = omega arith in
    ap (λ (x : ℕ). x * 2 ^ k)
    (ap (λ (m : ℕ). turn_of m (turn_of k r)) (sym c) ∙ turn-long k j (turn_of k r) (turned_lt k r) ∙ ap (λ (x : ℕ). x * 2 ^ j) (turn-turn k r l))
    ∙ mul_assoc r (2 ^ j) (2 ^ k) ∙ ap (λ (x : ℕ). r * x) (sym (pow-add 2 j k) ∙ ap (λ (m : ℕ). 2 ^ m) c')

module _ (k g : ℕ) (hk : 1 ≤ k) (dg : Degree g k) where
  -- the remainder is that of any polynomial that differs by a multiple
  pub same_left : (a b : List ℕ) → Bits a → Bits b → Multiple g (bit_xor (polynomial a) (polynomial b)) → register_of k g 0 a ≡ register_of k g 0 b
  same_left a b ha hb m =
      let A = exists k g hk dg a ha in
      let B = exists k g hk dg b hb in
      let p = polynomial a in
      let q = polynomial b in
      let T = times A.quotient g in
      let r = register_of k g 0 a in
      let M = shl-multiple g (bit_xor p q) k m in
      let e : q * 2 ^ k ≡ bit_xor (times (add A.quotient M.quotient) g) r =
      sym (back-left (p * 2 ^ k) (q * 2 ^ k)) ∙ ap₂ bit_xor A.divided (sym (shl-xor k p q) ∙ M.product) ∙ moved T r (times M.quotient g)
      ∙ ap (λ (x : ℕ). bit_xor x r) (distrib A.quotient M.quotient g) in
      left_unique k g dg (q * 2 ^ k) r (register_of k g 0 b) (add A.quotient M.quotient) B.quotient e B.divided A.below B.below
    where
      back-left : (x y : ℕ) → bit_xor x (bit_xor x y) ≡ y
      back-left x y = sym (xor_assoc x x y) ∙ ap (λ (z : ℕ). bit_xor z y) (xor_self x) ∙ xor_zero_l y

      moved : (x y z : ℕ) → bit_xor (bit_xor x y) z ≡ bit_xor (bit_xor x z) y
      moved x y z = xor_assoc x y z ∙ ap (bit_xor x) (xor_comm y z) ∙ sym (xor_assoc x z y)

  -- a start is the first of n bits changed by it
  pub start-in : (n r w : ℕ) → k ≤ n → r < 2 ^ k → register_of k g r (digits_of n w) ≡ register_of k g 0 (digits_of n (bit_xor w (turn_of k r)))
  start-in n r w h l =
      let A = exists-from k g hk dg r (digits_of n w) (digits-bits n w) l in
      let y = bit_xor w (turn_of k r) in
      let B = exists k g hk dg (digits_of n y) (digits-bits n y) in
      let e : turn_of n y * 2 ^ k ≡ bit_xor (r * 2 ^ n) (turn_of n w * 2 ^ k) =
      ap (λ (x : ℕ). x * 2 ^ k) (turn-xor n w (turn_of k r)) ∙ shl-xor k (turn_of n w) (turn_of n (turn_of k r))
      ∙ ap (bit_xor (turn_of n w * 2 ^ k)) (start_first k n r h l) ∙ xor_comm (turn_of n w * 2 ^ k) (r * 2 ^ n) in
      let f : bit_xor (r * 2 ^ length (digits_of n w)) (turn_of n w * 2 ^ k) ≡ bit_xor (r * 2 ^ n) (turn_of n w * 2 ^ k) =
      ap (λ (m : ℕ). bit_xor (r * 2 ^ m) (turn_of n w * 2 ^ k)) (digits-length n w) in
      left_unique k g dg (turn_of n y * 2 ^ k) (register_of k g r (digits_of n w)) (register_of k g 0 (digits_of n y)) A.quotient B.quotient
      (e ∙ sym f ∙ A.divided) B.divided A.below B.below

  -- the word x, and n bits behind it, moved up to the end of two words
  pub moved_up : (x t n : ℕ) → 1 ≤ n → n < 64 → x < 2 ^ 64
      → register_of k g 0 (digits_of 64 x ++ digits_of n t)
      ≡ register_of k g 0 (digits_of 64 (x * 2 ^ (64 - n) % 2 ^ 64) ++ digits_of 64 (bit_or (t * 2 ^ (64 - n) % 2 ^ 64) (x / 2 ^ n)))
  moved_up x t n h l hx =
      let j = 64 - n in
      let c : 64 ≡ j + n = omega arith in
      let c' : 64 ≡ n + j = omega arith in
      let B = x / 2 ^ n in
      let lB : B < 2 ^ j = shr_lt j n (subst (λ (m : ℕ). x < 2 ^ m) c hx) in
      let low = digits_up n x (omega arith) in
      let high : digits_of 64 (bit_or (t * 2 ^ j % 2 ^ 64) B) ≡ digits_of j B ++ digits_of n t =
      sym (digits-mod-pow 64 (bit_or (t * 2 ^ j % 2 ^ 64) B))
      ∙ ap (digits_of 64) (or_mod (t * 2 ^ j % 2 ^ 64) B 64 ∙ ap (λ (y : ℕ). bit_or y (B % 2 ^ 64)) (mod-mod (t * 2 ^ j)) ∙ sym (or_mod (t * 2 ^ j) B 64))
      ∙ digits-mod-pow 64 (bit_or (t * 2 ^ j) B) ∙ ap (digits_of 64) (or_shifted t j B lB) ∙ digits-join j n 64 t B c lB in
      sym (ap₂ (λ (a b : List ℕ). register_of k g 0 (a ++ b)) low high
      ∙ ap (register_of k g 0) (append_assoc (digits_of j 0) (digits_of n x) (digits_of j B ++ digits_of n t)) ∙ zeros-over k g j (digits_of n x ++ (digits_of j B ++ digits_of n t))
      ∙ ap (register_of k g 0) (sym (append_assoc (digits_of n x) (digits_of j B) (digits_of n t)) ∙ ap (λ (a : List ℕ). a ++ digits_of n t) (sym (digits-cut n j 64 x c'))))
    where
      mod-mod : (y : ℕ) → y % 2 ^ 64 % 2 ^ 64 ≡ y % 2 ^ 64
      mod-mod y = omega arith

  -- a word 64 bits further on: a quotient q by a sum of shifts that is a multiple, turned, and E, which reaches over the word
  module _ (d q X E : ℕ) (es hs : List ℕ) (hd : d ≤ 64) (hq : q < 2 ^ 64) (hX : X < 2 ^ 64) (hE : E < 2 ^ d) (le : (i : ℕ) → get_or (0 ∷ es) i 0 ≤ d)
      (m : mirror d (0 ∷ es) ≡ hs ++ (0 ∷ [])) (mul : (t : ℕ) → Multiple g (sum hs t)) (e : sum es q ≡ bit_xor X (E * 2 ^ 64)) where
    left_over : Multiple g (bit_xor (turn_of 64 X * 2 ^ d) (turn_of d E))
    left_over = subst (Multiple g) (sym (turned-sum 64 d q X E es hs hq hX le m e)) (mul (turn_of 64 q))

    pub further-on : (w : ℕ) → register_of k g 0 (digits_of 64 X ++ digits_of 64 w) ≡ register_of k g 0 (digits_of 64 (bit_xor E w))
    further-on w =
        let j = 64 - d in
        let c : d + j ≡ 64 = omega arith in
        let tX = turn_of 64 X in
        let tw = turn_of 64 w in
        let tE : turn_of d E * 2 ^ j ≡ turn_of 64 E = sym (ap (λ (n : ℕ). turn_of n E) (sym c) ∙ turn-long d j E hE) in
        let up : tX * 2 ^ d * 2 ^ j ≡ tX * 2 ^ 64 = mul_assoc tX (2 ^ d) (2 ^ j) ∙ ap (λ (x : ℕ). tX * x) (sym (pow-add 2 d j) ∙ ap (λ (n : ℕ). 2 ^ n) c) in
        let f : bit_xor (tX * 2 ^ d) (turn_of d E) * 2 ^ j ≡ bit_xor (tX * 2 ^ 64) (turn_of 64 E) = shl-xor j (tX * 2 ^ d) (turn_of d E) ∙ ap₂ bit_xor up tE in
        let a = digits_of 64 X ++ digits_of 64 w in
        let pa : polynomial a ≡ bit_xor (tX * 2 ^ 64) tw =
        polynomial-append (digits_of 64 X) (digits_of 64 w) (digits-bits 64 w) ∙ ap (λ (n : ℕ). bit_xor (tX * 2 ^ n) tw) (digits-length 64 w) in
        let g-is : bit_xor (tX * 2 ^ 64) (turn_of 64 E) ≡ bit_xor (polynomial a) (turn_of 64 (bit_xor E w)) =
        sym (mid (tX * 2 ^ 64) tw (turn_of 64 E)) ∙ ap₂ bit_xor (sym pa) (xor_comm tw (turn_of 64 E) ∙ sym (turn-xor 64 E w)) in
        same_left a (digits_of 64 (bit_xor E w)) (append_bits (digits_of 64 X) (digits_of 64 w) (digits-bits 64 X) (digits-bits 64 w)) (digits-bits 64 (bit_xor E w))
        (subst (Multiple g) (f ∙ g-is) (shl-multiple g (bit_xor (tX * 2 ^ d) (turn_of d E)) j left_over))

    -- where the sum of shifts is the generator itself, E is the register, turned
    pub at-the-end : d ≡ k → turn_of k (register_of k g 0 (digits_of 64 X)) ≡ E
    at-the-end c =
        let M = left_over in
        let r : register_of k g 0 (digits_of 64 X) ≡ turn_of d E =
        unique k g dg (digits_of 64 X) (register_of k g 0 (digits_of 64 X)) (turn_of d E) (exists k g hk dg (digits_of 64 X) (digits-bits 64 X))
        (record {
          quotient = M.quotient;
          divided = ap (λ (n : ℕ). turn_of 64 X * 2 ^ n) (sym c) ∙ sym (back (turn_of 64 X * 2 ^ d) (turn_of d E)) ∙ ap (λ (x : ℕ). bit_xor x (turn_of d E)) M.product;
          below = subst (λ (n : ℕ). turn_of d E < 2 ^ n) c (turned_lt d E);
        }) in
        ap (turn_of k) r ∙ ap (λ (n : ℕ). turn_of n (turn_of d E)) (sym c) ∙ turn-turn d E hE

-- ---- D^16 + D^12 + D^5 + 1

abbrev powers : List ℕ
powers = 16 ∷ 12 ∷ 5 ∷ []

-- turned, without the constant term; squared; and squared again
abbrev pub turned : List ℕ
turned = 4 ∷ 11 ∷ 16 ∷ []

abbrev pub square : List ℕ
square = doubled turned

abbrev pub fourth_power : List ℕ
fourth_power = doubled square

powers-are : sum powers 1 ≡ generator
unfolding shifts
powers-are = refl

powers-multiple : (t : ℕ) → Multiple generator (sum powers t)
powers-multiple t = subst (λ (g : ℕ). Multiple g (sum powers t)) powers-are (sum-times powers t)

fourth-multiple : (t : ℕ) → Multiple generator (sum (doubled (doubled powers)) t)
fourth-multiple t =
    let two = doubled powers in
    subst (Multiple generator) (sum_twice powers (sum two t) ∙ sum_twice two t) (powers-multiple (sum powers (sum two t)))

-- as the code finds the quotients
module _ (x : ℕ) (hx : x < 2 ^ 64) where
  abbrev found : ℕ
  found = coded 64 (coded 64 x (32 ∷ []) x) (16 ∷ 44 ∷ []) (coded 64 x (32 ∷ []) x)

  fourth-found : Solves 64 fourth_power x found
  fourth-found = solves-root 64 fourth_power x (coded 64 x (32 ∷ []) x) (solves-root 64 (doubled fourth_power) x x (solves-far 64 (doubled (doubled fourth_power)) x hx refl))

  pub fourth-is : coded 64 found (16 ∷ 44 ∷ []) found ≡ x
  fourth-is = let s = fourth-found in coded-sum 64 (near 64 fourth_power) found s.0 ∙ sum_near 64 fourth_power found ∙ s.1

  module _ (q : ℕ) (hq : q < 2 ^ 64) (e : coded 64 q (16 ∷ 44 ∷ []) q ≡ x) where
    fourth-solves : Solves 64 fourth_power x q
    fourth-solves = (hq, sym (sum_near 64 fourth_power q) ∙ sym (coded-sum 64 (near 64 fourth_power) q hq) ∙ e)

    pub folded-is : (w : ℕ) → register_of 16 generator 0 (digits_of 64 x ++ digits_of 64 w)
        ≡ register_of 16 generator 0 (digits_of 64 (bit_xor (bit_xor (bit_xor (q / 2 ^ 48) (q / 2 ^ 20)) q) w))
    folded-is w =
        let O = bit_xor (bit_xor (q / 2 ^ 48) (q / 2 ^ 20)) (q / 1) in
        let lt : O < 2 ^ 64 =
        xor_lt 64 (bit_xor (q / 2 ^ 48) (q / 2 ^ 20)) (q / 1) (xor_lt 64 (q / 2 ^ 48) (q / 2 ^ 20) (omega arith) (omega arith)) (omega arith) in
        further-on 16 generator (lit≤ tt) generator-degree 64 q x O fourth_power (doubled (doubled powers)) (lit≤ tt) hq hx lt
        (within-le 64 (0 ∷ fourth_power) refl) refl fourth-multiple (solved 64 16 (44 ∷ 64 ∷ []) x q (within-le 64 fourth_power refl) fourth-solves) w
        ∙ ap (λ (y : ℕ). register_of 16 generator 0 (digits_of 64 (bit_xor (bit_xor (bit_xor (q / 2 ^ 48) (q / 2 ^ 20)) y) w))) (div-one q)

    -- the quotient by the generator itself
    abbrev squared : ℕ
    squared = coded 64 q (8 ∷ 22 ∷ 32 ∷ []) q

    abbrev whole : ℕ
    whole = coded 64 squared (4 ∷ 11 ∷ 16 ∷ []) squared

    pub settled_is : turn_of 16 (register_of 16 generator 0 (digits_of 64 x)) ≡ bit_xor (bit_xor (whole / 2 ^ 60) (whole / 2 ^ 53)) (whole / 2 ^ 48)
    settled_is =
        let s : Solves 64 turned x whole = solves-root 64 turned x squared (solves-root 64 square x q fourth-solves) in
        let h : whole < 2 ^ 64 = s.0 in
        let lt = small whole h in
        at-the-end 16 generator (lit≤ tt) generator-degree 16 whole x (bit_xor (bit_xor (whole / 2 ^ 60) (whole / 2 ^ 53)) (whole / 2 ^ 48)) turned powers (lit≤ tt) h hx lt
        (within-le 16 (0 ∷ turned) refl) refl powers-multiple (solved 64 4 (11 ∷ 16 ∷ []) x whole (within-le 64 turned refl) s) refl
      where
        small : (v : ℕ) → v < 2 ^ 64 → bit_xor (bit_xor (v / 2 ^ 60) (v / 2 ^ 53)) (v / 2 ^ 48) < 2 ^ 16
        small v h = xor_lt 16 (bit_xor (v / 2 ^ 60) (v / 2 ^ 53)) (v / 2 ^ 48) (xor_lt 16 (v / 2 ^ 60) (v / 2 ^ 53) (omega arith) (omega arith)) (omega arith)

-- ---- bits one after the other

module _ (k g : ℕ) (hk : 1 ≤ k) (dg : Degree g k) where
  pub register-lt : (r : ℕ) (bs : List ℕ) → r < 2 ^ k → Bits bs → register_of k g r bs < 2 ^ k
  unfolding register_of
  register-lt r [] h l = h
  register-lt r (b ∷ bs) h l = register-lt (step_of k g r b) bs (step-lt k g hk dg r b h (l 0)) (λ i. l (suc i))

  pub register-none : (r : ℕ) → r ≡ register_of k g r []
  unfolding register_of
  register-none r = refl

  module _ (s : List ℕ) (at r : ℕ) (hr : r < 2 ^ k) where
    pub so-far-lt : (n : ℕ) → register_of k g r (part at n (bits_of s)) < 2 ^ k
    so-far-lt n = register-lt r (part at n (bits_of s)) hr (take-bits n (drop at (bits_of s)) (drop_bits at (bits_of s) (bits-bits s)))

    -- one bit more of the first n
    pub bit-more : (n j q b : ℕ) → q ≡ register_of k g r (take j (part at n (bits_of s))) → j < n → at + j < 8 * length s → b ≡ bit_of s (at + j)
        → step_of k g q b ≡ register_of k g r (take (j + 1) (part at n (bits_of s)))
    unfolding register_of
    bit-more n j q b e h l f =
        let G = part at n (bits_of s) in
        ap (λ (x : ℕ). step_of k g x b) e ∙ sym (register-append k g r (take j G) (b ∷ []))
        ∙ ap (register_of k g r) (part-next s at n j b h l f)

    pub taken-lt : (n j : ℕ) → register_of k g r (take j (part at n (bits_of s))) < 2 ^ k
    taken-lt n j = register-lt r (take j (part at n (bits_of s))) hr (part-bits s at n j)

    -- n bits more, where a word's digits stand for those before
    pub word_more : (m n j : ℕ) (W D : List ℕ) → m + n ≡ j → register_of k g r (part at m (bits_of s)) ≡ register_of k g 0 W → D ≡ part (at + m) n (bits_of s)
        → register_of k g r (part at j (bits_of s)) ≡ register_of k g 0 (W ++ D)
    word_more m n j W D e f d =
        let B = bits_of s in
        sym (ap (register_of k g r) (part-more B at m n j e)) ∙ register-append k g r (part at m B) (part (at + m) n B)
        ∙ ap₂ (register_of k g) f (sym d) ∙ sym (register-append k g 0 W D)
