-- The register's run is the remainder of the division, for any generator and degree; there is one remainder; two runs one after the
-- other are one. Assumes nothing.
use mathlib.Core.Path.{◌≡◌, refl, sym, ap, ap₂, ◌∙◌, subst}
use mathlib.Core.Bool.{Bool, true, false, not}
use mathlib.Core.Logic.{◌⊎◌, inl, inr}
use mathlib.Core.List.{List, [], ◌∷◌, ◌++◌, reverse-append, append_assoc, append-nil}
use Prim.Native.Nat.{ℕ, zero, suc, ◌+◌, ◌-◌, ◌*◌, ◌/◌, ◌%◌, ◌^◌, ◌≤◌, ◌<◌}
use native.Mathlib.Nat.{mod-lt, mul_assoc, mul_comm, pow-suc, div-eq_of_lt, le-div_iff_mul-le}
use native.Mathlib.Numerals.{add-one}
use native.Mathlib.Omega.{arith}
use lib.Arith.{digits_mod}
use lib.Bits.{bit_xor, xor_comm, xor_self, xor_zero_r, xor_zero_l, xor_lt, xor_shifted, xor_shr}
use lib.ListN.{length, length-append}
use lib.Pow.{pow_pos, shr_lt, split}
use Rattle.octets.specs.Bits.{value_of}
use Rattle.octets.proofs.Digits.{Bits}
use Rattle.octets.proofs.Complement.{twice}
use Rattle.octets.proofs.Xor.{xor_assoc, xor-swap, xor-cancel, dbl, shl-xor, no-two}
use Rattle.remainder.specs.Division.{scale, times, polynomial, Degree, Remainder, RemainderFrom}
use Rattle.remainder.specs.Register.{step_of, register_of}

-- one bit more, the lowest
pub polynomial-more : (bs : List ℕ) (b : ℕ) → polynomial (bs ++ (b ∷ [])) ≡ polynomial bs * 2 + b
unfolding value_of
polynomial-more bs b = ap value_of (reverse-append bs (b ∷ []))

-- ---- one step of the division

quot : ℕ → ℕ → Bool
quot zero zero = false
quot zero (suc b) = true
quot (suc h) zero = true
quot (suc h) (suc b) = false

-- the sum at a turn, for any H and g: what the message's bit and the register's top digit add at H is moved into the quotient
core : (H g x l h b : ℕ) → h < 2 → b < 2
    → bit_xor (bit_xor x (bit_xor (h * H) l)) (b * H) ≡ bit_xor (bit_xor x (scale (quot h b) (bit_xor H g))) (bit_xor l (bit_xor h b * g))
unfolding quot
core H g x l h b hh hb = left ∙ right h b hh hb
  where
    left : bit_xor (bit_xor x (bit_xor (h * H) l)) (b * H) ≡ bit_xor (bit_xor x l) (bit_xor (h * H) (b * H))
    left =
        ap (λ (y : ℕ). bit_xor (bit_xor x y) (b * H)) (xor_comm (h * H) l)
        ∙ ap (λ (y : ℕ). bit_xor y (b * H)) (sym (xor_assoc x l (h * H)))
        ∙ xor_assoc (bit_xor x l) (h * H) (b * H)

    none : (n : ℕ) → 0 * n ≡ 0
    none n = omega arith

    once : (n : ℕ) → 1 * n ≡ n
    once n = omega arith

    zeros : bit_xor (bit_xor x l) 0 ≡ bit_xor (bit_xor x 0) (bit_xor l (0 * g))
    zeros = ap (λ (y : ℕ). bit_xor y 0) (ap (λ (y : ℕ). bit_xor y l) (sym (xor_zero_r x))) ∙ xor_assoc (bit_xor x 0) l 0 ∙ ap (λ (y : ℕ). bit_xor (bit_xor x 0) (bit_xor l y)) (sym (none g))

    ones : bit_xor (bit_xor x l) H ≡ bit_xor (bit_xor x (bit_xor H g)) (bit_xor l (1 * g))
    ones =
        sym (ap (λ (y : ℕ). bit_xor (bit_xor x (bit_xor H g)) (bit_xor l y)) (once g)
        ∙ xor-swap x (bit_xor H g) l g
        ∙ ap (bit_xor (bit_xor x l)) (xor_assoc H g g ∙ ap (bit_xor H) (xor_self g) ∙ xor_zero_r H))

    right : (h b : ℕ) → h < 2 → b < 2
        → bit_xor (bit_xor x l) (bit_xor (h * H) (b * H)) ≡ bit_xor (bit_xor x (scale (quot h b) (bit_xor H g))) (bit_xor l (bit_xor h b * g))
    right zero zero p q = ap₂ (λ (y z : ℕ). bit_xor (bit_xor x l) (bit_xor y z)) (none H) (none H) ∙ zeros
    right zero (suc zero) p q = ap₂ (λ (y z : ℕ). bit_xor (bit_xor x l) (bit_xor y z)) (none H) (once H) ∙ ones
    right (suc zero) zero p q = ap₂ (λ (y z : ℕ). bit_xor (bit_xor x l) (bit_xor y z)) (once H) (none H) ∙ ap (bit_xor (bit_xor x l)) (xor_zero_r H) ∙ ones
    right (suc zero) (suc zero) p q = ap₂ (λ (y z : ℕ). bit_xor (bit_xor x l) (bit_xor y z)) (once H) (once H) ∙ ap (bit_xor (bit_xor x l)) (xor_self H) ∙ zeros
    right zero (suc (suc b)) p q = no-two b q
    right (suc zero) (suc (suc b)) p q = no-two b q
    right (suc (suc h)) b p q = no-two h p

-- the register's top digit and the rest, for a register r of k digits
module _ (k r : ℕ) (hk : 1 ≤ k) (hr : r < 2 ^ k) where
  pub top_lt : r / 2 ^ (k - 1) < 2
  top_lt = let e : k ≡ 1 + (k - 1) = omega arith in shr_lt 1 (k - 1) (subst (λ (n : ℕ). r < 2 ^ n) e hr)

  doubled : r * 2 ≡ r / 2 ^ (k - 1) * 2 ^ k + r * 2 % 2 ^ k
  doubled =
      let J = 2 ^ (k - 1) in
      let H = 2 ^ k in
      let h = r / J in
      let t = r % J in
      let e : H ≡ J * 2 = twice k hk in
      let ht : t < J = mod-lt r (pow_pos (k - 1)) in
      let p : h * H ≡ h * J * 2 = ap (λ (n : ℕ). h * n) e ∙ sym (mul_assoc h J 2) in
      let q : r * 2 ≡ h * H + t * 2 = omega (arith, split r (k - 1)) in
      let m : r * 2 % H ≡ t * 2 = ap (λ (n : ℕ). n % H) q ∙ digits_mod h (omega arith) in
      q ∙ ap (λ (n : ℕ). h * H + n) (sym m)

module _ (k g : ℕ) (hk : 1 ≤ k) (dg : Degree g k) where
  abbrev rest : ℕ
  rest = g % 2 ^ k

  rest_lt : rest < 2 ^ k
  rest_lt = mod-lt g (pow_pos k)

  -- the generator is its highest power and the rest
  high-rest : g ≡ bit_xor (2 ^ k) rest
  high-rest =
      let H = 2 ^ k in
      let e : g ≡ 1 * H + (g - H) = omega (arith, dg.reached) in
      let l : g - H < H = omega (arith, dg.within, pow-suc 2 k) in
      let m : rest ≡ g - H = ap (λ (n : ℕ). n % H) e ∙ digits_mod 1 l in
      let o : 1 * H ≡ H = omega arith in
      e ∙ ap (λ (n : ℕ). 1 * H + n) (sym m) ∙ sym (xor_shifted 1 k rest rest_lt) ∙ ap (λ (n : ℕ). bit_xor n rest) o

  pub step-lt : (r b : ℕ) → r < 2 ^ k → b < 2 → step_of k g r b < 2 ^ k
  step-lt r b hr hb =
      xor_lt k (r * 2 % 2 ^ k) (bit_xor (r / 2 ^ (k - 1)) b * rest) (mod-lt (r * 2) (pow_pos k))
      (small (bit_xor (r / 2 ^ (k - 1)) b) (xor_lt 1 (r / 2 ^ (k - 1)) b (top_lt k r hk hr) hb))
    where
      small : (c : ℕ) → c < 2 → c * rest < 2 ^ k
      small zero h = omega (arith, pow_pos k)
      small (suc zero) h = omega (arith, rest_lt)
      small (suc (suc c)) h = no-two c h

  -- what is left of v, one bit further
  step_left : (v r b : ℕ) (q : List Bool) → b < 2 → r < 2 ^ k → v ≡ bit_xor (times q g) r
      → bit_xor (v * 2) (b * 2 ^ k) ≡ bit_xor (times (quot (r / 2 ^ (k - 1)) b ∷ q) g) (step_of k g r b)
  unfolding times
  step_left v r b q hb hr e =
      let H = 2 ^ k in
      let h = r / 2 ^ (k - 1) in
      let l = r * 2 % H in
      let x = times q g * 2 in
      ap (λ (n : ℕ). bit_xor n (b * H)) (ap (λ (n : ℕ). n * 2) e ∙ dbl (times q g) r)
      ∙ ap (λ (n : ℕ). bit_xor (bit_xor x n) (b * H)) (doubled k r hk hr ∙ sym (xor_shifted h k l (mod-lt (r * 2) (pow_pos k))))
      ∙ core H rest x l h b (top_lt k r hk hr) hb
      ∙ ap (λ (n : ℕ). bit_xor (bit_xor x (scale (quot h b) n)) (step_of k g r b)) (sym high-rest)

  -- bits behind a start, one bit further: the start and the bits as one number
  module _ (start : ℕ) where
    abbrev above : List ℕ → ℕ
    above bs = bit_xor (start * 2 ^ length bs) (polynomial bs * 2 ^ k)

    above_more : (bs : List ℕ) (b : ℕ) → b < 2 → above (bs ++ (b ∷ [])) ≡ bit_xor (above bs * 2) (b * 2 ^ k)
    above_more bs b hb =
        let H = 2 ^ k in
        let m = polynomial bs in
        let n = length bs in
        let swap : m * 2 * H ≡ m * H * 2 = mul_assoc m 2 H ∙ ap (λ (n : ℕ). m * n) (mul_comm 2 H) ∙ sym (mul_assoc m H 2) in
        let up : start * 2 ^ length (bs ++ (b ∷ [])) ≡ start * 2 ^ n * 2 =
        ap (λ (j : ℕ). start * 2 ^ j) (length-append bs (b ∷ []) ∙ add-one n) ∙ ap (λ (x : ℕ). start * x) (pow-suc 2 n) ∙ sym (mul_assoc start (2 ^ n) 2) in
        ap₂ bit_xor up
        (ap (λ (n : ℕ). n * H) (polynomial-more bs b ∙ sym (xor_shifted m 1 b hb)) ∙ shl-xor k (m * 2) b ∙ ap (λ (x : ℕ). bit_xor x (b * H)) swap)
        ∙ sym (xor_assoc (start * 2 ^ n * 2) (m * H * 2) (b * H)) ∙ ap (λ (x : ℕ). bit_xor x (b * H)) (sym (dbl (start * 2 ^ n) (m * H)))

    -- two ranges one after the other: what is left of the first goes on as the register of the second
    pub continues-from : (a b : List ℕ) (r : ℕ) → Bits b → RemainderFrom k g start a r → RemainderFrom k g start (a ++ b) (register_of k g r b)
    unfolding register_of
    continues-from a [] r h d = subst (λ (l : List ℕ). RemainderFrom k g start l r) (sym (append-nil a)) d
    continues-from a (x ∷ b) r h d =
        subst (λ (l : List ℕ). RemainderFrom k g start l (register_of k g (step_of k g r x) b)) (append_assoc a (x ∷ []) b)
        (continues-from (a ++ (x ∷ [])) b (step_of k g r x) (λ i. h (suc i))
        (record {
          quotient = quot (r / 2 ^ (k - 1)) x ∷ d.quotient;
          below = step-lt r x d.below (h 0);
          divided = above_more a x (h 0) ∙ step_left (above a) r x d.quotient (h 0) d.below d.divided;
        }))

    -- there is a remainder behind a start: the register's run from it
    pub exists-from : (bs : List ℕ) → Bits bs → start < 2 ^ k → RemainderFrom k g start bs (register_of k g start bs)
    unfolding times value_of
    exists-from bs h l = continues-from [] bs start h (record { quotient = []; divided = begun; below = l })
      where
        begun : bit_xor (start * 1) (polynomial [] * 2 ^ k) ≡ bit_xor (times [] g) start
        begun =
            let one : start * 1 ≡ start = omega arith in
            let none : 0 * 2 ^ k ≡ 0 = omega arith in
            ap₂ bit_xor one none ∙ xor_zero_r start ∙ sym (xor_zero_l start)

  -- from zero it is the remainder
  pub from_zero : (bs : List ℕ) (r : ℕ) → RemainderFrom k g 0 bs r → Remainder k g bs r
  from_zero bs r d =
      let none : 0 * 2 ^ length bs ≡ 0 = omega arith in
      record {
        quotient = d.quotient;
        divided = sym (ap (λ (x : ℕ). bit_xor x (polynomial bs * 2 ^ k)) none ∙ xor_zero_l (polynomial bs * 2 ^ k)) ∙ d.divided;
        below = d.below;
      }

  -- there is a remainder: the register's run from zero
  pub exists : (bs : List ℕ) → Bits bs → Remainder k g bs (register_of k g 0 bs)
  exists bs h = from_zero bs (register_of k g 0 bs) (exists-from 0 bs h (pow_pos k))

-- the register's run over joined ranges
pub register-append : (k g r : ℕ) (a b : List ℕ) → register_of k g r (a ++ b) ≡ register_of k g (register_of k g r a) b
unfolding register_of
register-append k g r [] b = refl
register-append k g r (x ∷ a) b = register-append k g (step_of k g r x) a b

-- ---- there is one remainder

pub add : List Bool → List Bool → List Bool
add [] q = q
add (a ∷ p) [] = a ∷ p
add (true ∷ p) (b ∷ q) = not b ∷ add p q
add (false ∷ p) (b ∷ q) = b ∷ add p q

-- the sum of two multiples is a multiple
pub distrib : (p q : List Bool) (g : ℕ) → bit_xor (times p g) (times q g) ≡ times (add p q) g
unfolding times add
distrib [] q g = refl
distrib (a ∷ p) [] g = xor_zero_r (times (a ∷ p) g)
distrib (true ∷ p) (b ∷ q) g =
    xor-swap (times p g * 2) g (times q g * 2) (scale b g)
    ∙ ap₂ bit_xor (sym (dbl (times p g) (times q g)) ∙ ap (λ (x : ℕ). x * 2) (distrib p q g)) (flipped b)
  where
    flipped : (b : Bool) → bit_xor g (scale b g) ≡ scale (not b) g
    flipped true = xor_self g
    flipped false = xor_zero_r g
distrib (false ∷ p) (b ∷ q) g =
    xor-swap (times p g * 2) 0 (times q g * 2) (scale b g)
    ∙ ap (λ (x : ℕ). bit_xor x (scale b g)) (sym (dbl (times p g) (times q g)) ∙ ap (λ (x : ℕ). x * 2) (distrib p q g))

-- a multiple of a polynomial of degree k is 0 or has a degree of k or more
pub multiple : (k g : ℕ) → Degree g k → (q : List Bool) → (times q g ≡ 0) ⊎ (2 ^ k ≤ times q g)
unfolding times
multiple k g d [] = inl refl
multiple k g d (c ∷ q) = pick c (multiple k g d q)
  where
    big : (t : ℕ) → 2 ^ k ≤ t → 2 ^ k ≤ bit_xor (t * 2) g
    big t h =
        let s : 2 ^ suc k ≡ 2 ^ k * 2 = pow-suc 2 k in
        let z : g / 2 ^ suc k ≡ 0 = div-eq_of_lt d.within in
        let e : bit_xor (t * 2) g / 2 ^ suc k ≡ t * 2 / 2 ^ suc k = xor_shr (t * 2) g (suc k) ∙ ap (bit_xor (t * 2 / 2 ^ suc k)) z ∙ xor_zero_r (t * 2 / 2 ^ suc k) in
        reach (bit_xor (t * 2) g) (t * 2) (2 ^ suc k) (pow_pos (suc k)) e (omega arith) (omega arith)
      where
        reach : (a b H : ℕ) → 0 < H → a / H ≡ b / H → H ≤ b → 2 ^ k ≤ H → 2 ^ k ≤ a
        reach a b H h e l m =
            let one : 1 ≤ b / H = (le-div_iff_mul-le h).1 (omega arith) in
            let back : 1 * H ≤ a = (le-div_iff_mul-le h).0 (subst (λ (n : ℕ). 1 ≤ n) (sym e) one) in
            omega arith

    pick : (c : Bool) → (times q g ≡ 0) ⊎ (2 ^ k ≤ times q g)
        → (bit_xor (times q g * 2) (scale c g) ≡ 0) ⊎ (2 ^ k ≤ bit_xor (times q g * 2) (scale c g))
    pick true (inl e) = inr (subst (λ (t : ℕ). 2 ^ k ≤ bit_xor (t * 2) g) (sym e) d.reached)
    pick true (inr h) = inr (big (times q g) h)
    pick false (inl e) = inl (xor_zero_r (times q g * 2) ∙ ap (λ (t : ℕ). t * 2) e)
    pick false (inr h) = inr (subst (λ (t : ℕ). 2 ^ k ≤ t) (sym (xor_zero_r (times q g * 2))) (omega arith))

-- a multiple of a degree below k is 0
pub small-multiple : (k g : ℕ) → Degree g k → (q : List Bool) → times q g < 2 ^ k → times q g ≡ 0
small-multiple k g d q h = pick (multiple k g d q)
  where
    pick : (times q g ≡ 0) ⊎ (2 ^ k ≤ times q g) → times q g ≡ 0
    pick (inl e) = e
    pick (inr l) = absurd (omega arith)

-- of any number
pub left_unique : (k g : ℕ) → Degree g k → (v r r' : ℕ) (p q : List Bool) → v ≡ bit_xor (times p g) r → v ≡ bit_xor (times q g) r' → r < 2 ^ k → r' < 2 ^ k
    → r ≡ r'
left_unique k g d v r r' p q a b h h' =
    let T = times p g in
    let T' = times q g in
    let zero : bit_xor (bit_xor T T') (bit_xor r r') ≡ 0 =
    xor-swap T T' r r' ∙ ap (λ (x : ℕ). bit_xor x (bit_xor T' r')) (sym a ∙ b) ∙ xor_self (bit_xor T' r') in
    let e : bit_xor r r' ≡ times (add p q) g = sym (xor-cancel (bit_xor T T') (bit_xor r r') zero) ∙ distrib p q g in
    xor-cancel r r' (e ∙ small-multiple k g d (add p q) (subst (λ (x : ℕ). x < 2 ^ k) e (xor_lt k r r' h h')))

pub unique : (k g : ℕ) → Degree g k → (bs : List ℕ) (r r' : ℕ) → Remainder k g bs r → Remainder k g bs r' → r ≡ r'
unique k g d bs r r' a b = left_unique k g d (polynomial bs * 2 ^ k) r r' a.quotient b.quotient a.divided b.divided a.below b.below

pub unique-from : (k g : ℕ) → Degree g k → (start : ℕ) (bs : List ℕ) (r r' : ℕ) → RemainderFrom k g start bs r → RemainderFrom k g start bs r' → r ≡ r'
unique-from k g d start bs r r' a b =
    left_unique k g d (bit_xor (start * 2 ^ length bs) (polynomial bs * 2 ^ k)) r r' a.quotient b.quotient a.divided b.divided a.below b.below

-- so the remainder is the register's run
pub computed : (k g : ℕ) → 1 ≤ k → Degree g k → (bs : List ℕ) (r : ℕ) → Bits bs → Remainder k g bs r → r ≡ register_of k g 0 bs
computed k g hk d bs r h a = unique k g d bs r (register_of k g 0 bs) a (exists k g hk d bs h)
