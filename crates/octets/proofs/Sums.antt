-- Sums of shifts: v + v D^e + .. for a list of shifts e, as numbers whose digits are the coefficients of polynomials. Once over the list, and within
-- a word once over its length: a sum of shifts twice is the sum of the shifts doubled. Assumes nothing.
use mathlib.Core.Path.{◌≡◌, refl, sym, ap, ap₂, subst, ◌∙◌}
use mathlib.Core.Bool.{Bool, true, false, cond, ◌&&◌}
use mathlib.Core.List.{List, [], ◌∷◌, ◌++◌, reverse, reverse-append}
use Prim.Native.Nat.{ℕ, zero, suc, ◌+◌, ◌-◌, ◌*◌, ◌/◌, ◌%◌, ◌^◌, ◌≤◌, ◌<◌, zero-le}
use native.Mathlib.Nat.{mul_assoc, mul-mod_left, add-mul-mod_self_right, add_comm, add-mul, mul_right_comm, div-add-mod', add-zero, mod-lt, mod-eq_of_lt, div-eq_of_lt}
use native.Mathlib.Omega.{arith}
use borrow.Author.Tests.{ltb-false, leb-true}
use lib.Dec.{ltb, leb}
use lib.ListN.{get_or, length-reverse}
use lib.Pow.{pow-add, pow_pos, split, shr-shr, shl-shr}
use lib.Bits.{bit_xor, xor_comm, xor_zero_r, xor_zero_l, xor_lt, xor_mod, xor_shr, xor_shifted}
use Rattle.octets.specs.Bits.{digits_of, value_of}
use Rattle.octets.proofs.Digits.{digits-length, value-append, turned_lt}
use Rattle.octets.proofs.Turn.{turn_of, turn-zero, turn-xor}
use Rattle.octets.proofs.Words.{digits-join}
use Rattle.octets.proofs.Xor.{xor_assoc, xor-swap, mid, shl-xor}

-- the shifts of v, added
unfoldable pub shifts : List ℕ → ℕ → ℕ
shifts [] v = 0
shifts (e ∷ es) v = bit_xor (v * 2 ^ e) (shifts es v)

-- and v itself: v times 1 + D^e + ..
abbrev pub sum : List ℕ → ℕ → ℕ
sum es v = bit_xor v (shifts es v)

-- each shift twice as far
abbrev pub doubled : List ℕ → List ℕ
doubled [] = []
doubled (e ∷ es) = (e + e) ∷ doubled es

-- ---- a sum of shifts is linear

shl-shl : (a b v : ℕ) → v * 2 ^ a * 2 ^ b ≡ v * 2 ^ (a + b)
shl-shl a b v = mul_assoc v (2 ^ a) (2 ^ b) ∙ ap (λ (x : ℕ). v * x) (sym (pow-add 2 a b))

shl-comm : (a b v : ℕ) → v * 2 ^ a * 2 ^ b ≡ v * 2 ^ b * 2 ^ a
shl-comm a b v = mul_right_comm v (2 ^ a) (2 ^ b)

shifts-xor : (es : List ℕ) (a b : ℕ) → shifts es (bit_xor a b) ≡ bit_xor (shifts es a) (shifts es b)
unfolding shifts
shifts-xor [] a b = refl
shifts-xor (e ∷ es) a b = ap₂ bit_xor (shl-xor e a b) (shifts-xor es a b) ∙ xor-swap (a * 2 ^ e) (b * 2 ^ e) (shifts es a) (shifts es b)

shifts_shl : (es : List ℕ) (k v : ℕ) → shifts es (v * 2 ^ k) ≡ shifts es v * 2 ^ k
unfolding shifts
shifts_shl [] k v = none (2 ^ k)
  where
    none : (n : ℕ) → 0 ≡ 0 * n
    none n = omega arith
shifts_shl (e ∷ es) k v = ap₂ bit_xor (shl-comm k e v) (shifts_shl es k v) ∙ sym (shl-xor k (v * 2 ^ e) (shifts es v))

shifts-comm : (es fs : List ℕ) (v : ℕ) → shifts es (shifts fs v) ≡ shifts fs (shifts es v)
unfolding shifts
shifts-comm [] fs v = sym (zeros fs)
  where
    zeros : (fs : List ℕ) → shifts fs 0 ≡ 0
    zeros [] = refl
    zeros (f ∷ fs) = ap₂ bit_xor (none (2 ^ f)) (zeros fs)
      where
        none : (n : ℕ) → 0 * n ≡ 0
        none n = omega arith
shifts-comm (e ∷ es) fs v =
    ap₂ bit_xor (sym (shifts_shl fs e v)) (shifts-comm es fs v) ∙ sym (shifts-xor fs (v * 2 ^ e) (shifts es v))

pub sum-xor : (es : List ℕ) (a b : ℕ) → sum es (bit_xor a b) ≡ bit_xor (sum es a) (sum es b)
sum-xor es a b = ap (bit_xor (bit_xor a b)) (shifts-xor es a b) ∙ xor-swap a b (shifts es a) (shifts es b)

pub sum-shl : (es : List ℕ) (k v : ℕ) → sum es (v * 2 ^ k) ≡ sum es v * 2 ^ k
sum-shl es k v = ap (bit_xor (v * 2 ^ k)) (shifts_shl es k v) ∙ sym (shl-xor k v (shifts es v))

pub sum_comm : (es fs : List ℕ) (v : ℕ) → sum es (sum fs v) ≡ sum fs (sum es v)
sum_comm es fs v =
    ap (bit_xor (sum fs v)) (shifts-xor es v (shifts fs v) ∙ ap (bit_xor (shifts es v)) (shifts-comm es fs v))
    ∙ xor-swap v (shifts fs v) (shifts es v) (shifts fs (shifts es v)) ∙ ap (bit_xor (sum es v)) (sym (shifts-xor fs v (shifts es v)))

-- ---- twice: what is added twice goes

shifts-twice : (es : List ℕ) (v : ℕ) → shifts es (shifts es v) ≡ shifts (doubled es) v
unfolding shifts
shifts-twice [] v = refl
shifts-twice (e ∷ es) v =
    let a = v * 2 ^ e in
    let s = shifts es v in
    ap₂ bit_xor (shl-xor e a s ∙ ap₂ bit_xor (shl-shl e e v) (sym (shifts_shl es e v)))
    (shifts-xor es a s ∙ ap (bit_xor (shifts es a)) (shifts-twice es v))
    ∙ mid (v * 2 ^ (e + e)) (shifts es a) (shifts (doubled es) v)

pub sum_twice : (es : List ℕ) (v : ℕ) → sum es (sum es v) ≡ sum (doubled es) v
sum_twice es v =
    ap (bit_xor (sum es v)) (shifts-xor es v (shifts es v) ∙ ap (bit_xor (shifts es v)) (shifts-twice es v)) ∙ mid v (shifts es v) (shifts (doubled es) v)

-- ---- within a word of w digits

module _ (w : ℕ) where
  mod-mod : (x : ℕ) → x % 2 ^ w % 2 ^ w ≡ x % 2 ^ w
  mod-mod x = mod-eq_of_lt (mod-lt x (pow_pos w))

  mul-mod : (a b : ℕ) → a % 2 ^ w * b % 2 ^ w ≡ a * b % 2 ^ w
  mul-mod a b =
      let m = 2 ^ w in
      sym (add-mul-mod_self_right (a % m * b) (a / m * b) m)
      ∙ ap (λ (x : ℕ). x % m)
      (add_comm (a % m * b) (a / m * b * m) ∙ ap (λ (x : ℕ). x + a % m * b) (mul_right_comm (a / m) b m)
      ∙ sym (add-mul (a / m * m) (a % m) b) ∙ ap (λ (x : ℕ). x * b) (div-add-mod' a m))

  -- what lies above the word adds nothing to it
  shifts-mod : (es : List ℕ) (x : ℕ) → shifts es (x % 2 ^ w) % 2 ^ w ≡ shifts es x % 2 ^ w
  unfolding shifts
  shifts-mod [] x = refl
  shifts-mod (e ∷ es) x =
      xor_mod (x % 2 ^ w * 2 ^ e) (shifts es (x % 2 ^ w)) w ∙ ap₂ bit_xor (mul-mod x (2 ^ e)) (shifts-mod es x) ∙ sym (xor_mod (x * 2 ^ e) (shifts es x) w)

  pub sum-mod : (es : List ℕ) (x : ℕ) → sum es (x % 2 ^ w) % 2 ^ w ≡ sum es x % 2 ^ w
  sum-mod es x =
      xor_mod (x % 2 ^ w) (shifts es (x % 2 ^ w)) w ∙ ap₂ bit_xor (mod-mod x) (shifts-mod es x) ∙ sym (xor_mod x (shifts es x) w)

  pub sum-sum-mod : (es fs : List ℕ) (x : ℕ) → sum es (sum fs (x % 2 ^ w)) % 2 ^ w ≡ sum es (sum fs x) % 2 ^ w
  sum-sum-mod es fs x =
      sym (sum-mod es (sum fs (x % 2 ^ w))) ∙ ap (λ (y : ℕ). sum es y % 2 ^ w) (sum-mod fs x) ∙ sum-mod es (sum fs x)

  -- a shift out of the word
  pub shl-far : (e v : ℕ) → w ≤ e → v * 2 ^ e % 2 ^ w ≡ 0
  shl-far e v h =
      let f : e - w + w ≡ e = omega arith in
      ap (λ (x : ℕ). x % 2 ^ w) (ap (λ (n : ℕ). v * 2 ^ n) (sym f) ∙ sym (shl-shl (e - w) w v)) ∙ mul-mod_left (v * 2 ^ (e - w)) (2 ^ w)

  -- a shift out of the word at the end of the list
  pub sum-last : (e f v : ℕ) → w ≤ f → sum (e ∷ f ∷ []) v % 2 ^ w ≡ sum (e ∷ []) v % 2 ^ w
  unfolding shifts
  sum-last e f v h =
      xor_mod v (shifts (e ∷ f ∷ []) v) w
      ∙ ap (bit_xor (v % 2 ^ w)) (xor_mod (v * 2 ^ e) (shifts (f ∷ []) v) w
      ∙ ap (bit_xor (v * 2 ^ e % 2 ^ w)) (ap (λ (x : ℕ). x % 2 ^ w) (xor_zero_r (v * 2 ^ f)) ∙ shl-far f v h ∙ sym (zero-mod 0))
      ∙ sym (xor_mod (v * 2 ^ e) 0 w))
      ∙ sym (xor_mod v (shifts (e ∷ []) v) w)
    where
      zero-mod : (n : ℕ) → 0 % 2 ^ w ≡ 0
      zero-mod n = mod-eq_of_lt (pow_pos w)

  pub sum-none : (e v : ℕ) → w ≤ e → sum (e ∷ []) v % 2 ^ w ≡ v % 2 ^ w
  unfolding shifts
  sum-none e v h =
      xor_mod v (bit_xor (v * 2 ^ e) 0) w ∙ ap (bit_xor (v % 2 ^ w)) (ap (λ (x : ℕ). x % 2 ^ w) (xor_zero_r (v * 2 ^ e)) ∙ shl-far e v h) ∙ xor_zero_r (v % 2 ^ w)

  -- as the code writes it: each shift within the word, added to those before it
  abbrev pub coded : ℕ → List ℕ → ℕ → ℕ
  coded acc [] v = acc
  coded acc (e ∷ es) v = coded (bit_xor acc (v * 2 ^ e % 2 ^ w)) es v

  coded-is : (acc : ℕ) (es : List ℕ) (v : ℕ) → acc < 2 ^ w → coded acc es v ≡ bit_xor acc (shifts es v % 2 ^ w)
  unfolding shifts
  coded-is acc [] v h = sym (ap (bit_xor acc) (mod-eq_of_lt (pow_pos w)) ∙ xor_zero_r acc)
  coded-is acc (e ∷ es) v h =
      let a = v * 2 ^ e in
      coded-is (bit_xor acc (a % 2 ^ w)) es v (xor_lt w acc (a % 2 ^ w) h (mod-lt a (pow_pos w)))
      ∙ xor_assoc acc (a % 2 ^ w) (shifts es v % 2 ^ w) ∙ ap (bit_xor acc) (sym (xor_mod a (shifts es v) w))

  pub coded-sum : (es : List ℕ) (v : ℕ) → v < 2 ^ w → coded v es v ≡ sum es v % 2 ^ w
  coded-sum es v h =
      coded-is v es v h ∙ ap (λ (x : ℕ). bit_xor x (shifts es v % 2 ^ w)) (sym (mod-eq_of_lt h)) ∙ sym (xor_mod v (shifts es v) w)

  pub coded-lt : (es : List ℕ) (v : ℕ) → v < 2 ^ w → coded v es v < 2 ^ w
  coded-lt es v h = subst (λ (x : ℕ). x < 2 ^ w) (sym (coded-sum es v h)) (mod-lt (sum es v) (pow_pos w))

  -- the shifts that stay within the word
  abbrev pub near : List ℕ → List ℕ
  near [] = []
  near (e ∷ es) = cond (ltb e w) (e ∷ near es) (near es)

  near-is : (es : List ℕ) (v : ℕ) → shifts (near es) v % 2 ^ w ≡ shifts es v % 2 ^ w
  unfolding shifts
  near-is [] v = refl
  near-is (e ∷ es) v = pick (ltb e w) refl (near-is es v)
    where
      pick : (b : Bool) → ltb e w ≡ b → shifts (near es) v % 2 ^ w ≡ shifts es v % 2 ^ w
          → shifts (cond b (e ∷ near es) (near es)) v % 2 ^ w ≡ bit_xor (v * 2 ^ e) (shifts es v) % 2 ^ w
      pick true h m =
          xor_mod (v * 2 ^ e) (shifts (near es) v) w ∙ ap (bit_xor (v * 2 ^ e % 2 ^ w)) m ∙ sym (xor_mod (v * 2 ^ e) (shifts es v) w)
      pick false h m =
          m
          ∙ sym (xor_mod (v * 2 ^ e) (shifts es v) w ∙ ap (λ (x : ℕ). bit_xor x (shifts es v % 2 ^ w)) (shl-far e v (ltb-false e w h)) ∙ xor_zero_l (shifts es v % 2 ^ w))

  pub sum_near : (es : List ℕ) (v : ℕ) → sum (near es) v % 2 ^ w ≡ sum es v % 2 ^ w
  sum_near es v = xor_mod v (shifts (near es) v) w ∙ ap (bit_xor (v % 2 ^ w)) (near-is es v) ∙ sym (xor_mod v (shifts es v) w)

  -- q is the word whose sum of shifts is u within the word: u itself where every shift leads out of it, and where q is one of the shifts doubled, its sum of
  -- shifts is one of the shifts
  abbrev pub Solves : List ℕ → ℕ → ℕ → Type 0
  Solves es u q = (q < 2 ^ w) × (sum es q % 2 ^ w ≡ u)

  pub solves-far : (es : List ℕ) (u : ℕ) → u < 2 ^ w → near es ≡ [] → Solves es u u
  unfolding shifts
  solves-far es u h e = (h, sym (sum_near es u) ∙ ap (λ (l : List ℕ). sum l u % 2 ^ w) e ∙ ap (λ (x : ℕ). x % 2 ^ w) (xor_zero_r u) ∙ mod-eq_of_lt h)

  pub solves-root : (es : List ℕ) (u q : ℕ) → Solves (doubled es) u q → Solves es u (coded q (near es) q)
  solves-root es u q s =
      let e : coded q (near es) q ≡ sum es q % 2 ^ w = coded-sum (near es) q s.0 ∙ sum_near es q in (
        coded-lt (near es) q s.0,
        ap (λ (x : ℕ). sum es x % 2 ^ w) e ∙ sum-mod es (sum es q) ∙ ap (λ (x : ℕ). x % 2 ^ w) (sum_twice es q) ∙ s.1,
      )

-- ---- the other end first

-- each shift as far from d
abbrev pub mirror : ℕ → List ℕ → List ℕ
mirror d [] = []
mirror d (e ∷ es) = (d - e) ∷ mirror d es

turn-join : (m n hi lo : ℕ) → lo < 2 ^ m → turn_of (m + n) (hi * 2 ^ m + lo) ≡ turn_of m lo * 2 ^ n + turn_of n hi
turn-join m n hi lo h =
    ap (λ (l : List ℕ). value_of (reverse l)) (digits-join m n (m + n) hi lo refl h)
    ∙ ap value_of (reverse-append (digits_of m lo) (digits_of n hi)) ∙ value-append (reverse (digits_of n hi)) (reverse (digits_of m lo))
    ∙ ap (λ (k : ℕ). turn_of m lo * 2 ^ k + turn_of n hi) (length-reverse (digits_of n hi) ∙ digits-length n hi)

-- q above e zeros, with d digits in all besides its own n
turn-shl : (n d e q : ℕ) → q < 2 ^ n → e ≤ d → turn_of (n + d) (q * 2 ^ e) ≡ turn_of n q * 2 ^ (d - e)
turn-shl n d e q h l =
    let j = d - e in
    let c : n + d ≡ e + (n + j) = omega arith in
    let z : q * 2 ^ e ≡ q * 2 ^ e + 0 = sym (add-zero (q * 2 ^ e)) in
    let y : q ≡ 0 * 2 ^ n + q = zero-above q (2 ^ n) in
    ap₂ turn_of c z ∙ turn-join e (n + j) q 0 (pow_pos e) ∙ ap₂ (λ (x t : ℕ). x * 2 ^ (n + j) + t) (turn-zero e) (ap (turn_of (n + j)) y ∙ turn-join n j 0 q h)
    ∙ ap (λ (x : ℕ). 0 * 2 ^ (n + j) + (turn_of n q * 2 ^ j + x)) (turn-zero j) ∙ only (2 ^ (n + j)) (turn_of n q * 2 ^ j)
  where
    zero-above : (q p : ℕ) → q ≡ 0 * p + q
    zero-above q p = omega arith

    only : (p x : ℕ) → 0 * p + (x + 0) ≡ x
    only p x = omega arith

-- nothing above
pub turn-long : (n d q : ℕ) → q < 2 ^ n → turn_of (n + d) q ≡ turn_of n q * 2 ^ d
turn-long n d q h = let once : q ≡ q * 1 = omega arith in ap (turn_of (n + d)) once ∙ turn-shl n d 0 q h (omega arith) ∙ ap (λ (j : ℕ). turn_of n q * 2 ^ j) (omega arith)

turn-shifts : (n d q : ℕ) (es : List ℕ) → q < 2 ^ n → ((i : ℕ) → get_or es i 0 ≤ d) → turn_of (n + d) (shifts es q) ≡ shifts (mirror d es) (turn_of n q)
unfolding shifts
turn-shifts n d q [] h l = turn-zero (n + d)
turn-shifts n d q (e ∷ es) h l =
    turn-xor (n + d) (q * 2 ^ e) (shifts es q) ∙ ap₂ bit_xor (turn-shl n d e q h (l 0)) (turn-shifts n d q es h (λ i. l (suc i)))

-- a shift by nothing at the end of the list
shifts-last : (gs : List ℕ) (t : ℕ) → shifts (gs ++ (0 ∷ [])) t ≡ sum gs t
unfolding shifts
shifts-last [] t = ap (λ (x : ℕ). bit_xor x 0) (once t)
  where
    once : (t : ℕ) → t * 1 ≡ t
    once t = omega arith
shifts-last (g ∷ gs) t =
    ap (bit_xor (t * 2 ^ g)) (shifts-last gs t) ∙ sym (xor_assoc (t * 2 ^ g) t (shifts gs t)) ∙ ap (λ (x : ℕ). bit_xor x (shifts gs t)) (xor_comm (t * 2 ^ g) t)
    ∙ xor_assoc t (t * 2 ^ g) (shifts gs t)

-- a division from the low end, turned: where a sum of shifts of q is X within n digits and reaches over them by E, X above E, turned, is a sum of shifts too
pub turned-sum : (n d q X E : ℕ) (es gs : List ℕ) → q < 2 ^ n → X < 2 ^ n → ((i : ℕ) → get_or (0 ∷ es) i 0 ≤ d) → mirror d (0 ∷ es) ≡ gs ++ (0 ∷ [])
    → sum es q ≡ bit_xor X (E * 2 ^ n) → bit_xor (turn_of n X * 2 ^ d) (turn_of d E) ≡ sum gs (turn_of n q)
unfolding shifts
turned-sum n d q X E es gs hq hX l m e =
    let once : q * 1 ≡ q = omega arith in
    xor_shifted (turn_of n X) d (turn_of d E) (turned_lt d E) ∙ sym (turn-join n d E X hX)
    ∙ ap (turn_of (n + d)) (sym (xor_shifted E n X hX) ∙ xor_comm (E * 2 ^ n) X ∙ sym e ∙ ap (λ (x : ℕ). bit_xor x (shifts es q)) (sym once))
    ∙ turn-shifts n d q (0 ∷ es) hq l ∙ ap (λ (k : List ℕ). shifts k (turn_of n q)) m ∙ shifts-last gs (turn_of n q)

-- what reaches over n digits
unfoldable pub over : ℕ → List ℕ → ℕ → ℕ
over n [] q = 0
over n (e ∷ es) q = bit_xor (q / 2 ^ (n - e)) (over n es q)

-- as the code writes it
abbrev pub coded-over : ℕ → ℕ → List ℕ → ℕ → ℕ
coded-over n acc [] q = acc
coded-over n acc (e ∷ es) q = coded-over n (bit_xor acc (q / 2 ^ (n - e))) es q

coded-over-is : (n acc : ℕ) (es : List ℕ) (q : ℕ) → coded-over n acc es q ≡ bit_xor acc (over n es q)
unfolding over
coded-over-is n acc [] q = sym (xor_zero_r acc)
coded-over-is n acc (e ∷ es) q = coded-over-is n (bit_xor acc (q / 2 ^ (n - e))) es q ∙ xor_assoc acc (q / 2 ^ (n - e)) (over n es q)

shifts-over : (n : ℕ) (es : List ℕ) (q : ℕ) → ((i : ℕ) → get_or es i 0 ≤ n) → shifts es q / 2 ^ n ≡ over n es q
unfolding shifts over
shifts-over n [] q h = div-eq_of_lt (pow_pos n)
shifts-over n (e ∷ es) q h =
    let l : e ≤ n = h 0 in
    let c : e + (n - e) ≡ n = omega arith in
    xor_shr (q * 2 ^ e) (shifts es q) n
    ∙ ap₂ bit_xor (ap (λ (k : ℕ). q * 2 ^ e / 2 ^ k) (sym c) ∙ sym (shr-shr (q * 2 ^ e) e (n - e)) ∙ ap (λ (x : ℕ). x / 2 ^ (n - e)) (shl-shr q e))
    (shifts-over n es q (λ i. h (suc i)))

-- so a word that solves has what reaches over
pub solved : (n : ℕ) (e : ℕ) (es : List ℕ) (u q : ℕ) → ((i : ℕ) → get_or (e ∷ es) i 0 ≤ n) → Solves n (e ∷ es) u q
    → sum (e ∷ es) q ≡ bit_xor u (coded-over n (q / 2 ^ (n - e)) es q * 2 ^ n)
unfolding over
solved n e es u q h s =
    let O = coded-over n (q / 2 ^ (n - e)) es q in
    let all = e ∷ es in
    let hi : sum all q / 2 ^ n ≡ O =
    xor_shr q (shifts all q) n ∙ ap₂ bit_xor (div-eq_of_lt s.0) (shifts-over n all q h) ∙ xor_zero_l (over n all q) ∙ sym (coded-over-is n (q / 2 ^ (n - e)) es q) in
    let lt : u < 2 ^ n = subst (λ (x : ℕ). x < 2 ^ n) s.1 (mod-lt (sum all q) (pow_pos n)) in
    sym (split (sum all q) n) ∙ ap₂ (λ (x y : ℕ). x * 2 ^ n + y) hi s.1 ∙ sym (xor_shifted O n u lt) ∙ xor_comm (O * 2 ^ n) u

-- ---- shifts that are all at most d, computed

abbrev pub within : ℕ → List ℕ → Bool
within d [] = true
within d (e ∷ es) = leb e d && within d es

pub within-le : (d : ℕ) (es : List ℕ) → within d es ≡ true → (i : ℕ) → get_or es i 0 ≤ d
within-le d [] h i = zero-le
within-le d (e ∷ es) h zero = leb-true e d (left (leb e d) (within d es) h)
  where
    left : (a b : Bool) → a && b ≡ true → a ≡ true
    left true b h = refl
    left false b h = h
within-le d (e ∷ es) h (suc i) = within-le d es (right (leb e d) (within d es) h) i
  where
    right : (a b : Bool) → a && b ≡ true → b ≡ true
    right true b h = h
    right false b h = cc
