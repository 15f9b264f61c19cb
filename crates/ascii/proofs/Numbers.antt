-- Laws of numbers as text. Assumes nothing.
use mathlib.Core.Path.{◌≡◌, refl, sym, ap, ◌∙◌}
use mathlib.Core.Bool.{Bool, true, false, true≢false}
use mathlib.Core.List.{List, [], ◌∷◌, ◌++◌}
use Prim.Native.Nat.{ℕ, zero, suc, ◌+◌, ◌*◌, ◌/◌, ◌%◌, ◌^◌, ◌≤◌, ◌<◌}
use native.Mathlib.Omega.{arith}
use borrow.Author.Tests.{lt-ltb, le-ltb, ltb-true, ltb-false}
use lib.Dec.{ltb}
use lib.IntN.{ℤ, pos, negsuc, nat_abs}
use lib.Signed.{lt_z}
use native.Mathlib.Nat.{pow-suc}
use native.Mathlib.Numerals.{add-one}
use native.Mathlib.Decide.{dec_lt}
use lib.ListN.{length, get_or, take, length-append}
use lib.Seq.{take-suc}
use Rattle.ascii.specs.Text.{text, digit, decimal_in, decimal, signed, hex, hexes}

-- ---- a digit's character

pub digit_low : (d : ℕ) → d < 10 → 48 + d ≡ digit d
digit_low d h = simp (lt-ltb d 10 h)

pub digit-high : (d : ℕ) → 10 ≤ d → 55 + d ≡ digit d
digit-high d h = simp (le-ltb d 10 h)

-- ---- decimal, by its last digit

-- turns to spare change nothing
enough : (f g n : ℕ) → n ≤ f → n ≤ g → decimal_in f (ltb n 10) n ≡ decimal_in g (ltb n 10) n
unfolding decimal_in
enough zero zero n h k = refl
enough zero (suc g) zero h k = refl
enough zero (suc g) (suc n) h k = absurd (omega arith)
enough (suc f) zero zero h k = refl
enough (suc f) zero (suc n) h k = absurd (omega arith)
enough (suc f) (suc g) n h k = pick (ltb n 10) refl (λ l. enough f g (n / 10) (omega arith) (omega arith))
  where
    pick : (b : Bool) → ltb n 10 ≡ b → (10 ≤ n → decimal_in f (ltb (n / 10) 10) (n / 10) ≡ decimal_in g (ltb (n / 10) 10) (n / 10))
        → decimal_in (suc f) b n ≡ decimal_in (suc g) b n
    pick true e rest = refl
    pick false e rest = ap (λ (l : List ℕ). l ++ (digit (n % 10) ∷ [])) (rest (ltb-false n 10 e))

-- a number below ten
pub decimal-small : (n : ℕ) → n < 10 → decimal n ≡ digit n ∷ []
unfolding decimal decimal_in
decimal-small zero h = refl
decimal-small (suc n) h = ap (λ (b : Bool). decimal_in (suc n) b (suc n)) (lt-ltb (suc n) 10 h)

-- any other
pub decimal-more : (n : ℕ) → 10 ≤ n → decimal n ≡ decimal (n / 10) ++ (digit (n % 10) ∷ [])
unfolding decimal decimal_in
decimal-more zero h = absurd (omega arith)
decimal-more (suc n) h =
    ap (λ (b : Bool). decimal_in (suc n) b (suc n)) (le-ltb (suc n) 10 h)
    ∙ ap (λ (l : List ℕ). l ++ (digit (suc n % 10) ∷ [])) (enough n (suc n / 10) (suc n / 10) (omega arith) (omega arith))

-- ---- lists taken one element further

pub word_next : (w : List ℕ) (k : ℕ) → k < length w → take k w ++ (get_or w k 0 ∷ []) ≡ take (k + 1) w
word_next w k h = sym (take-suc w k 0 h) ∙ ap (λ (n : ℕ). take n w) (sym (add-one k))

hexes-append : (os : List ℕ) (o : ℕ) → hexes (os ++ (o ∷ [])) ≡ hexes os ++ hex o
unfolding hexes hex
hexes-append [] o = refl
hexes-append (p ∷ os) o = ap (λ (l : List ℕ). hex p ++ l) (hexes-append os o)

pub hexes-none : [] ≡ hexes []
unfolding hexes
hexes-none = refl

pub hexes-next : (os : List ℕ) (k : ℕ) → k < length os → hexes (take k os) ++ hex (get_or os k 0) ≡ hexes (take (k + 1) os)
hexes-next os k h = sym (hexes-append (take k os) (get_or os k 0)) ∙ ap hexes (word_next os k h)

-- ---- decimal, as the code puts it

pub decimal-one : (n d : ℕ) → n < 10 → d ≡ digit n → d ∷ [] ≡ decimal n
decimal-one n d h e = ap (λ (x : ℕ). x ∷ []) e ∙ sym (decimal-small n h)

pub decimal-last : (n d : ℕ) → 10 ≤ n → d ≡ digit (n % 10) → decimal (n / 10) ++ (d ∷ []) ≡ decimal n
decimal-last n d h e = ap (λ (x : ℕ). decimal (n / 10) ++ (x ∷ [])) e ∙ sym (decimal-more n h)

-- ---- a whole number, by its sign

pub minus-first : (z : ℤ) → lt_z z (pos 0) ≡ true → text "-" ++ decimal (nat_abs z) ≡ signed z
unfolding signed
minus-first (pos n) e = absurd (omega (arith, ltb-true n 0 e))
minus-first (negsuc n) e = ap (λ (m : ℕ). text "-" ++ decimal m) (omega arith)

pub no-sign : (z : ℤ) → lt_z z (pos 0) ≡ false → decimal (nat_abs z) ≡ signed z
unfolding signed
no-sign (pos n) e = refl
no-sign (negsuc n) e = absurd (true≢false e)

-- ---- how long a number's text is

pub decimal-length : (k n : ℕ) → n < 10 ^ suc k → length (decimal n) ≤ suc k
decimal-length zero n h = omega (arith, ap length (decimal-small n h))
decimal-length (suc k) n h = pick (dec_lt n 10) (decimal-length k (n / 10) (omega (arith, pow-suc 10 (suc k))))
  where
    pick : Dec (n < 10) → length (decimal (n / 10)) ≤ suc k → length (decimal n) ≤ suc (suc k)
    pick (yes l) rest = omega (arith, ap length (decimal-small n l))
    pick (no l) rest = omega (arith, ap length (decimal-more n (omega arith)), length-append (decimal (n / 10)) (digit (n % 10) ∷ []))

pub hexes-length : (os : List ℕ) → length (hexes os) ≡ 2 * length os
unfolding hexes hex
hexes-length [] = refl
hexes-length (o ∷ os) = omega (arith, hexes-length os)
