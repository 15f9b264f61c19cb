-- Laws of what was sent: a register that holds the last twenty X1 is enough for any number of symbols. Assumes nothing.
use mathlib.Core.Path.{◌≡◌, refl, sym, ap, ap₂, ◌∙◌}
use mathlib.Core.Bool.{Bool, true, false}
use mathlib.Core.List.{List, [], ◌∷◌, ◌++◌}
use Prim.Native.Nat.{ℕ, zero, suc, ◌+◌, ◌-◌, ◌*◌, ◌/◌, ◌%◌, ◌^◌, ◌≤◌, ◌<◌, min, zero-le, suc-le-suc}
use native.Mathlib.Omega.{arith}
use native.Mathlib.Nat.{not-suc-le-zero, zero-add, le_of_suc-le-suc, mod-lt, div-one, pow-suc, zero-mul, one-mul, lt_of_le_of_lt, min-le_left}
use lib.Arith.{digits_div, digits_mod, lt-one}
use lib.Dec.{ltb}
use borrow.Author.Tests.{ltb-true, ltb-false}
use lib.Bits.{bit_and, and_step, and_zero_r}
use lib.Count.{ones, ones_in, ones_step}
use lib.ListN.{length, get_or, take}
use Rattle.octets.specs.Bits.{digits_of, value_of}
use Rattle.octets.proofs.Digits.{Bits, cons-bits, shr-suc, digits-take, digits-zero, value-digits, value-next}
use Rattle.symbol.specs.Encoder.{bit, x1, x2, x3, ones_left, parity_of, code_of, sent_after, codes_of, register_of, held_in}

-- ---- the ones of a masked word are those of the sum by place

pub bit_below : (x : ℕ) → x % 2 < 2
bit_below x = mod-lt x (suc-le-suc zero-le)

bit-half : (x k : ℕ) → bit x (suc k) ≡ bit (x / 2) k
bit-half x k = ap (λ (y : ℕ). y % 2) (sym (shr-suc x k))

-- the lowest place first
ones-cons : (n word x : ℕ) (xs : List ℕ) → ones_left (suc n) word (x ∷ xs) ≡ word % 2 * x + ones_left n (word / 2) xs
unfolding ones_left
ones-cons zero word x xs = rw (div-one word) (omega arith)
ones-cons (suc n) word x xs =
    ap₂ (λ (y z : ℕ). y + z * get_or xs n 0) (ones-cons n word x xs) (bit-half word n) ∙ omega arith

-- of two bits, both are 1 where their product is
both : (a b : ℕ) → a < 2 → b < 2 → min a b ≡ a * b
both zero b h k = omega (arith, zero-mul b)
both (suc zero) b h k = omega (arith, one-mul b)
both (suc (suc a)) b h k = absurd (omega arith)

and_low : (a b : ℕ) → min (a % 2) (b % 2) < 2
and_low a b = lt_of_le_of_lt (min-le_left (a % 2) (b % 2)) (bit_below a)

and-half : (a b : ℕ) → bit_and a b / 2 ≡ bit_and (a / 2) (b / 2)
and-half a b = ap (λ (x : ℕ). x / 2) (and_step a b) ∙ digits_div (bit_and (a / 2) (b / 2)) (and_low a b)

and-odd : (a b : ℕ) → bit_and a b % 2 ≡ a % 2 * (b % 2)
and-odd a b =
    ap (λ (x : ℕ). x % 2) (and_step a b) ∙ digits_mod (bit_and (a / 2) (b / 2)) (and_low a b)
    ∙ both (a % 2) (b % 2) (bit_below a) (bit_below b)

pub ones-are : (n word window : ℕ) → window < 2 ^ n → ones (bit_and word window) ≡ ones_left n word (digits_of n window)
unfolding ones_left digits_of ones ones_in
ones-are zero word window h =
    ap (λ (x : ℕ). ones (bit_and word x)) (lt-one h) ∙ ap ones (and_zero_r word)
ones-are (suc n) word window h =
    let l : window / 2 < 2 ^ n = omega (arith, pow-suc 2 n) in
    ones_step (bit_and word window)
    ∙ ap₂ (λ (x y : ℕ). x + ones y) (and-odd word window) (and-half word window)
    ∙ ap (λ (x : ℕ). word % 2 * (window % 2) + x) (ones-are n (word / 2) (window / 2) l)
    ∙ sym (ones-cons n word (window % 2) (digits_of n (window / 2)))

-- ---- a register's bits

-- two lists that agree at each of the first n places, past whose ends stands 0
abbrev pub Agree : ℕ → List ℕ → List ℕ → Type 0
Agree n xs ys = (k : ℕ) → k < n → get_or xs k 0 ≡ get_or ys k 0

-- reading back a number made of bits
digits-agree : (n : ℕ) (xs : List ℕ) → Bits xs → Agree n (digits_of n (value_of (take n xs))) xs
unfolding value_of digits_of
digits-agree zero xs b k h = absurd (not-suc-le-zero h)
digits-agree (suc n) [] b zero h = refl
digits-agree (suc n) [] b (suc k) h = digits-zero n k
digits-agree (suc n) (x ∷ xs) b zero h = digits_mod (value_of (take n xs)) (b 0)
digits-agree (suc n) (x ∷ xs) b (suc k) h =
    rw (digits_div (value_of (take n xs)) (b 0)) (digits-agree n xs (λ i. b (suc i)) k (le_of_suc-le-suc h))

-- the register holds the last twenty X1 sent
pub held-sent : (sent : List ℕ) → Bits sent → Agree 20 (held_in (register_of sent)) sent
held-sent sent b = digits-agree 20 sent b

-- ---- only the last twenty X1 count

agree-cons : (n x : ℕ) (xs ys : List ℕ) → Agree n xs ys → Agree (suc n) (x ∷ xs) (x ∷ ys)
agree-cons n x xs ys e zero h = refl
agree-cons n x xs ys e (suc k) h = e k (le_of_suc-le-suc h)

pub agree-kept : (n x : ℕ) (xs ys : List ℕ) → Agree n xs ys → Agree n (x ∷ xs) (x ∷ ys)
agree-kept n x xs ys e k h = agree-cons n x xs ys e k (omega arith)

ones-agree : (n word : ℕ) (xs ys : List ℕ) → Agree n xs ys → ones_left n word xs ≡ ones_left n word ys
unfolding ones_left
ones-agree zero word xs ys e = refl
ones-agree (suc n) word xs ys e =
    ap₂ (λ (y z : ℕ). y + bit word n * z) (ones-agree n word xs ys (λ k h. e k (omega arith))) (e n (omega arith))

value-agree : (n : ℕ) (xs ys : List ℕ) → Agree n xs ys → value_of (take n xs) ≡ value_of (take n ys)
value-agree zero xs ys e = refl
value-agree (suc n) xs ys e =
    value-next xs n
    ∙ ap₂ (λ (d v : ℕ). d * 2 ^ n + v) (e n (omega arith)) (value-agree n xs ys (λ k h. e k (omega arith)))
    ∙ sym (value-next ys n)

pub register-agree : (xs ys : List ℕ) → Agree 20 xs ys → register_of xs ≡ register_of ys
register-agree xs ys e = value-agree 20 xs ys e

module _ (a b : ℕ) where
  pub code_agree : (xs ys : List ℕ) (symbol : ℕ) → Agree 20 xs ys → code_of a b xs symbol ≡ code_of a b ys symbol
  code_agree xs ys symbol e =
      let p = ones-agree 21 a (x1 symbol ∷ xs) (x1 symbol ∷ ys) (agree-cons 20 (x1 symbol) xs ys e) in
      let q = ones-agree 21 b (x1 symbol ∷ xs) (x1 symbol ∷ ys) (agree-cons 20 (x1 symbol) xs ys e) in
      ap₂ (λ (y z : ℕ). 8 * x3 symbol + 4 * x2 symbol + 2 * (y % 2) + z % 2) p q

  pub codes-agree : (symbols xs ys : List ℕ) → Agree 20 xs ys → codes_of a b xs symbols ≡ codes_of a b ys symbols
  unfolding codes_of
  codes-agree [] xs ys e = refl
  codes-agree (symbol ∷ symbols) xs ys e =
      ap₂ (λ (c : ℕ) (cs : List ℕ). c ∷ cs) (code_agree xs ys symbol e)
      (codes-agree symbols (x1 symbol ∷ xs) (x1 symbol ∷ ys) (agree-kept 20 (x1 symbol) xs ys e))

sent-agree : (symbols xs ys : List ℕ) → Agree 20 xs ys → Agree 20 (sent_after xs symbols) (sent_after ys symbols)
unfolding sent_after
sent-agree [] xs ys e = e
sent-agree (symbol ∷ symbols) xs ys e = sent-agree symbols (x1 symbol ∷ xs) (x1 symbol ∷ ys) (agree-kept 20 (x1 symbol) xs ys e)

-- stepping from a register that holds the last twenty X1 is the definition over all of them, for any number of symbols
pub codes-from-register : (a b : ℕ) (sent symbols : List ℕ) → Bits sent
    → codes_of a b (held_in (register_of sent)) symbols ≡ codes_of a b sent symbols
codes-from-register a b sent symbols h = codes-agree a b symbols (held_in (register_of sent)) sent (held-sent sent h)

pub register-from-register : (sent symbols : List ℕ) → Bits sent
    → register_of (sent_after (held_in (register_of sent)) symbols) ≡ register_of (sent_after sent symbols)
register-from-register sent symbols h =
    register-agree (sent_after (held_in (register_of sent)) symbols) (sent_after sent symbols)
    (sent-agree symbols (held_in (register_of sent)) sent (held-sent sent h))

-- ---- by place

-- code n of a run is that of symbol n after the X1 of those before it
pub code_at : (a b : ℕ) (earlier symbols : List ℕ) (n : ℕ) → n < length symbols
    → get_or (codes_of a b earlier symbols) n 0 ≡ code_of a b (sent_after earlier (take n symbols)) (get_or symbols n 0)
unfolding codes_of sent_after
code_at a b earlier [] n h = absurd (not-suc-le-zero h)
code_at a b earlier (symbol ∷ symbols) zero h = refl
code_at a b earlier (symbol ∷ symbols) (suc n) h = code_at a b (x1 symbol ∷ earlier) symbols n (le_of_suc-le-suc h)

-- behind the symbols' own X1 stand the earlier ones
pub sent-before : (earlier symbols : List ℕ) (k : ℕ) → get_or (sent_after earlier symbols) (length symbols + k) 0 ≡ get_or earlier k 0
unfolding sent_after
sent-before earlier [] k = ap (λ (i : ℕ). get_or earlier i 0) (zero-add k)
sent-before earlier (symbol ∷ symbols) k =
    let e : suc (length symbols) + k ≡ length symbols + suc k = omega arith in
    ap (λ (i : ℕ). get_or (sent_after (x1 symbol ∷ earlier) symbols) i 0) e ∙ sent-before (x1 symbol ∷ earlier) symbols (suc k)

-- the X1 sent k symbols before the last is that of the symbol k places back: x(n-k)
pub sent-at : (earlier symbols : List ℕ) (k : ℕ) → k < length symbols
    → get_or (sent_after earlier symbols) k 0 ≡ x1 (get_or symbols (length symbols - suc k) 0)
unfolding sent_after
sent-at earlier [] k h = absurd (not-suc-le-zero h)
sent-at earlier (symbol ∷ symbols) k h =
    by (ltb k (length symbols)) refl (sent-at (x1 symbol ∷ earlier) symbols k)
  where
    by : (t : Bool) → ltb k (length symbols) ≡ t
        → (k < length symbols → get_or (sent_after (x1 symbol ∷ earlier) symbols) k 0 ≡ x1 (get_or symbols (length symbols - suc k) 0))
        → get_or (sent_after (x1 symbol ∷ earlier) symbols) k 0 ≡ x1 (get_or (symbol ∷ symbols) (suc (length symbols) - suc k) 0)
    by true e rest =
        let l = ltb-true k (length symbols) e in
        let f : suc (length symbols) - suc k ≡ suc (length symbols - suc k) = omega arith in
        rest l ∙ ap (λ (i : ℕ). x1 (get_or (symbol ∷ symbols) i 0)) (sym f)
    by false e rest =
        let l = ltb-false k (length symbols) e in
        let f : suc (length symbols) - suc k ≡ 0 = omega arith in
        let g : k ≡ length symbols + 0 = omega arith in
        ap (λ (i : ℕ). get_or (sent_after (x1 symbol ∷ earlier) symbols) i 0) g
        ∙ sent-before (x1 symbol ∷ earlier) symbols 0
        ∙ ap (λ (i : ℕ). x1 (get_or (symbol ∷ symbols) i 0)) (sym f)

-- ---- two runs are one

pub codes-joined : (a b : ℕ) (earlier first second : List ℕ)
    → codes_of a b earlier (first ++ second) ≡ codes_of a b earlier first ++ codes_of a b (sent_after earlier first) second
unfolding codes_of sent_after
codes-joined a b earlier [] second = refl
codes-joined a b earlier (s ∷ first) second = ap (λ (l : List ℕ). code_of a b earlier s ∷ l) (codes-joined a b (x1 s ∷ earlier) first second)

pub sent-joined : (earlier first second : List ℕ) → sent_after earlier (first ++ second) ≡ sent_after (sent_after earlier first) second
unfolding sent_after
sent-joined earlier [] second = refl
sent-joined earlier (s ∷ first) second = sent-joined (x1 s ∷ earlier) first second

pub sent-bits : (earlier symbols : List ℕ) → Bits earlier → Bits (sent_after earlier symbols)
unfolding sent_after
sent-bits earlier [] h = h
sent-bits earlier (s ∷ symbols) h = sent-bits (x1 s ∷ earlier) symbols (cons-bits (x1 s) earlier (bit_below (s / 2 ^ 2)) h)

-- ---- what a turn computes

-- by the window, the current X1 at weight 1
pub window-parity : (word window : ℕ) → window < 2 ^ 21 → ones (bit_and word window) % 2 ≡ parity_of word (digits_of 21 window)
window-parity word window h = ap (λ (n : ℕ). n % 2) (ones-are 21 word window h)

module _ (register symbol : ℕ) (hr : register < 2 ^ 20) (hs : symbol ≤ 7) where
  abbrev window : ℕ
  window = register * 2 + symbol / 4

  window-is : digits_of 21 window ≡ x1 symbol ∷ held_in register
  unfolding digits_of
  window-is =
      let e : window % 2 ≡ x1 symbol = omega arith in
      let f : window / 2 ≡ register = omega arith in
      ap₂ (λ (x y : ℕ). x ∷ digits_of 20 y) e f

  pub turn-parity : (word : ℕ) → parity_of word (digits_of 21 window) ≡ parity_of word (x1 symbol ∷ held_in register)
  turn-parity word = ap (parity_of word) window-is

  pub turn-register : window % 2 ^ 20 ≡ register_of (x1 symbol ∷ held_in register)
  turn-register =
      sym (value-digits 20 window) ∙ ap value_of (sym (digits-take 20 21 window (omega arith)) ∙ ap (take 20) window-is)
