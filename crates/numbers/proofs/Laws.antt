-- Laws of numbers in octets, four octets each: there and back, and one after the other. Assumes nothing.
use mathlib.Core.Path.{◌≡◌, refl, sym, ap, ap₂, ◌∙◌}
use mathlib.Core.List.{List, [], ◌∷◌, ◌++◌, append-nil, append_assoc}
use Prim.Native.Nat.{ℕ, zero, suc, ◌+◌, ◌*◌, ◌/◌, ◌%◌, ◌^◌, ◌≤◌, ◌<◌}
use native.Mathlib.Nat.{not-suc-le-zero, le_of_suc-le-suc, div-div-eq-div-mul}
use native.Mathlib.Numerals.{add-one}
use native.Mathlib.Omega.{arith}
use borrow.Author.Tests.{lt-ltb}
use lib.Dec.{lit≤}
use lib.IntN.{ℤ, pos}
use lib.ListN.{length, get_or, take, drop, set, replicate, length-append, length-take, length-drop, drop_of_length-le}
use lib.Seq.{take_at, drop-drop, take-suc, take-suc-set, take_all, drop-append-add}
use lib.Signed.{mag}
use mir.Syntax.{w32}
use mir.Val.{SFits, of_z}
use borrow.Rule.Slice.PartMut.{put_mid}
use Rattle.std.specs.Int.{to_le_bytes}
use Rattle.std.proofs.lemmas.Slice.{put_mid-paste}
use Rattle.std.proofs.lemmas.List.Edits.{paste_all}
use Rattle.octets.proofs.Complement.{cast-twos}
use Rattle.octets.specs.Bits.{digits_of, value_of, bits_of, octets_of}
use Rattle.octets.specs.Signed.{signed_of, twos_of, number_bits, numbers_in}
use Rattle.octets.proofs.Digits.{value-digits, value-append}
use Rattle.octets.proofs.Laws.{Octets, bits-length, bits-bits, octets-length, bits-octets, octets-bits}
use Rattle.octets.proofs.Numbers.{number-length, number-bits, numbers-length, numbers-back, numbers-again}
use Rattle.numbers.specs.Promises.{numbers_of, number_octets, with_number, room_for}

-- ---- reading

pub numbers-many : (os : List ℕ) → length (numbers_of os) ≡ length os / 4
unfolding numbers_of
numbers-many os = numbers-length 32 (length os / 4) (bits_of os)

-- the value of four octets' bits
four-value : (a b c d : ℕ) → a < 256 → b < 256 → c < 256 → d < 256
    → value_of (digits_of 8 a ++ (digits_of 8 b ++ (digits_of 8 c ++ digits_of 8 d))) ≡ a + 256 * b + 65536 * c + 16777216 * d
unfolding digits_of
four-value a b c d p q r s =
    omega (
      arith,
      value-append (digits_of 8 a) (digits_of 8 b ++ (digits_of 8 c ++ digits_of 8 d)),
      value-append (digits_of 8 b) (digits_of 8 c ++ digits_of 8 d),
      value-append (digits_of 8 c) (digits_of 8 d),
      value-digits 8 a,
      value-digits 8 b,
      value-digits 8 c,
      value-digits 8 d,
    )

-- the first number, and the rest
first-number : (a b c d : ℕ) (os : List ℕ) (n : ℕ) → a < 256 → b < 256 → c < 256 → d < 256
    → numbers_in 32 (suc n) (bits_of (a ∷ b ∷ c ∷ d ∷ os)) ≡ signed_of 32 (a + 256 * b + 65536 * c + 16777216 * d) ∷ numbers_in 32 n (bits_of os)
unfolding numbers_in bits_of digits_of
first-number a b c d os n p q r s = ap (λ (v : ℕ). signed_of 32 v ∷ numbers_in 32 n (bits_of os)) (four-value a b c d p q r s)

-- number k is made of its four octets
number_in : (n k : ℕ) (os : List ℕ) → Octets os → k < n → 4 * k + 4 ≤ length os
    → get_or (numbers_in 32 n (bits_of os)) k (pos 0)
    ≡ signed_of 32 (get_or os (4 * k) 0 + 256 * get_or os (4 * k + 1) 0 + 65536 * get_or os (4 * k + 2) 0 + 16777216 * get_or os (4 * k + 3) 0)
number_in zero k os o h l = absurd (not-suc-le-zero h)
number_in (suc n) k [] o h l = absurd (omega arith)
number_in (suc n) k (a ∷ []) o h l = absurd (omega arith)
number_in (suc n) k (a ∷ b ∷ []) o h l = absurd (omega arith)
number_in (suc n) k (a ∷ b ∷ c ∷ []) o h l = absurd (omega arith)
number_in (suc n) zero (a ∷ b ∷ c ∷ d ∷ os) o h l = ap (λ (zs : List ℤ). get_or zs 0 (pos 0)) (first-number a b c d os n (o 0) (o 1) (o 2) (o 3))
number_in (suc n) (suc k) (a ∷ b ∷ c ∷ d ∷ os) o h l =
    ap (λ (zs : List ℤ). get_or zs (suc k) (pos 0)) (first-number a b c d os n (o 0) (o 1) (o 2) (o 3))
    ∙ number_in n k os (λ i. o (suc (suc (suc (suc i))))) (le_of_suc-le-suc h) (omega arith)
    ∙ rw (
      behind (4 * suc k) (4 * k) (omega arith),
      behind (4 * suc k + 1) (4 * k + 1) (omega arith),
      behind (4 * suc k + 2) (4 * k + 2) (omega arith),
      behind (4 * suc k + 3) (4 * k + 3) (omega arith),
    ) refl
  where
    behind : (i j : ℕ) → i ≡ suc (suc (suc (suc j))) → get_or (a ∷ b ∷ c ∷ d ∷ os) i 0 ≡ get_or os j 0
    behind i j e = ap (λ (x : ℕ). get_or (a ∷ b ∷ c ∷ d ∷ os) x 0) e

pub number_at : (os : List ℕ) (k : ℕ) → Octets os → 4 * k + 4 ≤ length os
    → get_or (numbers_of os) k (pos 0)
    ≡ signed_of 32 (get_or os (4 * k) 0 + 256 * get_or os (4 * k + 1) 0 + 65536 * get_or os (4 * k + 2) 0 + 16777216 * get_or os (4 * k + 3) 0)
unfolding numbers_of
number_at os k o h = number_in (length os / 4) k os o (omega arith) h

-- zeros behind numbers change none of them
pub padded-at : (zs : List ℤ) (n k : ℕ) → get_or (zs ++ replicate n (pos 0)) k (pos 0) ≡ get_or zs k (pos 0)
padded-at [] zero k = refl
padded-at [] (suc n) zero = refl
padded-at [] (suc n) (suc k) = padded-at [] n k
padded-at (z ∷ zs) n zero = refl
padded-at (z ∷ zs) n (suc k) = padded-at zs n k

-- one number more of a list, read into its place
pub read_next : (zs into : List ℤ) (k : ℕ) (z : ℤ) → k < length into → k < length zs → take k into ≡ take k zs → z ≡ get_or zs k (pos 0)
    → take (k + 1) (set into k z) ≡ take (k + 1) zs
read_next zs into k z h l e g =
    ap (λ (n : ℕ). take n (set into k z)) (add-one k)
    ∙ take-suc-set into k z h
    ∙ ap₂ (λ (x : List ℤ) (y : ℤ). x ++ (y ∷ [])) e g
    ∙ sym (take-suc zs k (pos 0) l)
    ∙ ap (λ (n : ℕ). take n zs) (sym (add-one k))

-- ---- writing

eighth : (n : ℕ) → n / 2 / 2 / 2 / 2 / 2 / 2 / 2 / 2 ≡ n / 256
eighth n = omega arith

-- a number's octets, and the rest
pub octets-first : (z : ℤ) (zs : List ℤ)
    → number_octets (z ∷ zs)
    ≡ twos_of 32 z % 256 ∷ twos_of 32 z / 256 % 256 ∷ twos_of 32 z / 65536 % 256 ∷ twos_of 32 z / 16777216 % 256 ∷ number_octets zs
unfolding number_octets number_bits octets_of digits_of
octets-first z zs =
    let n = twos_of 32 z in
    let e : 4 * suc (length zs) ≡ suc (suc (suc (suc (4 * length zs)))) = omega arith in
    let b : n / 2 / 2 / 2 / 2 / 2 / 2 / 2 / 2 ≡ n / 256 = eighth n in
    let c : n / 2 / 2 / 2 / 2 / 2 / 2 / 2 / 2 / 2 / 2 / 2 / 2 / 2 / 2 / 2 / 2 ≡ n / 65536 =
    eighth (n / 2 / 2 / 2 / 2 / 2 / 2 / 2 / 2) ∙ ap (λ (x : ℕ). x / 256) b ∙ div-div-eq-div-mul n 256 256 in
    let d : n / 2 / 2 / 2 / 2 / 2 / 2 / 2 / 2 / 2 / 2 / 2 / 2 / 2 / 2 / 2 / 2 / 2 / 2 / 2 / 2 / 2 / 2 / 2 / 2 ≡ n / 16777216 =
    eighth (n / 2 / 2 / 2 / 2 / 2 / 2 / 2 / 2 / 2 / 2 / 2 / 2 / 2 / 2 / 2 / 2) ∙ ap (λ (x : ℕ). x / 256) c ∙ div-div-eq-div-mul n 65536 256 in
    ap (λ (m : ℕ). octets_of m (digits_of 32 n ++ number_bits 32 zs)) e
    ∙ (λ i. value-digits 8 n i ∷ value-digits 8 (b i) i ∷ value-digits 8 (c i) i ∷ value-digits 8 (d i) i ∷ octets_of (4 * length zs) (number_bits 32 zs))

pub octets-none : number_octets [] ≡ []
unfolding number_octets octets_of
octets-none = refl

pub octets-many : (zs : List ℤ) → length (number_octets zs) ≡ 4 * length zs
unfolding number_octets
octets-many zs = octets-length (4 * length zs) (number_bits 32 zs)

pub octets-append : (ys zs : List ℤ) → number_octets (ys ++ zs) ≡ number_octets ys ++ number_octets zs
octets-append [] zs = ap (λ (l : List ℕ). l ++ number_octets zs) (sym octets-none)
octets-append (y ∷ ys) zs =
    let n = twos_of 32 y in
    octets-first y (ys ++ zs)
    ∙ ap (λ (l : List ℕ). n % 256 ∷ n / 256 % 256 ∷ n / 65536 % 256 ∷ n / 16777216 % 256 ∷ l) (octets-append ys zs)
    ∙ ap (λ (l : List ℕ). l ++ number_octets zs) (sym (octets-first y ys))

-- octets of the numbers before place k + 1 are those before place k, and those of number k
pub octets-next : (zs : List ℤ) (k : ℕ) → k < length zs → number_octets (take (k + 1) zs) ≡ number_octets (take k zs) ++ number_octets (get_or zs k (pos 0) ∷ [])
octets-next zs k h =
    ap number_octets (ap (λ (n : ℕ). take n zs) (add-one k) ∙ take-suc zs k (pos 0) h) ∙ octets-append (take k zs) (get_or zs k (pos 0) ∷ [])

-- ---- octets with one number changed

module _ (os : List ℕ) (k : ℕ) (z : ℤ) (h : 4 * k + 4 ≤ length os) where
  pub with-is : with_number os k z ≡ take (4 * k) os ++ number_octets (z ∷ []) ++ drop (4 * k + 4) os
  with-is = rw (lt-ltb k (length os / 4) (omega arith)) refl

  front-many : length (take (4 * k) os ++ number_octets (z ∷ [])) ≡ 4 * (k + 1)
  front-many = length-append (take (4 * k) os) (number_octets (z ∷ [])) ∙ omega (arith, length-take (4 * k) os, octets-many (z ∷ []))

  -- before the next number stands what stood before, and it
  pub with-next : take (4 * (k + 1)) (with_number os k z) ≡ take (4 * k) os ++ number_octets (z ∷ [])
  with-next = ap (take (4 * (k + 1))) with-is ∙ take_at (take (4 * k) os ++ number_octets (z ∷ [])) (drop (4 * k + 4) os) (4 * (k + 1)) front-many

  pub with-many : length (with_number os k z) ≡ length os
  with-many =
      ap length with-is ∙ length-append (take (4 * k) os ++ number_octets (z ∷ [])) (drop (4 * k + 4) os)
      ∙ omega (arith, front-many, length-drop (4 * k + 4) os)

-- the four octets that a machine holds of a number, where number k stood
pub number_put : (os : List ℕ) (k m : ℕ) (z : ℤ) (ys : List ℕ) → 4 * k + 4 ≤ length os → m ≡ 4 → ys ≡ to_le_bytes w32 (of_z w32 z) → SFits w32 z
    → put_mid (4 * k) m os ys ≡ with_number os k z
number_put os k m z ys h d e f =
    let N = number_octets (z ∷ []) in
    let four : ℕ → List ℕ = λ n. n % 256 ∷ n / 256 % 256 ∷ n / 65536 % 256 ∷ n / 16777216 % 256 ∷ [] in
    let y : ys ≡ N =
    e ∙ ap four (cast-twos z f)
    ∙ sym (octets-first z [] ∙ ap (λ (l : List ℕ). twos_of 32 z % 256 ∷ twos_of 32 z / 256 % 256 ∷ twos_of 32 z / 65536 % 256 ∷ twos_of 32 z / 16777216 % 256 ∷ l) octets-none) in
    let l : 4 ≡ length N = sym (octets-many (z ∷ [])) in
    put_mid-paste (4 * k) m os ys N 4 y (sym d) l ∙ paste_all os (4 * k) N 4 l ∙ sym (append_assoc (take (4 * k) os) N (drop (4 * k + 4) os))
    ∙ sym (with-is os k z h)

-- numbers put one after the other: those so far and the octets behind them, with the next number put
pub put_next : (os₀ : List ℕ) (zs : List ℤ) (k : ℕ) {s t : List ℕ} → k < length zs → 4 * k + 4 ≤ length os₀
    → s ≡ number_octets (take k zs) ++ drop (4 * k) os₀ → t ≡ with_number s k (get_or zs k (pos 0)) → t ≡ number_octets (take (k + 1) zs) ++ drop (4 * (k + 1)) os₀
put_next os₀ zs k {s} {t} h l e g =
    let z = get_or zs k (pos 0) in
    let F = number_octets (take k zs) in
    let R = drop (4 * k) os₀ in
    let many : length F ≡ 4 * k = octets-many (take k zs) ∙ omega (arith, length-take k zs) in
    let room : 4 * k + 4 ≤ length (F ++ R) = omega (arith, length-append F R, length-drop (4 * k) os₀) in
    let m : 4 * k + 4 ≡ length F + 4 = omega arith in
    let next : 4 * k + 4 ≡ 4 * (k + 1) = omega arith in
    let behind : drop (4 * k + 4) (F ++ R) ≡ drop (4 * (k + 1)) os₀ =
    ap (λ (i : ℕ). drop i (F ++ R)) m ∙ drop-append-add F R 4 ∙ drop-drop 4 (4 * k) os₀ ∙ ap (λ (i : ℕ). drop i os₀) next in
    g ∙ ap (λ (x : List ℕ). with_number x k z) e
    ∙ with-is (F ++ R) k z room
    ∙ ap₂ (λ (x y : List ℕ). x ++ number_octets (z ∷ []) ++ y) (take_at F R (4 * k) many) behind
    ∙ ap (λ (x : List ℕ). x ++ drop (4 * (k + 1)) os₀) (sym (octets-next zs k h))

-- ---- there and back

-- numbers of 32 bits are read back from their octets
pub numbers-kept : (zs : List ℤ) → ((i : ℕ) → mag (get_or zs i (pos 0)) < 2 ^ 31) → numbers_of (number_octets zs) ≡ zs
unfolding numbers_of number_octets
numbers-kept zs h =
    let B = number_bits 32 zs in
    let n : length (octets_of (4 * length zs) B) / 4 ≡ length zs = omega (arith, octets-length (4 * length zs) B) in
    let l : length B ≡ 8 * (4 * length zs) = number-length 32 zs ∙ omega arith in
    ap₂ (numbers_in 32) n (bits-octets (4 * length zs) B l (number-bits 32 zs)) ∙ numbers-back 32 (lit≤ tt) zs h

-- octets, four to a number, are those of the numbers that they stand for
pub octets-kept : (os : List ℕ) → Octets os → length os % 4 ≡ 0 → number_octets (numbers_of os) ≡ os
unfolding numbers_of number_octets
octets-kept os o h =
    let zs = numbers_in 32 (length os / 4) (bits_of os) in
    let n : 4 * length zs ≡ length os = omega (arith, numbers-length 32 (length os / 4) (bits_of os)) in
    let l : length (bits_of os) ≡ 32 * (length os / 4) = bits-length os ∙ omega arith in
    ap₂ octets_of n (numbers-again 32 (lit≤ tt) (length os / 4) (bits_of os) l (bits-bits os)) ∙ octets-bits os o

-- ---- 720 octets are 180 numbers

module _ (os : List ℕ) (l : length os ≡ 720) where
  pub numbers-whole : take 180 (numbers_of os ++ replicate 180 (pos 0)) ≡ numbers_of os
  numbers-whole = take_at (numbers_of os) (replicate 180 (pos 0)) 180 (numbers-many os ∙ omega arith)

  pub put_whole : (zs : List ℤ) → length zs ≡ 180 → number_octets (take (room_for os zs) zs) ++ drop (4 * room_for os zs) os ≡ number_octets zs
  put_whole zs n =
      let e : room_for os zs ≡ 180 = omega arith in
      ap (λ (k : ℕ). number_octets (take k zs) ++ drop (4 * k) os) e
      ∙ ap₂ (λ (x : List ℤ) (y : List ℕ). number_octets x ++ y) (take_all 180 zs (omega arith)) (drop_of_length-le os {i = 720} (omega arith))
      ∙ append-nil (number_octets zs)
