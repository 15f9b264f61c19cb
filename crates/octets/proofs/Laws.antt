-- Laws of bits in octets, of laying bits over them, and of reading what was laid. Assumes nothing.
use mathlib.Core.Path.{◌≡◌, refl, sym, ap, ap₂, ◌∙◌}
use mathlib.Core.List.{List, [], ◌∷◌, ◌++◌, append-nil}
use mathlib.Core.Logic.{◌⊎◌, inl, inr}
use Prim.Native.Nat.{ℕ, zero, suc, ◌+◌, ◌-◌, ◌*◌, ◌/◌, ◌%◌, ◌^◌, ◌≤◌, ◌<◌, zero-le, suc-le-suc, min}
use native.Mathlib.Nat.{le_of_suc-le-suc, not-suc-le-zero, zero-add, suc-add, add-zero, add-suc, suc-mul, mod-lt}
use native.Mathlib.Numerals.{add-one}
use native.Mathlib.Omega.{arith}
use native.Mathlib.Decide.{dec_lt}
use borrow.Author.Tests.{lt-ltb, le-ltb}
use lib.Dec.{ltb, eqb, eqb-suc-zero}
use lib.Pow.{pow_pos}
use lib.ListN.{length, get_or, take, drop, set, replicate, length-replicate, replicate-append-replicate, length-append, get_or-append, length-take, length-drop, take-append-drop, drop_of_length-le}
use lib.Seq.{get_or-append-add, get_or-set_other, get_or-drop, get_or-take, length-take-le, sets, length-sets, sets-eq, take_at, drop_at, take-suc, take_all, take-add, drop-drop}
use Rattle.octets.specs.Bits.{digits_of, value_of, bits_of, octets_of, bit_of, part, laid}
use Rattle.octets.proofs.Digits.{Bits, append_bits, take-bits, drop_bits, zeros-bits, digits-length, digits-bits, digits-at, digits_value, value-digits, value-part, value-append}

-- every element of s is an octet
abbrev pub Octets : List ℕ → Type 0
Octets s = (i : ℕ) → get_or s i 0 < 256

-- ---- bits of octets

pub bits-length : (s : List ℕ) → length (bits_of s) ≡ 8 * length s
unfolding bits_of
bits-length [] = refl
bits-length (o ∷ os) = length-append (digits_of 8 o) (bits_of os) ∙ omega (arith, digits-length 8 o, bits-length os)

pub bits-bits : (s : List ℕ) → Bits (bits_of s)
unfolding bits_of
bits-bits [] i = suc-le-suc zero-le
bits-bits (o ∷ os) i = append_bits (digits_of 8 o) (bits_of os) (digits-bits 8 o) (bits-bits os) i

bits_at : (s : List ℕ) (j k : ℕ) → j < length s → k < 8 → get_or (bits_of s) (j * 8 + k) 0 ≡ get_or (digits_of 8 (get_or s j 0)) k 0
unfolding bits_of
bits_at [] j k h l = absurd (not-suc-le-zero h)
bits_at (o ∷ os) zero k h l =
    ap (λ (x : ℕ). get_or (digits_of 8 o ++ bits_of os) x 0) (zero-add k)
    ∙ get_or-append (digits_of 8 o) (bits_of os) 0 k (omega (arith, digits-length 8 o))
bits_at (o ∷ os) (suc j) k h l =
    ap (λ (x : ℕ). get_or (digits_of 8 o ++ bits_of os) x 0) (omega (arith, digits-length 8 o))
    ∙ get_or-append-add (digits_of 8 o) (bits_of os) (j * 8 + k) 0
    ∙ bits_at os j k (le_of_suc-le-suc h) l

-- SCOPE: bit n has weight 2 to the power (n-1) mod 8 in octet (n-1)/8
pub weight : (s : List ℕ) (n : ℕ) → 1 ≤ n → n ≤ 8 * length s → bit_of s (n - 1) ≡ get_or s ((n - 1) / 8) 0 / 2 ^ ((n - 1) % 8) % 2
weight s n h l =
    ap (λ (x : ℕ). get_or (bits_of s) x 0) (omega arith)
    ∙ bits_at s ((n - 1) / 8) ((n - 1) % 8) (omega arith) (omega arith)
    ∙ digits-at 8 (get_or s ((n - 1) / 8) 0) ((n - 1) % 8) (omega arith)

-- ---- whether there is a bit k places behind place `at`, as the code asks it

-- the octet that holds it
abbrev holder : ℕ → ℕ → ℕ
holder at k = at / 8 + (at % 8 + k) / 8

pub has-bit : (s : List ℕ) (at k : ℕ) → ltb (holder at k) (length s) ≡ ltb (at + k) (length (bits_of s))
has-bit s at k = pick (dec_lt (holder at k) (length s))
  where
    pick : Dec (holder at k < length s) → ltb (holder at k) (length s) ≡ ltb (at + k) (length (bits_of s))
    pick (yes h) = lt-ltb (holder at k) (length s) h ∙ sym (lt-ltb (at + k) (length (bits_of s)) (omega (arith, bits-length s)))
    pick (no h) = le-ltb (holder at k) (length s) (omega arith) ∙ sym (le-ltb (at + k) (length (bits_of s)) (omega (arith, bits-length s)))

-- any part of the bits of octets is bits
pub bits-part : (s : List ℕ) (at n : ℕ) → Bits (part at n (bits_of s))
bits-part s at n = take-bits n (drop at (bits_of s)) (drop_bits at (bits_of s) (bits-bits s))

pub part-bits : (s : List ℕ) (at n k : ℕ) → Bits (take k (part at n (bits_of s)))
part-bits s at n k = take-bits k (part at n (bits_of s)) (bits-part s at n)

-- so its value is small
pub part-lt : (s : List ℕ) (at n : ℕ) → value_of (part at n (bits_of s)) < 2 ^ n
part-lt s at n = value-part n (drop at (bits_of s)) (drop_bits at (bits_of s) (bits-bits s))

-- ---- octets of bits, and bits of octets

pub octets-length : (n : ℕ) (bs : List ℕ) → length (octets_of n bs) ≡ n
unfolding octets_of
octets-length zero bs = refl
octets-length (suc n) bs = ap suc (octets-length n (drop 8 bs))

pub bits-octets : (n : ℕ) (bs : List ℕ) → length bs ≡ 8 * n → Bits bs → bits_of (octets_of n bs) ≡ bs
unfolding octets_of bits_of
bits-octets zero [] h l = refl
bits-octets zero (b ∷ bs) h l = absurd (omega arith)
bits-octets (suc n) bs h l =
    let e : length (take 8 bs) ≡ 8 = length-take-le 8 bs (omega arith) in
    let f : digits_of 8 (value_of (take 8 bs)) ≡ take 8 bs =
    ap (λ (k : ℕ). digits_of k (value_of (take 8 bs))) (sym e) ∙ digits_value (take 8 bs) (take-bits 8 bs l) in
    ap₂ ◌++◌ f (bits-octets n (drop 8 bs) (length-drop 8 bs ∙ omega arith) (drop_bits 8 bs l)) ∙ take-append-drop 8 bs

pub octets-bits : (s : List ℕ) → Octets s → octets_of (length s) (bits_of s) ≡ s
unfolding octets_of bits_of
octets-bits [] h = refl
octets-bits (o ∷ os) h =
    ap₂ (λ (x : ℕ) (y : List ℕ). x ∷ y)
    (ap value_of (take_at (digits_of 8 o) (bits_of os) 8 (digits-length 8 o)) ∙ value-digits 8 o ∙ omega (arith, h 0))
    (ap (octets_of (length os)) (drop_at (digits_of 8 o) (bits_of os) 8 (digits-length 8 o)) ∙ octets-bits os (λ i. h (suc i)))

-- octets that have known bits are those bits laid in octets
pub octets-are : (s bs : List ℕ) (n : ℕ) → length s ≡ n → Octets s → bits_of s ≡ bs → s ≡ octets_of n bs
octets-are s bs n e h f = sym (octets-bits s h) ∙ ap₂ octets_of e f

-- ---- bits laid over octets

-- a bound that old and new elements keep
pub sets_below : (m : ℕ) (l : List ℕ) (i : ℕ) (bs : List ℕ) → ((j : ℕ) → get_or l j 0 < m) → ((j : ℕ) → get_or bs j 0 < m) → (j : ℕ) → get_or (sets l i bs) j 0 < m
sets_below m l i [] h k = h
sets_below m l i (b ∷ bs) h k = sets_below m (set l i b) (suc i) bs (one l i h) (λ j. k (suc j))
  where
    one : (l : List ℕ) (i : ℕ) → ((j : ℕ) → get_or l j 0 < m) → (j : ℕ) → get_or (set l i b) j 0 < m
    one [] i h j = h j
    one (x ∷ l) zero h zero = k 0
    one (x ∷ l) zero h (suc j) = h (suc j)
    one (x ∷ l) (suc i) h zero = h 0
    one (x ∷ l) (suc i) h (suc j) = one l i (λ n. h (suc n)) j

pub sets-append : (l : List ℕ) (at : ℕ) (xs ys : List ℕ) → sets l at (xs ++ ys) ≡ sets (sets l at xs) (at + length xs) ys
sets-append l at [] ys = ap (λ (n : ℕ). sets l n ys) (sym (add-zero at))
sets-append l at (x ∷ xs) ys =
    sets-append (set l at x) (suc at) xs ys
    ∙ ap (λ (n : ℕ). sets (sets (set l at x) (suc at) xs) n ys) (suc-add at (length xs) ∙ sym (add-suc at (length xs)))

-- outside the places that are set, a list stays
pub sets-other : (l : List ℕ) (at : ℕ) (bs : List ℕ) (i : ℕ) → (i < at) ⊎ (at + length bs ≤ i) → get_or (sets l at bs) i 0 ≡ get_or l i 0
sets-other l at [] i h = refl
sets-other l at (b ∷ bs) i (inl h) =
    sets-other (set l at b) (suc at) bs i (inl (omega arith)) ∙ get_or-set_other l at i b 0 (omega arith)
sets-other l at (b ∷ bs) i (inr h) =
    sets-other (set l at b) (suc at) bs i (inr (omega arith)) ∙ get_or-set_other l at i b 0 (omega arith)

pub laid-length : (s : List ℕ) (at : ℕ) (bs : List ℕ) → length (laid s at bs) ≡ length s
unfolding laid
laid-length s at bs = octets-length (length s) (sets (bits_of s) at bs)

pub laid-bits : (s : List ℕ) (at : ℕ) (bs : List ℕ) → Bits bs → bits_of (laid s at bs) ≡ sets (bits_of s) at bs
unfolding laid
laid-bits s at bs h =
    bits-octets (length s) (sets (bits_of s) at bs) (length-sets (bits_of s) at bs ∙ bits-length s) (sets_below 2 (bits_of s) at bs (bits-bits s) h)

-- no bit laid
pub laid_none : (s : List ℕ) (at : ℕ) → Octets s → s ≡ laid s at []
unfolding laid
laid_none s at h = sym (octets-bits s h)

-- bits laid behind bits
pub laid-append : (s : List ℕ) (at : ℕ) (xs ys : List ℕ) → Bits xs → laid (laid s at xs) (at + length xs) ys ≡ laid s at (xs ++ ys)
unfolding laid
laid-append s at xs ys h =
    ap₂ (λ (n : ℕ) (l : List ℕ). octets_of n (sets l (at + length xs) ys)) (laid-length s at xs) (laid-bits s at xs h)
    ∙ ap (octets_of (length s)) (sym (sets-append (bits_of s) at xs ys))

-- the same of what stands so far: t is s with ys laid at place p, behind the xs laid from `at` on
pub laid_next : (s₀ : List ℕ) (at : ℕ) (xs ys : List ℕ) {s t : List ℕ} (p : ℕ) → Bits xs → at + length xs ≡ p → s ≡ laid s₀ at xs → t ≡ laid s p ys
    → t ≡ laid s₀ at (xs ++ ys)
laid_next s₀ at xs ys {s} {t} p h l e f =
    f ∙ ap₂ (λ (x : List ℕ) (n : ℕ). laid x n ys) e (sym l) ∙ laid-append s₀ at xs ys h

-- one bit more, laid at the next place
pub laid_more : (s₀ : List ℕ) (at : ℕ) (bs : List ℕ) (k b : ℕ) {s t : List ℕ} → Bits bs → length bs ≡ k → s ≡ laid s₀ at bs → t ≡ laid s (at + k) (b ∷ [])
    → t ≡ laid s₀ at (bs ++ (b ∷ []))
laid_more s₀ at bs k b h l e f = laid_next s₀ at bs (b ∷ []) (at + k) h (ap (λ (n : ℕ). at + n) l) e f

-- bits laid to the end: what stood before them, and they
pub laid_end : (s : List ℕ) (at : ℕ) (bs : List ℕ) → at + length bs ≡ 8 * length s → laid s at bs ≡ octets_of (length s) (take at (bits_of s) ++ bs)
unfolding laid
laid_end s at bs e =
    let B = bits_of s in
    ap (octets_of (length s))
    (sets-eq bs B at (omega (arith, bits-length s))
    ∙ ap (λ (l : List ℕ). take at B ++ bs ++ l) (drop_of_length-le B {i = at + length bs} (omega (arith, bits-length s)))
    ∙ append-nil (take at B ++ bs))

-- ---- a part of the bits of octets, taken one after the other

module _ (source : List ℕ) (from n : ℕ) where
  abbrev given : List ℕ
  given = part from n (bits_of source)

  given-length : length given ≡ min n (8 * length source - from)
  given-length = length-take n (drop from (bits_of source)) ∙ ap (min n) (length-drop from (bits_of source) ∙ ap (λ (k : ℕ). k - from) (bits-length source))

  pub part-next : (k b : ℕ) → k < n → from + k < 8 * length source → b ≡ bit_of source (from + k)
      → take k given ++ (b ∷ []) ≡ take (k + 1) given
  part-next k b h l e =
      let g : b ≡ get_or given k 0 =
      e ∙ sym (get_or-drop from (bits_of source) k 0) ∙ sym (get_or-take n (drop from (bits_of source)) k 0 h) in
      ap (λ (x : ℕ). take k given ++ (x ∷ [])) g ∙ sym (take-suc given k 0 (omega (arith, given-length))) ∙ ap (λ (m : ℕ). take m given) (sym (add-one k))

  pub part-all : (k : ℕ) → k ≡ n → take k given ≡ given
  part-all k e = take_all k given (omega (arith, given-length))

  pub part-past : (k : ℕ) → 8 * length source ≤ from + k → take k given ≡ given
  part-past k h = take_all k given (omega (arith, given-length))

-- what is past the end is left out
pub part-clipped : (s : List ℕ) (at n : ℕ) → part at (min n (8 * length s - at)) (bits_of s) ≡ part at n (bits_of s)
part-clipped s at n =
    let L = drop at (bits_of s) in
    let e : length L ≡ 8 * length s - at = length-drop at (bits_of s) ∙ ap (λ (k : ℕ). k - at) (bits-length s) in
    ap (λ (k : ℕ). take (min n k) L) (sym e) ∙ clip n L
  where
    clip : (n : ℕ) (l : List ℕ) → take (min n (length l)) l ≡ take n l
    clip n l = pick (dec_lt (length l) n)
      where
        pick : Dec (length l < n) → take (min n (length l)) l ≡ take n l
        pick (yes h) = take_all (min n (length l)) l (omega arith) ∙ sym (take_all n l (omega arith))
        pick (no h) = let e : min n (length l) ≡ n = omega arith in ap (λ (k : ℕ). take k l) e

-- ---- whether bits are all 0: the first k, and m more behind them

module _ (s : List ℕ) (at k m : ℕ) where
  abbrev seen : List ℕ
  seen = part at k (bits_of s)

  joined : value_of (part at (k + m) (bits_of s)) ≡ value_of (part (at + k) m (bits_of s)) * 2 ^ length seen + value_of seen
  joined =
      ap value_of (take-add k m (drop at (bits_of s)) ∙ ap (λ (l : List ℕ). seen ++ take m l) (drop-drop k at (bits_of s)))
      ∙ value-append seen (part (at + k) m (bits_of s))

  pub clear_both : min (value_of (part at (k + m) (bits_of s))) 1 ≡ min (value_of seen + value_of (part (at + k) m (bits_of s))) 1
  clear_both = ap (λ (x : ℕ). min x 1) joined ∙ either (value_of (part (at + k) m (bits_of s))) (2 ^ length seen) (value_of seen) (pow_pos (length seen))
    where
      either : (b p v : ℕ) → 0 < p → min (b * p + v) 1 ≡ min (v + b) 1
      either zero p v h = omega arith
      either (suc b) p v h = omega (arith, suc-mul b p)

-- ---- n bits from a place on, in three parts: those before the next octet, whole octets, and those behind them

head_small : (at n head : ℕ) → head ≡ min n ((8 - at % 8) % 8) → (head ≤ n) × (head < 8)
head_small at n head h = (omega arith, omega arith)

-- the octets, and what is before those behind them
octets-between : (n head i : ℕ) → head ≤ n → (8 * (i + (n - head) / 8 - i) ≡ (n - head) / 8 * 8) × (n - (n - head) % 8 ≡ head + (n - head) / 8 * 8)
octets-between n head i h = (omega arith, omega arith)

whole : (n head : ℕ) → head ≤ n → head + (n - head) / 8 * 8 + (n - head) % 8 ≡ n
whole n head h = omega arith

-- where there is an octet, the bits before it end at it
octet-begins : (at n head : ℕ) → head ≡ min n ((8 - at % 8) % 8) → 1 ≤ (n - head) / 8 * 8 → at + head ≡ 8 * (at / 8 + (at % 8 + 7) / 8)
octet-begins at n head h l = ends at head (short n ((8 - at % 8) % 8) head h l)
  where
    short : (n m head : ℕ) → head ≡ min n m → 1 ≤ (n - head) / 8 * 8 → head ≡ m
    short n m head h l = omega arith

    ends : (at head : ℕ) → head ≡ (8 - at % 8) % 8 → at + head ≡ 8 * (at / 8 + (at % 8 + 7) / 8)
    ends at head h = omega arith

-- whether they are all 0, as the code reads the three
pub clear-three : (s : List ℕ) (at n head : ℕ) {x y z : ℕ} → head ≡ min n ((8 - at % 8) % 8)
    → x ≡ value_of (part (at + 0) (min head 56) (bits_of s))
    → y ≡ value_of (part (8 * (at / 8 + (at % 8 + 7) / 8)) (8 * (at / 8 + (at % 8 + 7) / 8 + (n - head) / 8 - (at / 8 + (at % 8 + 7) / 8))) (bits_of s))
    → z ≡ value_of (part (at + (n - (n - head) % 8)) (min ((n - head) % 8) 56) (bits_of s))
    → min (value_of (part at n (bits_of s))) 1 ≡ min (x + y + z) 1
clear-three s at n head {x} {y} {z} h ex ey ez =
    let B = bits_of s in
    let i = at / 8 + (at % 8 + 7) / 8 in
    let k = head_small at n head h in
    let b = octets-between n head i k.0 in
    three head ((n - head) / 8 * 8) ((n - head) % 8) i (whole n head k.0) (octet-begins at n head h)
    (ex ∙ ap₂ (λ (p m : ℕ). value_of (part p m B)) (add-zero at) (few head k.1))
    (ey ∙ ap (λ (m : ℕ). value_of (part (8 * i) m B)) b.0)
    (ez ∙ ap₂ (λ (p m : ℕ). value_of (part (at + p) m B)) b.1 (few ((n - head) % 8) (mod-lt (n - head) (suc-le-suc zero-le))))
  where
    few : (m : ℕ) → m < 8 → min m 56 ≡ m
    few m l = omega arith

    middle : (a b i : ℕ) → (1 ≤ b → at + a ≡ 8 * i) → part (at + a) b (bits_of s) ≡ part (8 * i) b (bits_of s)
    middle a zero i f = refl
    middle a (suc b) i f = ap (λ (p : ℕ). part p (suc b) (bits_of s)) (f (suc-le-suc zero-le))

    three : (a b c i : ℕ) → a + b + c ≡ n → (1 ≤ b → at + a ≡ 8 * i) → x ≡ value_of (part at a (bits_of s)) → y ≡ value_of (part (8 * i) b (bits_of s))
        → z ≡ value_of (part (at + (a + b)) c (bits_of s)) → min (value_of (part at n (bits_of s))) 1 ≡ min (x + y + z) 1
    three a b c i e f ex ey ez =
        ap (λ (k : ℕ). min (value_of (part at k (bits_of s))) 1) (sym e)
        ∙ omega (arith, clear_both s at (a + b) c, clear_both s at a b, ap value_of (middle a b i f))

-- numbers of which both are 0 or neither
pub none-same : (x y : ℕ) → min x 1 ≡ min y 1 → eqb x 0 ≡ eqb y 0
none-same zero zero e = refl
none-same zero (suc y) e = absurd (omega arith)
none-same (suc x) zero e = absurd (omega arith)
none-same (suc x) (suc y) e = eqb-suc-zero x ∙ sym (eqb-suc-zero y)

-- ---- zeros laid

-- behind zeros; where there are none, the place is no matter
zeros-next : (s₀ : List ℕ) (at a b : ℕ) {s t : List ℕ} (p : ℕ) → (1 ≤ b → at + a ≡ p) → s ≡ laid s₀ at (replicate a 0) → t ≡ laid s p (replicate b 0)
    → t ≡ laid s₀ at (replicate (a + b) 0)
unfolding laid
zeros-next s₀ at a b {s} {t} p f e g =
    laid_next s₀ at (replicate a 0) (replicate b 0) (at + a) (zeros-bits a) (ap (λ (j : ℕ). at + j) (length-replicate a 0)) e (g ∙ move b f)
    ∙ ap (laid s₀ at) (replicate-append-replicate a b 0)
  where
    move : (b : ℕ) → (1 ≤ b → at + a ≡ p) → laid s p (replicate b 0) ≡ laid s (at + a) (replicate b 0)
    move zero f = refl
    move (suc b) f = ap (λ (q : ℕ). laid s q (replicate (suc b) 0)) (sym (f (suc-le-suc zero-le)))

-- in three parts, as the code lays them
pub zeros-three : (s₀ : List ℕ) (at n head : ℕ) {s t u : List ℕ} → head ≡ min n ((8 - at % 8) % 8)
    → s ≡ laid s₀ (at + 0) (replicate head 0)
    → t ≡ laid s (8 * (at / 8 + (at % 8 + 7) / 8)) (replicate (8 * (at / 8 + (at % 8 + 7) / 8 + (n - head) / 8 - (at / 8 + (at % 8 + 7) / 8))) 0)
    → u ≡ laid t (at + (n - (n - head) % 8)) (replicate ((n - head) % 8) 0)
    → u ≡ laid s₀ at (replicate n 0)
zeros-three s₀ at n head {s} {t} {u} h es et eu =
    let i = at / 8 + (at % 8 + 7) / 8 in
    let b = (n - head) / 8 * 8 in
    let c = (n - head) % 8 in
    let k = head_small at n head h in
    let o = octets-between n head i k.0 in
    zeros-next s₀ at (head + b) c (at + (head + b)) (λ some. refl)
    (zeros-next s₀ at head b (8 * i) (octet-begins at n head h)
    (es ∙ ap (λ (p : ℕ). laid s₀ p (replicate head 0)) (add-zero at))
    (et ∙ ap (λ (m : ℕ). laid s (8 * i) (replicate m 0)) o.0))
    (eu ∙ ap (λ (p : ℕ). laid t (at + p) (replicate c 0)) o.1)
    ∙ ap (λ (m : ℕ). laid s₀ at (replicate m 0)) (whole n head k.0)
