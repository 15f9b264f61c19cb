-- Many bits at once: octets as one number, digits in parts, and a field put into them. Assumes nothing.
use mathlib.Core.Path.{◌≡◌, refl, sym, ap, ap₂, ◌∙◌, subst}
use mathlib.Core.Logic.{inr}
use mathlib.Core.List.{List, [], ◌∷◌, ◌++◌, append_assoc, append-nil}
use Prim.Native.Nat.{ℕ, zero, suc, ◌+◌, ◌-◌, ◌*◌, ◌/◌, ◌%◌, ◌^◌, ◌≤◌, ◌<◌, zero-le, suc-le-suc, min}
use native.Mathlib.Nat.{div-one, zero-add, suc-add, add-zero, mul_assoc, mod-lt, mod-one, mod-eq_of_lt, div-eq_of_lt, pow-suc}
use native.Mathlib.Decide.{dec_le, dec_lt}
use native.Mathlib.Omega.{arith}
use lib.Arith.{digits_lt, digits_div, digits_mod, mod-mul}
use lib.Dec.{lit≤}
use lib.Pow.{field, high, low, mod-mod-pow, mod-pow-add, pow_pos, pow_mono, pow-add, shl_exact, shl-shr, shr_lt, shr-shr}
use lib.Bits.{bit_and, bit_or, and_le_l, and_le_r, and_mask, or_add_and, or_shifted}
use lib.ListN.{length, get_or, take, drop, set, replicate, length-replicate, replicate-append-replicate, length-append, length-drop, take-append-drop, drop_of_length-le, get_or-eq_default}
use lib.Seq.{length-take-le, take-nil, take_at, drop_at, take-take, drop-drop, take-add, take-append-le, drop-append-le, drop-cons, get_or-take, get_or-drop, set_out, set-get_or, sets, length-sets, sets-eq}
use borrow.Rule.Slice.PartMut.{put_mid}
use Rattle.std.proofs.lemmas.Slice.{put_mid-paste}
use Rattle.std.proofs.lemmas.List.Edits.{paste_all}
use Rattle.octets.specs.Bits.{digits_of, value_of, bits_of, octets_of, part, laid}
use Rattle.octets.proofs.Digits.{Bits, take-bits, drop_bits, zeros-bits, digits-length, digits-bits, digits-at, digits-take, digits-mod-pow, digits_value, shr-suc, value-append, value-digits, value-part}
use Rattle.octets.proofs.Laws.{Octets, bits-length, part-lt, bits-bits, octets-are, octets-bits, octets-length, bits-octets, laid_next, sets_below, sets-append, sets-other, clear_both}

-- ---- digits in parts

pub digits-drop : (k n m x : ℕ) → m ≡ k + n → drop k (digits_of m x) ≡ digits_of n (x / 2 ^ k)
unfolding digits_of
digits-drop zero n m x e = ap₂ digits_of (e ∙ zero-add n) (sym (div-one x))
digits-drop (suc k) n zero x e = absurd (omega arith)
digits-drop (suc k) n (suc m) x e = digits-drop k n m (x / 2) (omega arith) ∙ ap (digits_of n) (shr-suc x k)

pub digits-cut : (k n m x : ℕ) → m ≡ k + n → digits_of m x ≡ digits_of k x ++ digits_of n (x / 2 ^ k)
digits-cut k n m x e =
    sym (take-append-drop k (digits_of m x)) ∙ ap₂ (λ (a b : List ℕ). a ++ b) (digits-take k m x (omega arith)) (digits-drop k n m x e)

-- hi above lo
pub digits-join : (k n m hi lo : ℕ) → m ≡ k + n → lo < 2 ^ k → digits_of m (hi * 2 ^ k + lo) ≡ digits_of k lo ++ digits_of n hi
digits-join k n m hi lo e h =
    digits-cut k n m (hi * 2 ^ k + lo) e
    ∙ ap₂ (λ (a : List ℕ) (b : ℕ). a ++ digits_of n b) (sym (digits-mod-pow k (hi * 2 ^ k + lo)) ∙ ap (digits_of k) (low hi k h)) (high hi k h)

-- elements that are there already
sets-own : (l : List ℕ) (at : ℕ) (bs : List ℕ) → ((i : ℕ) → i < length bs → at + i < length l → get_or bs i 0 ≡ get_or l (at + i) 0) → sets l at bs ≡ l
sets-own l at [] h = refl
sets-own l at (b ∷ bs) h =
    ap (λ (m : List ℕ). sets m (suc at) bs) one ∙ sets-own l (suc at) bs (λ i p q. h (suc i) (suc-le-suc p) (omega arith) ∙ ap (λ (k : ℕ). get_or l k 0) (omega arith))
  where
    one : set l at b ≡ l
    one = pick (dec_le (length l) at)
      where
        pick : Dec (length l ≤ at) → set l at b ≡ l
        pick (yes p) = set_out l at b p
        pick (no p) =
            ap (set l at) (h 0 (suc-le-suc zero-le) (omega arith) ∙ ap (λ (k : ℕ). get_or l k 0) (add-zero at)) ∙ set-get_or l at 0

-- ---- octets in parts

pub bits-append : (a b : List ℕ) → bits_of (a ++ b) ≡ bits_of a ++ bits_of b
unfolding bits_of
bits-append [] b = refl
bits-append (x ∷ a) b = ap (λ (l : List ℕ). digits_of 8 x ++ l) (bits-append a b) ∙ sym (append_assoc (digits_of 8 x) (bits_of a) (bits_of b))

-- the bits of the first octets, and of those behind them
bits-parts : (s : List ℕ) (i : ℕ) → i ≤ length s → (bits_of (take i s) ≡ take (8 * i) (bits_of s)) × (bits_of (drop i s) ≡ drop (8 * i) (bits_of s))
bits-parts s i h =
    let e : length (bits_of (take i s)) ≡ 8 * i = bits-length (take i s) ∙ ap (λ (n : ℕ). 8 * n) (length-take-le i s h) in
    let w : bits_of s ≡ bits_of (take i s) ++ bits_of (drop i s) = ap bits_of (sym (take-append-drop i s)) ∙ bits-append (take i s) (drop i s) in (
      sym (ap (take (8 * i)) w ∙ take_at (bits_of (take i s)) (bits_of (drop i s)) (8 * i) e),
      sym (ap (drop (8 * i)) w ∙ drop_at (bits_of (take i s)) (bits_of (drop i s)) (8 * i) e),
    )

-- n octets from octet i on
pub octets-part : (s : List ℕ) (i n : ℕ) → i + n ≤ length s → bits_of (take n (drop i s)) ≡ part (8 * i) (8 * n) (bits_of s)
octets-part s i n h =
    (bits-parts (drop i s) n (omega (arith, length-drop i s))).0 ∙ ap (take (8 * n)) (bits-parts s i (omega arith)).1

-- octets put over others, from octet i on
bits-sets-in : (s os : List ℕ) (i : ℕ) → i + length os ≤ length s → bits_of (sets s i os) ≡ sets (bits_of s) (8 * i) (bits_of os)
bits-sets-in s os i h =
    let n : 8 * (i + length os) ≡ 8 * i + length (bits_of os) = omega (arith, bits-length os) in
    ap bits_of (sets-eq os s i h)
    ∙ bits-append (take i s ++ os) (drop (i + length os) s)
    ∙ ap₂ (λ (a b : List ℕ). a ++ b)
    (bits-append (take i s) os ∙ ap (λ (l : List ℕ). l ++ bits_of os) (bits-parts s i (omega arith)).0)
    ((bits-parts s (i + length os) h).1 ∙ ap (λ (k : ℕ). drop k (bits_of s)) n)
    ∙ sym (sets-eq (bits_of os) (bits_of s) (8 * i) (omega (arith, bits-length os, bits-length s)))

-- the same where some would lie past the end
bits-sets : (s os : List ℕ) (i : ℕ) → bits_of (sets s i os) ≡ sets (bits_of s) (8 * i) (bits_of os)
unfolding bits_of
bits-sets s [] i = refl
bits-sets s (o ∷ os) i =
    let p : 8 * suc i ≡ 8 * i + length (digits_of 8 o) = omega (arith, digits-length 8 o) in
    bits-sets (set s i o) os (suc i)
    ∙ ap₂ (λ (l : List ℕ) (k : ℕ). sets l k (bits_of os)) (one (dec_lt i (length s)) ∙ ap (sets (bits_of s) (8 * i)) (append-nil (digits_of 8 o))) p
    ∙ sym (sets-append (bits_of s) (8 * i) (digits_of 8 o) (bits_of os))
  where
    one : Dec (i < length s) → bits_of (set s i o) ≡ sets (bits_of s) (8 * i) (bits_of (o ∷ []))
    one (yes h) = bits-sets-in s (o ∷ []) i (omega arith)
    one (no h) =
        ap bits_of (set_out s i o (omega arith)) ∙ sym (sets-own (bits_of s) (8 * i) (bits_of (o ∷ [])) (λ j p q. absurd (omega (arith, bits-length s))))

-- ---- bits taken n at a time

-- what comes next, behind what was taken
pub part-more : (B : List ℕ) (at m n k : ℕ) → m + n ≡ k → part at m B ++ part (at + m) n B ≡ part at k B
part-more B at m n k e =
    ap (λ (l : List ℕ). part at m B ++ take n l) (sym (drop-drop m at B)) ∙ sym (take-add m n (drop at B)) ∙ ap (λ (i : ℕ). part at i B) e

-- the digits of a field are its bits
pub field-digits : (s : List ℕ) (at n : ℕ) → at + n ≤ 8 * length s → digits_of n (value_of (part at n (bits_of s))) ≡ part at n (bits_of s)
field-digits s at n h =
    let P = part at n (bits_of s) in
    let e : length P ≡ n = length-take-le n (drop at (bits_of s)) (omega (arith, length-drop at (bits_of s), bits-length s)) in
    ap (λ (k : ℕ). digits_of k (value_of P)) (sym e) ∙ digits_value P (take-bits n (drop at (bits_of s)) (drop_bits at (bits_of s) (bits-bits s)))

-- ---- octets one by one, as one number

octet-digits : (s : List ℕ) (i : ℕ) → i < length s → digits_of 8 (get_or s i 0) ≡ part (8 * i) 8 (bits_of s)
unfolding bits_of
octet-digits s i h =
    sym (append-nil (digits_of 8 (get_or s i 0))) ∙ ap bits_of (sym (ap (take 1) (drop-cons s i 0 h))) ∙ octets-part s i 1 (omega arith)

-- ---- and back

octets-append : (m n : ℕ) (a b : List ℕ) → length a ≡ 8 * m → octets_of (m + n) (a ++ b) ≡ octets_of m a ++ octets_of n b
unfolding octets_of
octets-append zero n [] b e = ap (λ (k : ℕ). octets_of k b) (zero-add n)
octets-append zero n (x ∷ a) b e = absurd (omega arith)
octets-append (suc m) n a b e =
    let l : 8 ≤ length a = omega arith in
    ap (λ (k : ℕ). octets_of k (a ++ b)) (suc-add m n)
    ∙ ap₂ (λ (x y : List ℕ). value_of x ∷ octets_of (m + n) y) (take-append-le 8 a b l) (drop-append-le 8 a b l)
    ∙ ap (λ (y : List ℕ). value_of (take 8 a) ∷ y) (octets-append m n (drop 8 a) b (length-drop 8 a ∙ omega arith))

-- the low m octets of v, and the n above them
pub sets_more : (s : List ℕ) (i m n v : ℕ)
    → sets (sets s i (octets_of m (digits_of (8 * m) v))) (i + m) (octets_of n (digits_of (8 * n) (v / 2 ^ (8 * m)))) ≡ sets s i (octets_of (m + n) (digits_of (8 * (m + n)) v))
sets_more s i m n v =
    let a = digits_of (8 * m) v in
    let b = digits_of (8 * n) (v / 2 ^ (8 * m)) in
    ap (λ (k : ℕ). sets (sets s i (octets_of m a)) (i + k) (octets_of n b)) (sym (octets-length m a))
    ∙ sym (sets-append s i (octets_of m a) (octets_of n b))
    ∙ ap (sets s i) (sym (octets-append m n a b (digits-length (8 * m) v)) ∙ ap (octets_of (m + n)) (sym (digits-cut (8 * m) (8 * n) (8 * (m + n)) v (omega arith))))

-- one octet
one-octet : (v : ℕ) → octets_of 1 (digits_of 8 v) ≡ bit_and v 255 ∷ []
unfolding octets_of
one-octet v = ap (λ (l : List ℕ). value_of l ∷ []) (digits-take 8 8 v (lit≤ tt)) ∙ ap (λ (x : ℕ). x ∷ []) (value-digits 8 v ∙ sym (and_mask v 8))

-- one octet more, behind the low m of v that are put; rest is what is left of v
pub octets-more : (s₀ : List ℕ) (i m v k : ℕ) {rest : ℕ} {s : List ℕ} → i + m ≡ k → rest ≡ v / 2 ^ (8 * m) → s ≡ sets s₀ i (octets_of m (digits_of (8 * m) v))
    → set s k (bit_and rest 255) ≡ sets s₀ i (octets_of (m + 1) (digits_of (8 * (m + 1)) v))
octets-more s₀ i m v k {rest} {s} e f g =
    ap (sets s k) (sym (one-octet rest))
    ∙ ap₂ (λ (l : List ℕ) (j : ℕ). sets l j (octets_of 1 (digits_of 8 rest))) g (sym e)
    ∙ ap (λ (x : ℕ). sets (sets s₀ i (octets_of m (digits_of (8 * m) v))) (i + m) (octets_of 1 (digits_of 8 x))) f
    ∙ sets_more s₀ i m 1 v

-- what bits make are octets
pub octets-octets : (n : ℕ) (bs : List ℕ) → Bits bs → Octets (octets_of n bs)
unfolding octets_of
octets-octets zero bs h i = suc-le-suc zero-le
octets-octets (suc n) bs h zero = value-part 8 bs h
octets-octets (suc n) bs h (suc i) = octets-octets n (drop 8 bs) (drop_bits 8 bs h) i

-- octets put, where no more are there than the first m
pub sets-rest : (s : List ℕ) (i m n v : ℕ) → length s ≤ i + m
    → sets s i (octets_of m (digits_of (8 * m) v)) ≡ sets s i (octets_of (m + n) (digits_of (8 * (m + n)) v))
sets-rest s i m n v h =
    let S = sets s i (octets_of m (digits_of (8 * m) v)) in
    sym (sets-own S (i + m) (octets_of n (digits_of (8 * n) (v / 2 ^ (8 * m)))) (λ j p q. absurd (omega (arith, length-sets s i (octets_of m (digits_of (8 * m) v))))))
    ∙ sets_more s i m n v

-- whole octets of bits put over octets
pub octets-laid : (s bs : List ℕ) (i n : ℕ) → Octets s → Bits bs → length bs ≡ 8 * n → sets s i (octets_of n bs) ≡ laid s (8 * i) bs
unfolding laid
octets-laid s bs i n o h e =
    let O = octets_of n bs in
    octets-are (sets s i O) (sets (bits_of s) (8 * i) bs) (length s) (length-sets s i O) (sets_below 256 s i O o (octets-octets n bs h))
    (bits-sets s O i ∙ ap (sets (bits_of s) (8 * i)) (bits-octets n bs e h))

-- ---- a field read and put, by what stands in the eight octets that hold it

pub drop-take : (i k : ℕ) (l : List ℕ) → drop i (take (i + k) l) ≡ take k (drop i l)
drop-take zero k l = ap (λ (n : ℕ). take n l) (zero-add k)
drop-take (suc i) k [] = ap (λ (n : ℕ). drop (suc i) (take n [])) (suc-add i k) ∙ sym (take-nil k)
drop-take (suc i) k (x ∷ l) = ap (λ (n : ℕ). drop (suc i) (take n (x ∷ l))) (suc-add i k) ∙ drop-take i k l

-- ---- the value of a part, by the value of the whole

value-drop : (r : ℕ) (l : List ℕ) → Bits l → value_of (drop r l) ≡ value_of l / 2 ^ r
unfolding value_of
value-drop zero l h = sym (div-one (value_of l))
value-drop (suc r) [] h = sym (div-eq_of_lt (pow_pos (suc r)))
value-drop (suc r) (x ∷ l) h =
    value-drop r l (λ i. h (suc i)) ∙ ap (λ (n : ℕ). n / 2 ^ r) (sym (digits_div (value_of l) (h 0))) ∙ shr-suc (value_of l * 2 + x) r

value-take : (n : ℕ) (l : List ℕ) → Bits l → value_of (take n l) ≡ value_of l % 2 ^ n
unfolding value_of
value-take zero l h = sym (mod-one (value_of l))
value-take (suc n) [] h = sym (mod-eq_of_lt (pow_pos (suc n)))
value-take (suc n) (x ∷ l) h =
    let v = value_of l in
    let lt : x < 2 = h 0 in
    let e : (v * 2 + x) % 2 ^ suc n ≡ (v * 2 + x) / 2 % 2 ^ n * 2 + (v * 2 + x) % 2 =
    ap (λ (y : ℕ). (v * 2 + x) % y) (pow-suc 2 n) ∙ mod-mul (v * 2 + x) (pow_pos n) (suc-le-suc zero-le) in
    ap (λ (y : ℕ). y * 2 + x) (value-take n l (λ i. h (suc i))) ∙ sym (e ∙ ap₂ (λ (p q : ℕ). p % 2 ^ n * 2 + q) (digits_div v lt) (digits_mod v lt))

value-at : (l : List ℕ) (j : ℕ) → Bits l → value_of l / 2 ^ j % 2 ≡ get_or l j 0
unfolding value_of
value-at l j h =
    ap (λ (x : ℕ). x % 2) (sym (value-drop j l h)) ∙ first (drop j l) (drop_bits j l h) ∙ get_or-drop j l 0 0 ∙ ap (λ (k : ℕ). get_or l k 0) (add-zero j)
  where
    first : (m : List ℕ) → Bits m → value_of m % 2 ≡ get_or m 0 0
    first [] k = refl
    first (x ∷ m) k = digits_mod (value_of m) (k 0)

-- of 64 bits from a place on, the first n
front-value : (s : List ℕ) (p n : ℕ) → n ≤ 64 → value_of (part p 64 (bits_of s)) % 2 ^ n ≡ value_of (part p n (bits_of s))
front-value s p n h =
    let L = drop p (bits_of s) in
    sym (value-take n (take 64 L) (take-bits 64 L (drop_bits p (bits_of s) (bits-bits s)))) ∙ ap value_of (take-take n 64 L h)

-- ---- 64 bits at any place, by the two words that hold them

-- a number shifted out of its word at the top
shl-mod : (a j k w : ℕ) → w ≡ j + k → a * 2 ^ k % 2 ^ w ≡ a % 2 ^ j * 2 ^ k
shl-mod a j k w e =
    let z : a * 2 ^ k + 0 ≡ a * 2 ^ k = omega arith in
    ap (λ (n : ℕ). a * 2 ^ k % 2 ^ n) e ∙ mod-pow-add (a * 2 ^ k) j k
    ∙ ap₂ (λ (x y : ℕ). x % 2 ^ j * 2 ^ k + y) (shl-shr a k) (ap (λ (x : ℕ). x % 2 ^ k) (sym z) ∙ low a k (pow_pos k))
    ∙ omega arith

module _ (x r : ℕ) (h : r < 64) where
  -- what goes to the top of the word, as the code shifts it: by 64 - r, which may be all 64
  top : (y : ℕ) → y * 2 ^ (63 - r) % 2 ^ 64 * 2 ^ 1 % 2 ^ 64 ≡ y % 2 ^ r * 2 ^ (64 - r)
  top y =
      let c : 63 - r + 1 ≡ 64 - r = omega arith in
      ap (λ (z : ℕ). z * 2 ^ 1 % 2 ^ 64) (shl-mod y (1 + r) (63 - r) 64 (omega arith))
      ∙ ap (λ (z : ℕ). z % 2 ^ 64) (mul_assoc (y % 2 ^ (1 + r)) (2 ^ (63 - r)) (2 ^ 1) ∙ ap (λ (z : ℕ). y % 2 ^ (1 + r) * z) (sym (pow-add 2 (63 - r) 1) ∙ ap (λ (k : ℕ). 2 ^ k) c))
      ∙ shl-mod (y % 2 ^ (1 + r)) r (64 - r) 64 (omega arith)
      ∙ ap (λ (z : ℕ). z * 2 ^ (64 - r)) (mod-mod-pow y 1 r)

  two-words : bit_or (x / 2 ^ 64 % 2 ^ 64 * 2 ^ (63 - r) % 2 ^ 64 * 2 ^ 1 % 2 ^ 64) (x % 2 ^ 64 / 2 ^ r) ≡ x / 2 ^ r % 2 ^ 64
  two-words =
      let d : 64 ≡ 64 - r + r = omega arith in
      let e : 64 ≡ r + (64 - r) = omega arith in
      let hi = x / 2 ^ 64 % 2 ^ r in
      let lo = x / 2 ^ r % 2 ^ (64 - r) in
      ap₂ bit_or
      (top (x / 2 ^ 64 % 2 ^ 64) ∙ ap (λ (z : ℕ). z * 2 ^ (64 - r)) (ap (λ (k : ℕ). x / 2 ^ 64 % 2 ^ k % 2 ^ r) d ∙ mod-mod-pow (x / 2 ^ 64) (64 - r) r))
      (ap (λ (k : ℕ). x % 2 ^ k / 2 ^ r) d ∙ field x (64 - r) r)
      ∙ or_shifted hi (64 - r) lo (mod-lt (x / 2 ^ r) (pow_pos (64 - r)))
      ∙ ap (λ (k : ℕ). x / 2 ^ k % 2 ^ r * 2 ^ (64 - r) + lo) e
      ∙ ap (λ (z : ℕ). z % 2 ^ r * 2 ^ (64 - r) + lo) (sym (shr-shr x r (64 - r)))
      ∙ sym (ap (λ (k : ℕ). x / 2 ^ r % 2 ^ k) e ∙ mod-pow-add (x / 2 ^ r) r (64 - r))

-- 64 bits k behind place q
from-value : (s : List ℕ) (q k p : ℕ) → q + k ≡ p → value_of (part p 64 (bits_of s)) ≡ value_of (drop q (bits_of s)) / 2 ^ k % 2 ^ 64
from-value s q k p e =
    let L = drop q (bits_of s) in
    let ok : Bits L = drop_bits q (bits_of s) (bits-bits s) in
    ap (λ (l : List ℕ). value_of (take 64 l)) (ap (λ (i : ℕ). drop i (bits_of s)) (sym e) ∙ sym (drop-drop k q (bits_of s)))
    ∙ value-take 64 (drop k L) (drop_bits k L ok) ∙ ap (λ (x : ℕ). x % 2 ^ 64) (value-drop k L ok)

pub long-is : (s : List ℕ) (i r at : ℕ) → r < 8 → 8 * i + r ≡ at
    → bit_or (value_of (part (8 * (i + 8)) 64 (bits_of s)) * 2 ^ (63 - r) % 2 ^ 64 * 2 ^ 1 % 2 ^ 64) (value_of (part (8 * i) 64 (bits_of s)) / 2 ^ r)
    ≡ value_of (part at 64 (bits_of s))
long-is s i r at h e =
    let L = drop (8 * i) (bits_of s) in
    ap₂ (λ (y z : ℕ). bit_or (y * 2 ^ (63 - r) % 2 ^ 64 * 2 ^ 1 % 2 ^ 64) (z / 2 ^ r))
    (from-value s (8 * i) 64 (8 * (i + 8)) (omega arith)) (value-take 64 L (drop_bits (8 * i) (bits_of s) (bits-bits s)))
    ∙ two-words (value_of L) r (omega arith)
    ∙ sym (from-value s (8 * i) r at e)

-- ---- bits read and put, by what stands in the eight octets that hold them. What lies past the end reads 0 and is not written

module _ (B : List ℕ) (ok : Bits B) (first r n at : ℕ) (e : first + r ≡ at) (h : r + n ≤ 64) where
  abbrev eight-bits : List ℕ
  eight-bits = part first 64 B

  eight-ok : Bits eight-bits
  eight-ok = take-bits 64 (drop first B) (drop_bits first B ok)

  pub bits_in : value_of eight-bits / 2 ^ r % 2 ^ n ≡ value_of (part at n B)
  bits_in =
      let q : 64 ≡ r + (64 - r) = omega arith in
      ap (λ (x : ℕ). x % 2 ^ n) (sym (value-drop r eight-bits eight-ok))
      ∙ sym (value-take n (drop r eight-bits) (drop_bits r eight-bits eight-ok))
      ∙ ap value_of
      (ap (λ (k : ℕ). take n (drop r (take k (drop first B)))) q ∙ ap (take n) (drop-take r (64 - r) (drop first B))
      ∙ take-take n (64 - r) (drop r (drop first B)) (omega arith) ∙ ap (take n) (drop-drop r first B ∙ ap (λ (k : ℕ). drop k B) e))

  -- a digit of the eight octets' number is the bit at its place
  eight-at : (j : ℕ) → j < 64 → get_or (digits_of 64 (value_of eight-bits)) j 0 ≡ get_or B (first + j) 0
  eight-at j k = digits-at 64 (value_of eight-bits) j k ∙ value-at eight-bits j eight-ok ∙ get_or-take 64 (drop first B) j 0 k ∙ get_or-drop first B j 0

  pub bits_put : (v : ℕ)
      → sets B first (take r (digits_of 64 (value_of eight-bits)) ++ digits_of n v ++ drop (r + n) (digits_of 64 (value_of eight-bits))) ≡ sets B at (digits_of n v)
  bits_put v =
      let D = digits_of 64 (value_of eight-bits) in
      let P = take r D in
      let ds = digits_of n v in
      let Q = drop (r + n) D in
      let C = sets B at ds in
      let lD : length D ≡ 64 = digits-length 64 (value_of eight-bits) in
      let ld : length ds ≡ n = digits-length n v in
      let lP : length P ≡ r = length-take-le r D (omega arith) in
      let lQ : length Q ≡ 64 - (r + n) = length-drop (r + n) D ∙ ap (λ (k : ℕ). k - (r + n)) lD in
      let place : first + length (P ++ ds) ≡ at + n = ap (λ (k : ℕ). first + k) (length-append P ds) ∙ omega arith in
      sets-append B first (P ++ ds) Q
      ∙ ap₂ (λ (x : List ℕ) (k : ℕ). sets x k Q)
      (sets-append B first P ds
      ∙ ap₂ (λ (x : List ℕ) (k : ℕ). sets x k ds)
      (sets-own B first P (λ i p q. let lt : i < r = omega arith in get_or-take r D i 0 lt ∙ eight-at i (omega arith)))
      (ap (λ (k : ℕ). first + k) lP ∙ e))
      place
      ∙ sets-own C (at + n) Q
      (λ i p q.
      let lt : r + n + i < 64 = omega arith in
      let f : first + (r + n + i) ≡ at + n + i = omega arith in
      get_or-drop (r + n) D i 0 ∙ eight-at (r + n + i) lt ∙ ap (λ (k : ℕ). get_or B k 0) f ∙ sym (sets-other B at ds (at + n + i) (inr (omega arith))))

-- the first n of 64 bits from a place on
pub front-digits : (s : List ℕ) (p n v : ℕ) → n ≤ 64 → n ≤ 8 * length s - p → v ≡ value_of (part p 64 (bits_of s)) → digits_of n v ≡ part p n (bits_of s)
unfolding digits_of
front-digits s p zero v h l e = refl
front-digits s p (suc n) v h l e =
    sym (digits-mod-pow (suc n) v) ∙ ap (digits_of (suc n)) (ap (λ (x : ℕ). x % 2 ^ suc n) e ∙ front-value s p (suc n) h) ∙ field-digits s p (suc n) (omega arith)

-- the first m of 64 bits from a place on, laid behind the k before them
pub part-laid : (s₀ : List ℕ) (at : ℕ) (source : List ℕ) (from k m : ℕ) {s t : List ℕ} {v : ℕ} → m ≤ 64 → k + m ≤ 8 * length source - from
    → s ≡ laid s₀ at (part from k (bits_of source)) → v ≡ value_of (part (from + k) 64 (bits_of source)) → t ≡ laid s (at + k) (digits_of m v)
    → t ≡ laid s₀ at (part from (k + m) (bits_of source))
part-laid s₀ at source from k m {s} {t} {v} h l e f g =
    let B = bits_of source in
    let size : length (part from k B) ≡ k = length-take-le k (drop from B) (omega (arith, length-drop from B, bits-length source)) in
    laid_next s₀ at (part from k B) (part (from + k) m B) (at + k) (take-bits k (drop from B) (drop_bits from B (bits-bits source))) (ap (λ (j : ℕ). at + j) size) e
    (g ∙ ap (laid s (at + k)) (front-digits source (from + k) m v h (omega arith) f))
    ∙ ap (laid s₀ at) (part-more B from k m (k + m) refl)

-- the first n bits of a word
pub word-front : (s : List ℕ) (i n v : ℕ) → n ≤ 64 → 8 * i + n ≤ 8 * length s → v ≡ value_of (part (8 * i) 64 (bits_of s)) → digits_of n v ≡ part (8 * i) n (bits_of s)
word-front s i n v h l e = front-digits s (8 * i) n v h (omega arith) e

-- the eight octets from an octet on, with bits replaced, are those bits laid
pub bits-laid : (s : List ℕ) (i r n at v y : ℕ) → 8 * i + r ≡ at → r + n ≤ 64
    → digits_of 64 y
    ≡ take r (digits_of 64 (value_of (part (8 * i) 64 (bits_of s)))) ++ digits_of n v ++ drop (r + n) (digits_of 64 (value_of (part (8 * i) 64 (bits_of s))))
    → laid s (8 * i) (digits_of 64 y) ≡ laid s at (digits_of n v)
unfolding laid
bits-laid s i r n at v y e h f =
    ap (octets_of (length s)) (ap (sets (bits_of s) (8 * i)) f ∙ bits_put (bits_of s) (bits-bits s) (8 * i) r n at e h v)

-- bits that are there already
pub laid-own : (s : List ℕ) (p n : ℕ) → Octets s → laid s p (digits_of n (value_of (part p n (bits_of s)))) ≡ s
unfolding laid
laid-own s p n o =
    let B = bits_of s in
    let P = part p n B in
    let x = value_of P in
    ap (octets_of (length s))
    (sets-own B p (digits_of n x)
    (λ i a b. let l : i < n = omega (arith, digits-length n x) in
    digits-at n x i l ∙ value-at P i (take-bits n (drop p B) (drop_bits p B (bits-bits s))) ∙ get_or-take n (drop p B) i 0 l ∙ get_or-drop p B i 0))
    ∙ octets-bits s o

-- ---- octets one by one: past the end an octet reads 0 and is not written

pub part_none : (s : List ℕ) (at n : ℕ) → 8 * length s ≤ at → part at n (bits_of s) ≡ []
part_none s at n h = ap (take n) (drop_of_length-le (bits_of s) {i = at} (omega (arith, bits-length s))) ∙ take-nil n

-- one octet more, before those that were read
pub value-octet : (s : List ℕ) (j m : ℕ) → Octets s
    → value_of (part (8 * (j + 1)) m (bits_of s)) * 2 ^ 8 + get_or s j 0 ≡ value_of (part (8 * j) (m + 8) (bits_of s))
unfolding value_of
value-octet s j m o = pick (dec_le (length s) j)
  where
    pick : Dec (length s ≤ j) → value_of (part (8 * (j + 1)) m (bits_of s)) * 2 ^ 8 + get_or s j 0 ≡ value_of (part (8 * j) (m + 8) (bits_of s))
    pick (yes p) =
        ap₂ (λ (l : List ℕ) (x : ℕ). value_of l * 2 ^ 8 + x) (part_none s (8 * (j + 1)) m (omega arith)) (get_or-eq_default s 0 p)
        ∙ sym (ap value_of (part_none s (8 * j) (m + 8) (omega arith)))
    pick (no p) =
        let lt : j < length s = omega arith in
        let e : 8 * j + 8 ≡ 8 * (j + 1) = omega arith in
        let f : 8 + m ≡ m + 8 = omega arith in
        let d : digits_of 8 (get_or s j 0) ≡ part (8 * j) 8 (bits_of s) = octet-digits s j lt in
        let P = part (8 * (j + 1)) m (bits_of s) in
        sym (ap value_of (sym (part-more (bits_of s) (8 * j) 8 m (m + 8) f) ∙ ap₂ (λ (x : List ℕ) (k : ℕ). x ++ part k m (bits_of s)) (sym d) e)
        ∙ value-append (digits_of 8 (get_or s j 0)) P
        ∙ ap₂ (λ (k x : ℕ). value_of P * 2 ^ k + x) (digits-length 8 (get_or s j 0)) (value-digits 8 (get_or s j 0) ∙ mod-eq_of_lt (o j)))

-- one octet more before the last n, as the code takes it in
pub octet-more : (s : List ℕ) (n m v o : ℕ) → Octets s → length s ≤ 8 → n < length s → m ≡ n + 1 → o ≡ get_or s (length s - 1 - n) 0
    → v ≡ value_of (part (8 * (length s - n)) (8 * n) (bits_of s))
    → bit_or (v * 2 ^ 8 % 2 ^ 64) o ≡ value_of (part (8 * (length s - m)) (8 * m) (bits_of s))
octet-more s n m v o ok few l e d f =
    let j = length s - 1 - n in
    let k = 8 * n in
    let p : 8 * (length s - n) ≡ 8 * (j + 1) = omega arith in
    let q : k + 8 ≡ 8 * m = omega arith in
    let r : 8 * j ≡ 8 * (length s - m) = omega arith in
    let lv : v < 2 ^ k = subst (λ (x : ℕ). x < 2 ^ k) (sym f) (part-lt s (8 * (length s - n)) k) in
    let lo : o < 2 ^ 8 = subst (λ (x : ℕ). x < 2 ^ 8) (sym d) (ok j) in
    ap (λ (x : ℕ). bit_or x o) (shl_exact k 8 64 lv (omega arith)) ∙ or_shifted v 8 o lo
    ∙ ap₂ (λ (x y : ℕ). x * 2 ^ 8 + y) (f ∙ ap (λ (x : ℕ). value_of (part x k (bits_of s))) p) d
    ∙ value-octet s j k ok ∙ ap₂ (λ (x y : ℕ). value_of (part x y (bits_of s))) r q

-- one octet more of those that may all be 0, behind m of them
pub clear-octet : (s : List ℕ) (i m k all : ℕ) → Octets s → i + m ≡ k → min all 1 ≡ min (value_of (part (8 * i) (8 * m) (bits_of s))) 1
    → min (bit_or all (get_or s k 0)) 1 ≡ min (value_of (part (8 * i) (8 * m + 8) (bits_of s))) 1
unfolding value_of
clear-octet s i m k all o e h =
    let p : 8 * i + 8 * m ≡ 8 * k = omega arith in
    let x = get_or s k 0 in
    let f : value_of (part (8 * i + 8 * m) 8 (bits_of s)) ≡ x = ap (λ (q : ℕ). value_of (part q 8 (bits_of s))) p ∙ sym (value-octet s k 0 o) ∙ zero-add x in
    omega (arith, or_add_and all x, and_le_l all x, and_le_r all x, clear_both s (8 * i) (8 * m) 8)

-- eight octets written, or as many as there are
pub word-laid : (s : List ℕ) (i v : ℕ) → Octets s → sets s i (octets_of 8 (digits_of 64 v)) ≡ laid s (8 * i) (digits_of 64 v)
word-laid s i v o = octets-laid s (digits_of 64 v) i 8 o (digits-bits 64 v) (digits-length 64 v)

-- ---- octets 0

pub octets-zeros : (n : ℕ) → octets_of n (replicate (8 * n) 0) ≡ replicate n 0
unfolding octets_of value_of
octets-zeros zero = refl
octets-zeros (suc n) =
    let e : 8 * suc n ≡ suc (suc (suc (suc (suc (suc (suc (suc (8 * n)))))))) = omega arith in
    ap (λ (k : ℕ). octets_of (suc n) (replicate k 0)) e ∙ ap (λ (l : List ℕ). 0 ∷ l) (octets-zeros n)

-- m octets from octet i on become 0
pub filled : (s : List ℕ) (i m : ℕ) (ys : List ℕ) → i + m ≤ length s → ys ≡ replicate m 0 → put_mid i m s ys ≡ sets s i (replicate m 0)
filled s i m ys h e =
    let zs = replicate m 0 in
    put_mid-paste i m s ys zs m e refl (sym (length-replicate {A = ℕ} m 0)) ∙ paste_all s i zs m (sym (length-replicate {A = ℕ} m 0))
    ∙ sym (append_assoc (take i s) zs (drop (i + m) s))
    ∙ ap (λ (n : ℕ). take i s ++ zs ++ drop (i + n) s) (sym (length-replicate {A = ℕ} m 0))
    ∙ sym (sets-eq zs s i (omega (arith, length-replicate {A = ℕ} m 0)))

-- n of them are zero bits laid, where m are all that are there
pub zeros-laid : (s : List ℕ) (i m n : ℕ) → Octets s → m ≤ n → (m < n → length s ≤ i + m) → sets s i (replicate m 0) ≡ laid s (8 * i) (replicate (8 * n) 0)
zeros-laid s i m n o h l =
    let e : m + (n - m) ≡ n = omega arith in
    rest (n - m) e
    ∙ ap (sets s i) (replicate-append-replicate m (n - m) 0 ∙ ap (λ (k : ℕ). replicate k 0) e ∙ sym (octets-zeros n))
    ∙ octets-laid s (replicate (8 * n) 0) i n o (zeros-bits (8 * n)) (length-replicate (8 * n) 0)
  where
    rest : (k : ℕ) → m + k ≡ n → sets s i (replicate m 0) ≡ sets s i (replicate m 0 ++ replicate k 0)
    rest zero e = ap (sets s i) (sym (append-nil (replicate m 0)))
    rest (suc k) e =
        let S = sets s i (replicate m 0) in
        let p : length s ≤ i + m = l (omega arith) in
        sym (sets-own S (i + length (replicate {A = ℕ} m 0)) (replicate (suc k) 0) (λ j a b. absurd (omega (arith, length-sets s i (replicate m 0), length-replicate {A = ℕ} m 0))))
        ∙ sym (sets-append s i (replicate m 0) (replicate (suc k) 0))

-- ---- the digits of a number with a field of them replaced, as the code does it

module _ (x r n v : ℕ) (h : r + n ≤ 63) (hx : x < 2 ^ 64) where
  abbrev lower : ℕ
  lower = bit_or (v % 2 ^ n * 2 ^ r % 2 ^ 64) (x % 2 ^ r)

  lower-is : lower ≡ v % 2 ^ n * 2 ^ r + x % 2 ^ r
  lower-is =
      ap (λ (y : ℕ). bit_or y (x % 2 ^ r)) (shl_exact n r 64 (mod-lt v (pow_pos n)) (omega arith)) ∙ or_shifted (v % 2 ^ n) r (x % 2 ^ r) (mod-lt x (pow_pos r))

  lower-lt : lower < 2 ^ (r + n)
  lower-lt =
      let e : n + r ≡ r + n = omega arith in
      subst (λ (y : ℕ). y < 2 ^ (r + n)) (sym lower-is)
      (subst (λ (k : ℕ). v % 2 ^ n * 2 ^ r + x % 2 ^ r < 2 ^ k) e (subst (λ (y : ℕ). v % 2 ^ n * 2 ^ r + x % 2 ^ r < y) (sym (pow-add 2 n r))
      (digits_lt (mod-lt v (pow_pos n)) (mod-lt x (pow_pos r)))))

  pub replaced-is : digits_of 64 (bit_or (x / 2 ^ (r + n) * 2 ^ (r + n) % 2 ^ 64) lower) ≡ take r (digits_of 64 x) ++ digits_of n v ++ drop (r + n) (digits_of 64 x)
  replaced-is =
      let k = r + n in
      let q : 64 ≡ k + (64 - k) = omega arith in
      let o : 64 - k + k ≡ 64 = omega arith in
      let hi : x / 2 ^ k < 2 ^ (64 - k) = shr_lt (64 - k) k (subst (λ (m : ℕ). x < 2 ^ m) (sym o) hx) in
      ap (digits_of 64) (ap (λ (y : ℕ). bit_or y lower) (shl_exact (64 - k) k 64 hi (omega arith)) ∙ or_shifted (x / 2 ^ k) k lower lower-lt)
      ∙ digits-join k (64 - k) 64 (x / 2 ^ k) lower q lower-lt
      ∙ ap₂ (λ (a b : List ℕ). a ++ b)
      (ap (digits_of k) lower-is ∙ digits-join r n k (v % 2 ^ n) (x % 2 ^ r) refl (mod-lt x (pow_pos r))
      ∙ ap₂ (λ (a b : List ℕ). a ++ b) (digits-mod-pow r x ∙ sym (digits-take r 64 x (omega arith))) (digits-mod-pow n v))
      (sym (digits-drop k (64 - k) 64 x q))

-- ---- a power of two, as the code shifts it

pub size_is : (n : ℕ) → n ≤ 63 → 1 * 2 ^ n % 2 ^ 64 ≡ 2 ^ n
size_is n h = omega (arith, pow_mono h)
