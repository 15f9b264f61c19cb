-- What is put is read back, and every other bit stays: once over the bits that are put, so for a field of any width. Assumes nothing.
use mathlib.Core.Path.{◌≡◌, refl, sym, ap, ◌∙◌}
use mathlib.Core.List.{List, ◌++◌, append_assoc}
use mathlib.Core.Logic.{◌⊎◌, inl, inr}
use Prim.Native.Nat.{ℕ, ◌+◌, ◌-◌, ◌*◌, ◌%◌, ◌^◌, ◌≤◌, ◌<◌, min}
use native.Mathlib.Nat.{mod-eq_of_lt}
use native.Mathlib.Omega.{arith}
use lib.IntN.{ℤ}
use lib.ListN.{length, get_or, take, drop, length-take, length-drop}
use lib.Seq.{sets-eq, length-take-le, take_at, drop_at, drop-append-add, drop-append-le, take-append-le, take-take, drop-drop, get_or-take, get_or-drop, ext_get_or}
use lib.Signed.{mag}
use Rattle.octets.specs.Bits.{digits_of, value_of, bits_of, bit_of, part, laid}
use Rattle.octets.specs.Signed.{signed_of, twos_of}
use Rattle.octets.proofs.Digits.{Bits, digits-length, digits-bits, value-digits}
use Rattle.octets.proofs.Laws.{bits-length, laid-bits, laid-length, sets-other}
use Rattle.octets.proofs.Words.{drop-take}
use Rattle.octets.proofs.Complement.{twos-lt, signed-twos}

-- two lists of one length that agree at the places of a part have the same part
pub part_same : (l m : List ℕ) (at n : ℕ) → length l ≡ length m → ((i : ℕ) → at ≤ i → i < at + n → get_or l i 0 ≡ get_or m i 0)
    → part at n l ≡ part at n m
part_same l m at n e h =
    ext_get_or 0 (part at n l) (part at n m) (size l ∙ ap (λ (k : ℕ). min n (k - at)) e ∙ sym (size m))
    (λ i b. place l i (below i b) ∙ h (at + i) (omega arith) (omega (arith, below i b)) ∙ sym (place m i (below i b)))
  where
    size : (x : List ℕ) → length (part at n x) ≡ min n (length x - at)
    size x = length-take n (drop at x) ∙ ap (min n) (length-drop at x)

    below : (i : ℕ) → i < length (part at n l) → i < n
    below i b = omega (arith, size l)

    place : (x : List ℕ) (i : ℕ) → i < n → get_or (part at n x) i 0 ≡ get_or x (at + i) 0
    place x i b = get_or-take n (drop at x) i 0 b ∙ get_or-drop at x i 0

-- a part that lies behind p
pub part-behind : (p l : List ℕ) (at n k : ℕ) → length p + at ≡ k → part k n (p ++ l) ≡ part at n l
part-behind p l at n k e = ap (λ (i : ℕ). part i n (p ++ l)) (sym e) ∙ ap (take n) (drop-append-add p l at)

-- a part that lies before r
pub part-before : (m r : List ℕ) (at n : ℕ) → at + n ≤ length m → part at n (m ++ r) ≡ part at n m
part-before m r at n h =
    ap (take n) (drop-append-le at m r (omega arith)) ∙ take-append-le n (drop at m) r (omega (arith, length-drop at m))

-- a part of a part
pub part-part : (l : List ℕ) (at n p m k : ℕ) → at + n ≤ m → p + at ≡ k → part at n (part p m l) ≡ part k n l
part-part l at n p m k h e =
    let f : m ≡ at + (m - at) = omega arith in
    ap (λ (i : ℕ). part at n (take i (drop p l))) f
    ∙ ap (take n) (drop-take at (m - at) (drop p l))
    ∙ take-take n (m - at) (drop at (drop p l)) (omega arith)
    ∙ ap (take n) (drop-drop at p l ∙ ap (λ (i : ℕ). drop i l) e)

-- the part that begins behind p and is x
pub part-is : (p x r : List ℕ) (at n : ℕ) → length p ≡ at → length x ≡ n → part at n (p ++ (x ++ r)) ≡ x
part-is p x r at n e f = ap (take n) (drop_at p (x ++ r) at e) ∙ take_at x r n f

module _ (s : List ℕ) (at : ℕ) (bs : List ℕ) (ok : Bits bs) where
  -- every other bit stays
  pub others-stay : (i : ℕ) → (i < at) ⊎ (at + length bs ≤ i) → bit_of (laid s at bs) i ≡ bit_of s i
  others-stay i h = ap (λ (l : List ℕ). get_or l i 0) (laid-bits s at bs ok) ∙ sets-other (bits_of s) at bs i h

  -- so does every other part
  pub part_stays : (p n : ℕ) → (p + n ≤ at) ⊎ (at + length bs ≤ p) → part p n (bits_of (laid s at bs)) ≡ part p n (bits_of s)
  part_stays p n h =
      part_same (bits_of (laid s at bs)) (bits_of s) p n
      (bits-length (laid s at bs) ∙ ap (λ (k : ℕ). 8 * k) (laid-length s at bs) ∙ sym (bits-length s))
      (λ i a b. others-stay i (side i a b h))
    where
      side : (i : ℕ) → p ≤ i → i < p + n → (p + n ≤ at) ⊎ (at + length bs ≤ p) → (i < at) ⊎ (at + length bs ≤ i)
      side i a b (inl h) = inl (omega arith)
      side i a b (inr h) = inr (omega arith)

  -- what is put is read back
  pub reads-back : at + length bs ≤ 8 * length s → part at (length bs) (bits_of (laid s at bs)) ≡ bs
  reads-back h =
      let B = bits_of s in
      let R = drop (at + length bs) B in
      ap (part at (length bs)) (laid-bits s at bs ok ∙ sets-eq bs B at (omega (arith, bits-length s)) ∙ append_assoc (take at B) bs R)
      ∙ ap (take (length bs)) (drop_at (take at B) (bs ++ R) at (length-take-le at B (omega (arith, bits-length s))))
      ∙ take_at bs R (length bs) refl

-- a field of w bits
module _ (s : List ℕ) (at w : ℕ) (fits : at + w ≤ 8 * length s) where
  pub field_back : (v : ℕ) → value_of (part at w (bits_of (laid s at (digits_of w v)))) ≡ v % 2 ^ w
  field_back v =
      let D = digits_of w v in
      let e : length D ≡ w = digits-length w v in
      ap value_of (ap (λ (n : ℕ). part at n (bits_of (laid s at D))) (sym e) ∙ reads-back s at D (digits-bits w v) (omega arith)) ∙ value-digits w v

  -- and a signed one, from -2^(w-1) to 2^(w-1)-1
  pub signed_back : (z : ℤ) → 1 ≤ w → mag z < 2 ^ (w - 1) → signed_of w (value_of (part at w (bits_of (laid s at (digits_of w (twos_of w z)))))) ≡ z
  signed_back z h l = ap (signed_of w) (field_back (twos_of w z) ∙ mod-eq_of_lt (twos-lt w z)) ∙ signed-twos w z h l
