-- Bits in whole octets that they do not fill: the bits and zeros behind them, and nothing else, over any number of them; so are the reserved bits of a
-- frame, 67 in nine octets. Assumes nothing.
use mathlib.Core.Path.{◌≡◌, refl, sym, ap, ap₂, ◌∙◌}
use mathlib.Core.List.{List, [], ◌∷◌, ◌++◌, append_assoc}
use Prim.Native.Nat.{ℕ, zero, suc, ◌+◌, ◌*◌, ◌^◌, min}
use native.Mathlib.Omega.{arith}
use lib.Dec.{lit≤}
use lib.ListN.{length, take, drop, replicate, length-append, length-drop, length-replicate}
use lib.Seq.{take_at, take-nil, drop-nil, length-take-le}
use Rattle.octets.specs.Bits.{digits_of, value_of, bits_of, octets_of, part, laid}
use Rattle.octets.specs.Promises.{WordRead, WordPut, BitsRead, FrontPut}
use Rattle.octets.proofs.Digits.{Bits, append_bits, zeros-bits, no_value, zeros-value, zeros-digits}
use Rattle.octets.proofs.Laws.{bits-octets, bits-length, bits-bits, bits-part, part-lt, laid_next, laid_end}
use Rattle.octets.proofs.Words.{digits-join, field-digits, part-more}
use Rattle.layout.specs.Places.{reserved_field}
use Rattle.layout.specs.Frame.{field_of}
use Rattle.layout.proofs.RoundTrip.{zeros-are}

-- ---- zeros behind bits change none of their octets

value-zeros : (n : ℕ) (bs : List ℕ) (k : ℕ) → value_of (take n (bs ++ replicate k 0)) ≡ value_of (take n bs)
unfolding value_of
value-zeros zero bs k = refl
value-zeros (suc n) [] zero = refl
value-zeros (suc n) [] (suc k) = omega (arith, value-zeros n [] k ∙ ap value_of (take-nil {A = ℕ} n))
value-zeros (suc n) (b ∷ bs) k = ap (λ (v : ℕ). v * 2 + b) (value-zeros n bs k)

drop-zeros : (n : ℕ) (bs : List ℕ) (k : ℕ) → (j : ℕ) × (drop n (bs ++ replicate k 0) ≡ drop n bs ++ replicate j 0)
drop-zeros zero bs k = (k, refl)
drop-zeros (suc n) [] zero = (0, refl)
drop-zeros (suc n) [] (suc k) = let d = drop-zeros n [] k in (d.0, d.1 ∙ ap (λ (l : List ℕ). l ++ replicate d.0 0) (drop-nil n))
drop-zeros (suc n) (b ∷ bs) k = drop-zeros n bs k

pub octets-zeros : (n : ℕ) (bs : List ℕ) (k : ℕ) → octets_of n (bs ++ replicate k 0) ≡ octets_of n bs
unfolding octets_of
octets-zeros zero bs k = refl
octets-zeros (suc n) bs k =
    let d = drop-zeros 8 bs k in
    ap₂ (λ (v : ℕ) (os : List ℕ). v ∷ os) (value-zeros 8 bs k) (ap (octets_of n) d.1 ∙ octets-zeros n (drop 8 bs) d.0)

-- ---- what n octets hold of bits that lack k to fill them

module _ (n k : ℕ) (bs : List ℕ) (l : length bs + k ≡ 8 * n) (h : Bits bs) where
  -- the bits and k zeros
  pub bits-and-zeros : bits_of (octets_of n bs) ≡ bs ++ replicate k 0
  bits-and-zeros =
      ap bits_of (sym (octets-zeros n bs k))
      ∙ bits-octets n (bs ++ replicate k 0) (length-append bs (replicate k 0) ∙ omega (arith, length-replicate k zero))
      (append_bits bs (replicate k 0) h (zeros-bits k))

  -- so they tell which bits they were
  pub octets-tell : (cs : List ℕ) → length cs ≡ length bs → octets_of n bs ≡ octets_of n cs → Bits cs → bs ≡ cs
  octets-tell cs m e g =
      let b : bs ++ replicate k 0 ≡ cs ++ replicate k 0 = sym bits-and-zeros ∙ ap bits_of (e ∙ sym (octets-zeros n cs k))
      ∙ bits-octets n (cs ++ replicate k 0) (length-append cs (replicate k 0) ∙ omega (arith, length-replicate k zero))
      (append_bits cs (replicate k 0) g (zeros-bits k)) in
      sym (take_at bs (replicate k 0) (length bs) refl) ∙ ap (take (length bs)) b ∙ take_at cs (replicate k 0) (length bs) m

-- zeros are zero octets
no_bits : (n : ℕ) → octets_of n [] ≡ replicate n 0
unfolding octets_of
no_bits zero = refl
no_bits (suc n) = ap₂ (λ (v : ℕ) (os : List ℕ). v ∷ os) no_value (no_bits n)

pub zeros-octets : (n k : ℕ) → octets_of n (replicate k 0) ≡ replicate n 0
zeros-octets n k = octets-zeros n [] k ∙ no_bits n

-- ---- the nine octets of reserved bits

abbrev nine : List ℕ → List ℕ
nine bits = octets_of 9 (field_of reserved_field bits)

module _ (f : List ℕ) (l : length f ≡ 529) where
  reserved-length : length (field_of reserved_field (bits_of f)) ≡ 67
  reserved-length = length-take-le 67 (drop 4144 (bits_of f)) (omega (arith, length-drop 4144 (bits_of f), bits-length f))

  -- their bits are the field and five zeros
  pub reserved-bits : bits_of (nine (bits_of f)) ≡ field_of reserved_field (bits_of f) ++ replicate 5 0
  reserved-bits = bits-and-zeros 9 5 (field_of reserved_field (bits_of f)) (omega (arith, reserved-length)) (bits-part f 4144 67)

  -- so frames with different reserved bits give different octets
  pub reserved-tell : (g : List ℕ) → length g ≡ 529 → nine (bits_of f) ≡ nine (bits_of g)
      → field_of reserved_field (bits_of f) ≡ field_of reserved_field (bits_of g)
  reserved-tell g m e =
      octets-tell 9 5 (field_of reserved_field (bits_of f)) (omega (arith, reserved-length)) (bits-part f 4144 67) (field_of reserved_field (bits_of g))
      (length-take-le 67 (drop 4144 (bits_of g)) (omega (arith, length-drop 4144 (bits_of g), bits-length g)) ∙ sym reserved-length) e (bits-part g 4144 67)

  -- they are zero exactly where the reserved bits are
  pub clear-octets : value_of (field_of reserved_field (bits_of f)) ≡ 0 → nine (bits_of f) ≡ replicate 9 0
  clear-octets z = ap (octets_of 9) (zeros-are (bits_of f) (bits-length f ∙ ap (λ (n : ℕ). 8 * n) l) (bits-bits f) 4144 67 (lit≤ tt) z) ∙ zeros-octets 9 67

  pub octets-clear : nine (bits_of f) ≡ replicate 9 0 → value_of (field_of reserved_field (bits_of f)) ≡ 0
  octets-clear e =
      ap value_of (octets-tell 9 5 (field_of reserved_field (bits_of f)) (omega (arith, reserved-length)) (bits-part f 4144 67) (replicate 67 0)
      (length-replicate 67 zero ∙ sym reserved-length) (e ∙ sym (zeros-octets 9 67)) (zeros-bits 67)) ∙ zeros-value 67

-- ---- as they are taken: 64 and 3 of them, and zeros behind them to the room's end

-- read at their places, as a word and as three bits
pub first_read : (f : List ℕ) {i r : ℕ} → WordRead f i r → i ≡ 518 → r ≡ value_of (part 4144 64 (bits_of f))
first_read f e ei = e ∙ ap (λ (x : ℕ). value_of (part (8 * x) 64 (bits_of f))) ei

pub last-read : (f : List ℕ) {at k n r : ℕ} → BitsRead f at k n r → at ≡ 4144 → k ≡ 64 → n ≡ 3 → r ≡ value_of (part 4208 3 (bits_of f))
last-read f {k = k} e ea ek en =
    e ∙ ap₂ (λ (x y : ℕ). value_of (part (x + k) (min y 56) (bits_of f))) ea en ∙ ap (λ (x : ℕ). value_of (part (4144 + x) 3 (bits_of f))) ek

module _ (f : List ℕ) (l : length f ≡ 529) where
  abbrev first : List ℕ
  first = part 4144 64 (bits_of f)

  abbrev last : List ℕ
  last = part 4208 3 (bits_of f)

  first-digits : digits_of 64 (value_of first) ≡ first
  first-digits = field-digits f 4144 64 (omega arith)

  -- a number of three bits in an octet
  last_digits : digits_of 8 (value_of last) ≡ last ++ replicate 5 0
  last_digits =
      let v = value_of last in
      let e : v ≡ 0 * 2 ^ 3 + v = omega arith in
      ap (digits_of 8) e ∙ digits-join 3 5 8 0 v refl (part-lt f 4208 3) ∙ ap₂ ◌++◌ (field-digits f 4208 3 (omega arith)) (zeros-digits 5)

  first-length : length first ≡ 64
  first-length = length-take-le 64 (drop 4144 (bits_of f)) (omega (arith, length-drop 4144 (bits_of f), bits-length f))

  last-length : length last ≡ 3
  last-length = length-take-le 3 (drop 4208 (bits_of f)) (omega (arith, length-drop 4208 (bits_of f), bits-length f))

  pub reserved-taken : (s t u : List ℕ) {j p q lo hi : ℕ} → length s ≡ 9 → lo ≡ value_of first → hi ≡ value_of last → WordPut s j lo t → FrontPut t p q hi u
      → j ≡ 0 → p ≡ 8 → q ≡ 8 → u ≡ nine (bits_of f)
  reserved-taken s t u {q = q} ls low high c d ej ep eq =
      let B = bits_of f in
      let z : List ℕ = replicate 5 0 in
      let put : t ≡ laid s 0 first = c ∙ ap₂ (λ (x y : ℕ). laid s (8 * x) (digits_of 64 y)) ej low ∙ ap (laid s 0) first-digits in
      let put_last : u ≡ laid t 64 (last ++ z) = d ∙ ap₂ (λ (x y : ℕ). laid t (8 * x) (digits_of (min q 64) y)) ep high
      ∙ ap (λ (x : ℕ). laid t 64 (digits_of (min x 64) (value_of last))) eq ∙ ap (laid t 64) last_digits in
      laid_next s 0 first (last ++ z) 64 (bits-part f 4144 64) (omega (arith, first-length)) put put_last
      ∙ laid_end s 0 (first ++ (last ++ z))
      (omega (arith, ls, length-append first (last ++ z), length-append last z, first-length, last-length, length-replicate 5 zero))
      ∙ ap₂ octets_of ls (sym (append_assoc first last z) ∙ ap (λ (x : List ℕ). x ++ z) (part-more B 4144 64 3 67 refl))
      ∙ octets-zeros 9 (part 4144 67 B) 5
