-- The listing fits a room of 4,096 octets, so that nothing is cut there. Assumes nothing.
use mathlib.Core.Path.{◌≡◌}
use mathlib.Core.Bool.{Bool, true, false, cond}
use mathlib.Core.List.{List, [], ◌∷◌}
use Prim.Native.Nat.{ℕ, zero, suc, ◌+◌, ◌*◌, ◌^◌, ◌≤◌, ◌<◌}
use Prim.Native.String.{String}
use native.Mathlib.Omega.{arith}
use lib.Dec.{lit<, lit≤}
use lib.IntN.{ℤ, pos, negsuc}
use lib.ListN.{length, get_or, take, drop, length-append}
use lib.Seq.{length-take-le}
use lib.Signed.{mag}
use Rattle.answer.specs.Answer.{answer}
use Rattle.answer.proofs.Order.{answer-within}
use Rattle.octets.specs.Bits.{value_of, bits_of}
use Rattle.octets.specs.Signed.{numbers_in}
use Rattle.octets.proofs.Digits.{Bits, take-bits, drop_bits, value-part}
use Rattle.octets.proofs.Laws.{bits-bits, octets-length}
use Rattle.octets.proofs.Complement.{signed_range}
use Rattle.octets.proofs.Numbers.{numbers-length}
use Rattle.remainder.specs.Division.{polynomial}
use Rattle.layout.specs.Places.{coefficients_field, a_field, b_field, vendor_field, check_field}
use Rattle.layout.specs.Frame.{training_sync, field_of, coefficients_of}
use Rattle.layout.specs.Refusals.{has_sync, check_refusals}
use Rattle.layout.proofs.Order.{check-order}
use Rattle.reader.specs.Promises.{vendor_octets}
use Rattle.ascii.specs.Text.{text, decimal, signed, hex}
use Rattle.ascii.proofs.Numbers.{decimal-length, hexes-length}
use Rattle.highest.specs.Highest.{highest}
use Rattle.listing.specs.Listing.{number_line, coefficient_line, coefficient_lines, vendor_line, check_line, training_lines, training_text, final_text, listed, listing}
use Rattle.ascii.proofs.Room.{told-whole}
use Rattle.listing.specs.Promises.{Listed}
use Rattle.highest.proofs.Laws.{highest-within}

-- every number of a list has 22 bits
abbrev Small : List ℤ → Type 0
Small cs = (i : ℕ) → mag (get_or cs i (pos 0)) < 2 ^ 21

numbers-small : (n : ℕ) (bits : List ℕ) → Bits bits → Small (numbers_in 22 n bits)
unfolding numbers_in
numbers-small zero bits h i = lit< tt
numbers-small (suc n) bits h zero = signed_range 22 (value_of (take 22 bits)) (lit≤ tt) (value-part 22 bits h)
numbers-small (suc n) bits h (suc i) = numbers-small n (drop 22 bits) (drop_bits 22 bits h) i

-- ---- how long each line is

signed-length : (z : ℤ) → mag z < 2 ^ 21 → length (signed z) ≤ 8
unfolding signed
signed-length (pos n) h = omega (arith, decimal-length 6 n (omega arith))
signed-length (negsuc n) h = omega (arith, length-append (text "-") (decimal (n + 1)), decimal-length 6 (n + 1) (omega arith))

line-length : (k : ℕ) (z : ℤ) → k < 1000 → mag z < 2 ^ 21 → length (coefficient_line k z) ≤ 15
unfolding coefficient_line
line-length k z h l = simp length-append (omega (arith, decimal-length 2 k h, signed-length z l))

lines-length : (k : ℕ) (cs : List ℤ) → k + length cs ≤ 1000 → Small cs → length (coefficient_lines k cs) ≤ 15 * length cs
unfolding coefficient_lines
lines-length k [] h s = omega arith
lines-length k (c ∷ cs) h s =
    omega (arith, length-append (coefficient_line k c) (coefficient_lines (suc k) cs), line-length k c (omega arith) (s 0), lines-length (suc k) cs (omega arith) (λ i. s (suc i)))

number-length : (name : String) (k n : ℕ) → n < 10 ^ suc k → length (number_line name n) ≤ length (text name) + k + 2
unfolding number_line
number-length name k n h = simp length-append (omega (arith, decimal-length k n h))

vendor-length : (os : List ℕ) → length os ≡ 16 → length (vendor_line os) ≡ 40
unfolding vendor_line
vendor-length os h = simp length-append (omega (arith, hexes-length os))

check-length : (c : ℕ) → length (check_line c) ≡ 11
unfolding check_line hex
check-length c = simp length-append

-- ---- the whole

take-small : (n : ℕ) (cs : List ℤ) → Small cs → Small (take n cs)
take-small zero cs s i = lit< tt
take-small (suc n) [] s i = lit< tt
take-small (suc n) (c ∷ cs) s zero = s 0
take-small (suc n) (c ∷ cs) s (suc i) = take-small n cs (λ j. s (suc j)) i

training-length : (cs : List ℤ) (a b : ℕ) (vendor : List ℕ) (c : ℕ) → length cs ≡ 180 → Small cs → a < 2 ^ 21 → b < 2 ^ 21 → length vendor ≡ 16
    → length (training_text cs a b vendor c) ≤ 4096
unfolding training_text training_lines
training-length cs a b vendor c l s ha hb lv =
    let n = highest cs in
    let h : n ≤ 180 = omega (arith, highest-within cs) in
    let t : length (take n cs) ≡ n = length-take-le n cs (omega arith) in
    let lines : length (coefficient_lines 1 (take n cs)) ≤ 15 * length (take n cs) = lines-length 1 (take n cs) (omega arith) (take-small n cs s) in
    simp length-append
    (omega (arith, number-length "coefficients " 2 n (omega arith), number-length "A " 6 a (omega arith), number-length "B " 6 b (omega arith), vendor-length vendor lv, check-length c))

final-length : (vendor : List ℕ) (c : ℕ) → length vendor ≡ 16 → length (final_text vendor c) ≤ 4096
unfolding final_text
final-length vendor c lv = simp length-append (omega (arith, vendor-length vendor lv, check-length c))

pub fits : (octets : List ℕ) → length (listing octets) ≤ 4096
unfolding listing listed
fits octets = go (answer (check_refusals octets)) (answer-within 1 (check_refusals octets) (check-order octets))
  where
    B : List ℕ
    B = bits_of octets

    from : (at : ℕ) → Bits (drop at B)
    from at = drop_bits at B (bits-bits octets)

    text-length : (t : Bool) → length (cond t (training_text (coefficients_of B) (value_of (field_of a_field B)) (value_of (field_of b_field B)) (vendor_octets B) (polynomial (field_of check_field B))) (final_text (vendor_octets B) (polynomial (field_of check_field B)))) ≤ 4096
    text-length true =
        training-length (coefficients_of B) (value_of (field_of a_field B)) (value_of (field_of b_field B)) (vendor_octets B) (polynomial (field_of check_field B))
        (numbers-length 22 180 (field_of coefficients_field B)) (numbers-small 180 (field_of coefficients_field B) (take-bits 3960 (drop 14 B) (from 14)))
        (value-part 21 (drop 3974 B) (from 3974)) (value-part 21 (drop 3995 B) (from 3995)) (octets-length 16 (field_of vendor_field B))
    text-length false = final-length (vendor_octets B) (polynomial (field_of check_field B)) (octets-length 16 (field_of vendor_field B))

    go : (n : ℕ) → n ≤ 7 → length (listed n B) ≤ 4096
    go zero h = text-length (has_sync training_sync B)
    go (suc n) h = omega (arith, number-length "refused " 0 (suc n) (omega arith))

-- with a room of 4,096 octets the whole listing stands at its start
pub whole : (octets room : List ℕ) (r : ℕ) (exit : List ℕ) → Listed octets room r exit → length room ≡ 4096 → take r exit ≡ listing octets
whole octets room r exit p h = told-whole (listing octets) room r exit p (omega (arith, fits octets))
