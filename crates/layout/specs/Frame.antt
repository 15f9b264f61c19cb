-- The activation frame as bits (SCOPE, "The activation frame"; 000, clause 4.1.3).
use Rattle.std.specs.Prelude.{Bool, cond, List, [], ◌∷◌, ◌++◌, ℕ, ◌-◌, ℤ, pos, take, replicate}
use Rattle.octets.specs.Bits.{digits_of, bits_of}
use Rattle.octets.specs.Signed.{number_bits, numbers_in}
use Rattle.places.specs.Places.{field_in, span_in}
use Rattle.remainder.specs.Division.{check_bits, generator}
use Rattle.remainder.specs.Register.{register_of}
use Rattle.ranges.specs.Ranges.{coefficient_count, coefficient_width, word_width}
use Rattle.layout.specs.Places.{reserved_width, check_width, pad_width, widths, coefficients_field, check_field}

-- sync is 11111001101011 in a training frame, left bit first
unfoldable pub training_sync : List ℕ
training_sync = 1 ∷ 1 ∷ 1 ∷ 1 ∷ 1 ∷ 0 ∷ 0 ∷ 1 ∷ 1 ∷ 0 ∷ 1 ∷ 0 ∷ 1 ∷ 1 ∷ []

-- and 11010110011111 in a final frame
unfoldable pub final_sync : List ℕ
final_sync = 1 ∷ 1 ∷ 0 ∷ 1 ∷ 0 ∷ 1 ∷ 1 ∷ 0 ∷ 0 ∷ 1 ∷ 1 ∷ 1 ∷ 1 ∷ 1 ∷ []

-- the sync word of a training frame, or of a final one
abbrev pub sync_word : Bool → List ℕ
sync_word training = cond training training_sync final_sync

-- coefficients one after the other, each in two's complement, least bit first
abbrev pub coefficient_bits : List ℤ → List ℕ
coefficient_bits cs = number_bits coefficient_width cs

-- the first count coefficients, and zero for the rest
abbrev pub used : ℕ → List ℤ → List ℤ
used count cs = take count cs ++ replicate (coefficient_count - count) (pos 0)

-- what stands behind them: A with a0 first, B with b0 first, vendor data, reserved
abbrev pub behind : ℕ → ℕ → List ℕ → List ℕ → List ℕ
behind a b vendor reserved = digits_of word_width a ++ (digits_of word_width b ++ (bits_of vendor ++ reserved))

-- bits 15 to 4211, over which the check bits run
unfoldable pub message : List ℤ → ℕ → ℕ → List ℕ → List ℕ → List ℕ
message cs a b vendor reserved = coefficient_bits cs ++ behind a b vendor reserved

-- the remainder of a message by the generator, as a number (remainder's theorem `computed`: the one of the division)
abbrev pub check_of : List ℕ → ℕ
check_of m = register_of check_width generator 0 m

-- a frame's 4,232 bits: sync, the message, its check bits c1 to c16, five pad bits that are zero
unfoldable pub frame_bits : List ℕ → List ℕ → List ℕ
frame_bits sync m = sync ++ (m ++ (check_bits check_width (check_of m) ++ replicate pad_width 0))

-- a training frame: the coefficients in use, A, B and vendor data; the reserved bits are zero
unfoldable pub training_bits : ℕ → List ℤ → ℕ → ℕ → List ℕ → List ℕ
training_bits count cs a b vendor = frame_bits training_sync (message (used count cs) a b vendor (replicate reserved_width 0))

-- a final frame: vendor data only, zero in the other payload fields
unfoldable pub final_bits : List ℕ → List ℕ
final_bits vendor = frame_bits final_sync (message (replicate coefficient_count (pos 0)) 0 0 vendor (replicate reserved_width 0))

-- field number k of a frame's bits
abbrev pub field_of : ℕ → List ℕ → List ℕ
field_of k bits = field_in widths k bits

-- bits 15 to 4211 of a frame's bits
abbrev pub message_of : List ℕ → List ℕ
message_of bits = span_in widths coefficients_field check_field bits

-- the coefficients of a frame's bits
abbrev pub coefficients_of : List ℕ → List ℤ
coefficients_of bits = numbers_in coefficient_width coefficient_count (field_of coefficients_field bits)
