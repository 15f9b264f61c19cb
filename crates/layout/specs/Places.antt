-- Where the fields of an activation frame stand (000, clause 4.1.3): each behind those before it, as crate `places` has it for any widths.
use Rattle.std.specs.Prelude.{List, [], ◌∷◌, ℕ, ◌+◌, ◌*◌, ◌/◌}
use Rattle.places.specs.Places.{total, place_in}
use Rattle.ranges.specs.Ranges.{coefficient_count, coefficient_width, word_width}

-- the bits of sync
abbrev pub sync_width : ℕ
sync_width = 14

-- the reserved bits
abbrev pub reserved_width : ℕ
reserved_width = 67

-- the octets that those bits take: 9
abbrev pub reserved_length : ℕ
reserved_length = (reserved_width + 7) / 8

-- the check bits
abbrev pub check_width : ℕ
check_width = 16

-- the pad bits
abbrev pub pad_width : ℕ
pad_width = 5

-- vendor data is 16 octets
abbrev pub vendor_length : ℕ
vendor_length = 16

-- the widths: sync, the coefficients, A, B, vendor data, reserved, check bits, pad
abbrev pub widths : List ℕ
widths =
    sync_width ∷ coefficient_count * coefficient_width ∷ word_width ∷ word_width ∷ 8 * vendor_length ∷ reserved_width ∷ check_width ∷ pad_width ∷ []

-- in memory a frame is so many octets: 529
abbrev pub frame_length : ℕ
frame_length = total widths / 8

-- the place of field number k, from 0: the widths before it. Bit n of the paper stands at place n - 1
abbrev pub place_of : ℕ → ℕ
place_of k = place_in widths k

-- the fields' numbers, in their order. Bits 1 to 14: sync
abbrev pub sync_field : ℕ
sync_field = 0

-- bits 15 to 3974: precoder coefficients 1 to 180, 22 bits each
abbrev pub coefficients_field : ℕ
coefficients_field = 1

-- bits 3975 to 3995: A, a0 first
abbrev pub a_field : ℕ
a_field = 2

-- bits 3996 to 4016: B, b0 first
abbrev pub b_field : ℕ
b_field = 3

-- bits 4017 to 4144: vendor data
abbrev pub vendor_field : ℕ
vendor_field = 4

-- bits 4145 to 4211: reserved
abbrev pub reserved_field : ℕ
reserved_field = 5

-- bits 4212 to 4227: check bits c1 to c16
abbrev pub check_field : ℕ
check_field = 6

-- the top five bits of the last octet, which no number names: pad
abbrev pub pad_field : ℕ
pad_field = 7
