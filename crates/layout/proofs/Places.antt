-- The places of SCOPE's table; no two fields share a bit, and together they are all bits. Assumes nothing.
use mathlib.Core.Path.{◌≡◌, refl}
use mathlib.Core.List.{List}
use Prim.Native.Nat.{ℕ, ◌+◌, ◌≤◌, ◌<◌}
use lib.ListN.{length, get_or}
use Rattle.places.specs.Places.{fields_in, joined}
use Rattle.layout.specs.Places.{widths, frame_length, reserved_length, place_of, sync_field, coefficients_field, a_field, b_field, vendor_field, reserved_field}
use Rattle.layout.specs.Places.{check_field, pad_field}

-- the first bit of each field, counted from 1, the 4,227 bits of a frame without its pad, its 529 octets, and the 9 of its reserved bits
pub table : (place_of sync_field + 1 ≡ 1) × (place_of coefficients_field + 1 ≡ 15) × (place_of a_field + 1 ≡ 3975) × (place_of b_field + 1 ≡ 3996)
    × (place_of vendor_field + 1 ≡ 4017) × (place_of reserved_field + 1 ≡ 4145) × (place_of check_field + 1 ≡ 4212) × (place_of pad_field ≡ 4227) × (frame_length ≡ 529)
    × (reserved_length ≡ 9)
table = (refl, refl, refl, refl, refl, refl, refl, refl, refl, refl)

-- a field ends before each later one begins
pub apart : (i j : ℕ) → i < j → place_of i + get_or widths i 0 ≤ place_of j
apart = Rattle.places.proofs.Places.apart widths

-- a frame's bits are its eight fields, one behind the other
pub all-bits : (bits : List ℕ) → length bits ≡ 4232 → joined (fields_in widths bits) ≡ bits
all-bits = Rattle.places.proofs.Fields.all-bits widths
