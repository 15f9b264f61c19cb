-- What reading a frame promises.
use Rattle.std.specs.Prelude.{◌≡◌, cond, List, ℕ, ℤ, Result, IfOk}
use Rattle.answer.specs.Answer.{answer, held}
use Rattle.answer.specs.Given.{answer_of}
use Rattle.answer.specs.declared.Refused.{Refused}
use Rattle.octets.specs.Bits.{value_of, bits_of, octets_of}
use Rattle.layout.specs.Places.{vendor_length, reserved_length, a_field, b_field, vendor_field, reserved_field}
use Rattle.layout.specs.Frame.{training_sync, field_of, coefficients_of}
use Rattle.layout.specs.Refusals.{has_sync, read_refusals}
use Rattle.reader.specs.declared.Found.{Found}
use Rattle.reader.specs.declared.Found.TheVariants.{Training, Final}

-- A and B of a training frame
abbrev pub words_in : List ℕ → Found
words_in bits = Training (value_of (field_of a_field bits)) (value_of (field_of b_field bits))

-- what a frame gives: of a training frame A and B, of a final one nothing more than its kind
abbrev pub found_in : List ℕ → Found
found_in bits = cond (has_sync training_sync bits) (words_in bits) Final

-- the coefficients' room after reading: 180 coefficients from a training frame, untouched by a final one
abbrev pub coefficients_left : List ℕ → List ℤ → List ℤ
coefficients_left bits old = cond (has_sync training_sync bits) (coefficients_of bits) old

-- vendor data's octets
abbrev pub vendor_octets : List ℕ → List ℕ
vendor_octets bits = octets_of vendor_length (field_of vendor_field bits)

-- the 67 reserved bits as nine octets, laid as in a frame; the top bits that they leave unused are zero (theorem `reserved-bits`)
abbrev pub reserved_octets : List ℕ → List ℕ
reserved_octets bits = octets_of reserved_length (field_of reserved_field bits)

-- their room after reading: those octets from a training frame, untouched by a final one
abbrev pub reserved_left : List ℕ → List ℕ → List ℕ
reserved_left bits old = cond (has_sync training_sync bits) (reserved_octets bits) old

-- read: the answer, of a frame that reads what it gives, and what the three lent rooms hold
pub record Read (frame : List ℕ) (cs : List ℤ) (vendor reserved : List ℕ) (r : Result Found Refused) (cs' : List ℤ) (vendor' reserved' : List ℕ) : Type 0 where
  pub answered : answer_of r ≡ answer (read_refusals frame cs vendor reserved)
  pub found : IfOk r (λ v. v ≡ found_in (bits_of frame))
  pub coefficients_held : cs' ≡ held (answer (read_refusals frame cs vendor reserved)) cs (coefficients_left (bits_of frame) cs)
  pub vendor_held : vendor' ≡ held (answer (read_refusals frame cs vendor reserved)) vendor (vendor_octets (bits_of frame))
  pub reserved_held : reserved' ≡ held (answer (read_refusals frame cs vendor reserved)) reserved (reserved_left (bits_of frame) reserved)
