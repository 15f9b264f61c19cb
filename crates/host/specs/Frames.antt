-- What reading a frame promises: what reader promises, with the coefficients as 720 octets.
use Rattle.std.specs.Prelude.{◌≡◌, cond, List, ◌∷◌, ℕ, zero, suc}
use Rattle.layout.specs.Places.{vendor_length, reserved_length, frame_length, a_field, b_field}
use Rattle.answer.specs.Answer.{Refusal, wrong_length, answer, held}
use Rattle.octets.specs.Bits.{value_of, bits_of}
use Rattle.layout.specs.Frame.{training_sync, field_of, coefficients_of}
use Rattle.layout.specs.Refusals.{has_sync, bit_refusals}
use Rattle.numbers.specs.Promises.{coefficients_length, number_octets}
use Rattle.reader.specs.Promises.{vendor_octets, reserved_left}
use Rattle.host.specs.declared.frames.FrameFields.{FrameFields}

-- reading refuses a wrong length before anything else
abbrev pub frame_read_refusals : List ℕ → List ℕ → List ℕ → List ℕ → List Refusal
frame_read_refusals frame os vendor reserved =
    wrong_length os coefficients_length ∷ wrong_length frame frame_length ∷ wrong_length vendor vendor_length ∷ wrong_length reserved reserved_length
    ∷ bit_refusals (bits_of frame)

-- what is returned: of a training frame kind 0, A and B; of a final frame kind 1; with a refusal 0 for every other number
abbrev pub found_of : ℕ → List ℕ → FrameFields
found_of zero bits =
    cond (has_sync training_sync bits)
    (record { answer = 0; kind = 0; a = value_of (field_of a_field bits); b = value_of (field_of b_field bits) })
    (record { answer = 0; kind = 1; a = 0; b = 0 })
found_of (suc n) bits = record { answer = suc n; kind = 0; a = 0; b = 0 }

-- the coefficients' octets after reading: written from a training frame, untouched by a final one
abbrev pub coefficient_octets : List ℕ → List ℕ → List ℕ
coefficient_octets bits old = cond (has_sync training_sync bits) (number_octets (coefficients_of bits)) old

-- sdsl_frame_read: what is returned, and what the three lent buffers hold
pub record FrameRead (frame os vendor reserved : List ℕ) (r : FrameFields) (os' vendor' reserved' : List ℕ) : Type 0 where
  pub found : r ≡ found_of (answer (frame_read_refusals frame os vendor reserved)) (bits_of frame)
  pub coefficients_held : os' ≡ held (answer (frame_read_refusals frame os vendor reserved)) os (coefficient_octets (bits_of frame) os)
  pub vendor_held : vendor' ≡ held (answer (frame_read_refusals frame os vendor reserved)) vendor (vendor_octets (bits_of frame))
  pub reserved_held : reserved' ≡ held (answer (frame_read_refusals frame os vendor reserved)) reserved (reserved_left (bits_of frame) reserved)
