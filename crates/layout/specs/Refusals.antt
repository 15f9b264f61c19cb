-- What a writer and a reader of frames refuse, in the order of SCOPE's table.
use Rattle.std.specs.Prelude.{Bool, not, ◌&&◌, ◌||◌, List, [], ◌∷◌, ℕ, eqb, ltb, ℤ, take}
use Rattle.answer.specs.Answer.{Refusal, refuse, wrong_length}
use Rattle.octets.specs.Bits.{value_of, bits_of}
use Rattle.remainder.specs.Division.{polynomial, Remainder, generator}
use Rattle.ranges.specs.Ranges.{coefficient_count, is_coefficient, is_word, every}
use Rattle.layout.specs.Places.{reserved_length, check_width, vendor_length, frame_length, sync_field, check_field, pad_field}
use Rattle.layout.specs.Frame.{training_sync, final_sync, field_of, message_of, check_of}

-- at least 128 coefficients are in use
abbrev pub fewest : ℕ
fewest = 128

-- writing: lengths, the kind (training 0, final 1), and of a training frame the count, the coefficients in use, A and B
abbrev pub write_refusals : ℕ → ℕ → List ℤ → ℕ → ℕ → List ℕ → List ℕ → List Refusal
write_refusals kind count cs a b vendor frame =
    wrong_length cs coefficient_count ∷ wrong_length vendor vendor_length ∷ wrong_length frame frame_length
    ∷ refuse 2 (ltb 1 kind)
    ∷ refuse 3 (eqb kind 0 && (ltb count fewest || ltb coefficient_count count))
    ∷ refuse 4 (eqb kind 0 && not (every is_coefficient (take count cs)))
    ∷ refuse 4 (eqb kind 0 && not (is_word a && is_word b)) ∷ []

-- whether a frame's bits begin with a sync word
abbrev pub has_sync : List ℕ → List ℕ → Bool
has_sync word bits = eqb (value_of (field_of sync_field bits)) (value_of word)

-- the check bits are those of the message: what is left of its division
abbrev pub RightCheck : List ℕ → Type 0
RightCheck bits = Remainder check_width generator (message_of bits) (polynomial (field_of check_field bits))

-- what is wrong with a frame's bits: sync, pad, check bits. Reserved bits may be any, under the check bits
abbrev pub bit_refusals : List ℕ → List Refusal
bit_refusals bits =
    refuse 5 (not (has_sync training_sync bits || has_sync final_sync bits))
    ∷ refuse 6 (not (eqb (value_of (field_of pad_field bits)) 0))
    ∷ refuse 7 (not (eqb (polynomial (field_of check_field bits)) (check_of (message_of bits)))) ∷ []

-- checking a frame
abbrev pub check_refusals : List ℕ → List Refusal
check_refusals frame = wrong_length frame frame_length ∷ bit_refusals (bits_of frame)

-- reading one: a wrong length is answered before anything else
abbrev pub read_refusals : List ℕ → List ℤ → List ℕ → List ℕ → List Refusal
read_refusals frame cs vendor reserved =
    wrong_length frame frame_length ∷ wrong_length cs coefficient_count ∷ wrong_length vendor vendor_length ∷ wrong_length reserved reserved_length
    ∷ bit_refusals (bits_of frame)
