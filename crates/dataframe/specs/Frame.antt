-- The data-mode frame as bits (002, clause 7.1.5): what is written, what is read, and what the check bits cover.
use Rattle.std.specs.Prelude.{Bool, cond, not, ◌||◌, List, [], ◌∷◌, ℕ, ◌+◌, ◌-◌, ◌*◌, ◌^◌, eqb, get_or, replicate}
use Rattle.octets.specs.Bits.{digits_of, value_of, bits_of, octets_of}
use Rattle.places.specs.Streams.{laid_out, among, stream_in}
use Rattle.remainder.specs.Division.{polynomial, check_bits, Remainder}
use Rattle.remainder.specs.Register.{register_of}
use Rattle.dataframe.specs.declared.Overhead.{Overhead}
use Rattle.dataframe.specs.Table.{payload_length, sync, indicators, payload, eoc, crc, spare, sbid, stuffing, unused}
use Rattle.dataframe.specs.Table.{line_bits, room_of, table}

-- ---- written

-- sbid1 and sbid2: 1 where the four stuffing bits are present
abbrev pub mark_of : ℕ → ℕ
mark_of stuffed = cond (eqb stuffed 4) 1 0

-- the streams that a frame carries, by their numbers. The first bit in time weighs least, but crc1 weighs most. Stuffing bits are ONE, and the
-- room behind the frame is zero
abbrev pub streams : ℕ → ℕ → ℕ → Overhead → List ℕ → ℕ → List ℕ
streams form k word o octets x =
    get_or (
    digits_of 14 word ∷ digits_of 4 o.indicators ∷ bits_of octets ∷ digits_of 20 o.eoc ∷ check_bits 6 o.crc ∷ digits_of 4 o.spare
    ∷ replicate 2 (mark_of o.stuffing) ∷ replicate o.stuffing 1 ∷ replicate (8 * room_of form - line_bits form k o.stuffing) 0 ∷ []
    ) x []

-- a frame's bits, and those of the room behind it: the table's rows, each with the next bits of its stream
unfoldable pub data_bits : ℕ → ℕ → ℕ → Overhead → List ℕ → List ℕ
data_bits form k word o octets = laid_out (table form k o.stuffing) (streams form k word o octets)

-- the same in octets
abbrev pub data_octets : ℕ → ℕ → ℕ → Overhead → List ℕ → List ℕ
data_octets form k word o octets = octets_of (room_of form) (data_bits form k word o octets)

-- ---- read

-- the bits of a stream up to the last payload bit, and of the synchronous form behind it: they stand where they stand, stuffing or not
abbrev pub carried : ℕ → ℕ → ℕ → List ℕ → List ℕ
carried x form k bits = stream_in x (table form k 0) bits

-- sbid1; 0 where the form has none
abbrev pub sbid1 : ℕ → ℕ → List ℕ → ℕ
sbid1 form k bits = get_or (carried sbid form k bits) 0 0

-- sbid2
abbrev pub sbid2 : ℕ → ℕ → List ℕ → ℕ
sbid2 form k bits = get_or (carried sbid form k bits) 1 0

-- how many stuffing bits a frame announces
abbrev pub stuffed_in : ℕ → ℕ → List ℕ → ℕ
stuffed_in form k bits = 4 * sbid1 form k bits

-- the stuffing bits, and the bits of the room behind the frame: they stand by what is announced
abbrev pub behind : ℕ → ℕ → ℕ → List ℕ → List ℕ
behind x form k bits = stream_in x (table form k (stuffed_in form k bits)) bits

-- what a frame carries beside payload and sync word; spare is 0 where the form has none
abbrev pub overhead_in : ℕ → ℕ → List ℕ → Overhead
overhead_in form k bits =
    record {
      indicators = value_of (carried indicators form k bits);
      eoc = value_of (carried eoc form k bits);
      spare = value_of (carried spare form k bits);
      stuffing = stuffed_in form k bits;
      crc = polynomial (carried crc form k bits);
    }

-- its payload's octets
abbrev pub payload_in : ℕ → ℕ → List ℕ → List ℕ
payload_in form k bits = octets_of (payload_length k) (carried payload form k bits)

-- ---- check bits

-- X^6 + X + 1
abbrev pub six_generator : ℕ
six_generator = 2 ^ 6 + 2 + 1

-- "all bits of the Nth frame except the fourteen sync word bits, the six crc-bits and any stuffing bits"; what is unused is no bit of the frame
abbrev pub is_covered : ℕ → Bool
is_covered x = not (eqb x sync || eqb x crc || eqb x stuffing || eqb x unused)

-- "used, in order of occurrence"
abbrev pub covered : ℕ → ℕ → List ℕ → List ℕ
covered form k bits = among is_covered (table form k 0) bits

-- the six that frame N + 1 has to carry: what is left of the division (remainder's theorem `computed`: the one of `Due`)
abbrev pub due_of : ℕ → ℕ → List ℕ → ℕ
due_of form k bits = register_of 6 six_generator 0 (covered form k bits)

-- "the polynomial is multiplied by the factor X^6, and the result is divided, modulo 2, by the generator polynomial"
abbrev pub Due : ℕ → ℕ → List ℕ → ℕ → Type 0
Due form k bits six = Remainder 6 six_generator (covered form k bits) six
