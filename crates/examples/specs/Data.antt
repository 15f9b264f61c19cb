-- Six examples of data-mode frames (SCOPE, "The data-mode frame"), all of the size k = 24: what is written, what is asked of it, and what is due. What is
-- due was worked out by hand from clause 7.1.5 of 002, and not by the definitions.
use Rattle.std.specs.Prelude.{◌≡◌, List, [], ◌∷◌, ◌++◌, ℕ, replicate, take}
use Rattle.octets.specs.Bits.{bits_of, octets_of}
use Rattle.remainder.specs.Division.{check_bits}
use Rattle.dataframe.specs.declared.Overhead.{Overhead}
use Rattle.dataframe.specs.Table.{synchronous, plesiochronous, payload_length}
use Rattle.dataframe.specs.Frame.{data_octets, due_of}
use Rattle.examples.specs.Calls.{ones_from}

-- what is asked of a frame
pub data Asked : Type 0 where
  -- the six check bits that the next frame has to carry: their number, then which of crc1 to crc6 are 1
  six : Asked
  -- so many octets, from its first on
  begins : ℕ → Asked
  -- the numbers of the bits that are 1, in the frame and in the room behind it; the first bit has number 1
  ones_in : Asked

-- a row begins with the example's number; then form, sync word, overhead and payload bits, what is asked, and the numbers due
pub data DataRow : Type 0 where
  written : ℕ → ℕ → ℕ → Overhead → List ℕ → Asked → List ℕ → DataRow

-- the size of a payload sub-block
abbrev pub size : ℕ
size = 24

-- indicators, spare and stuffing; the operations channel and the check bits carried are zero
abbrev pub overhead : ℕ → ℕ → ℕ → Overhead
overhead i s n = record { indicators = i; eoc = 0; spare = s; stuffing = n; crc = 0 }

-- nothing but zeros
abbrev pub none : Overhead
none = overhead 0 0 0

-- payload of zeros
abbrev pub no_bit : List ℕ
no_bit = replicate 1152 0

-- the last payload bit alone: payload bit 1,151, counted from 0
abbrev pub last_bit : List ℕ
last_bit = replicate 1151 0 ++ (1 ∷ [])

-- the six examples, in their order; an example with several parts has a row for each. X^6 leaves X + 1, which is 3, and two bits further on
-- it is 12. Bit 12 k + 24 is sbid1, 24 k + 36 is sbid2, 48 k + 46 is the last of payload, and stuffing follows it
unfoldable pub data_table : List DataRow
data_table =
    written 1 plesiochronous 0 none last_bit ones_in (1198 ∷ [])
    ∷ written 1 plesiochronous 0 none last_bit six (3 ∷ 5 ∷ 6 ∷ [])
    ∷ written 2 synchronous 0 none last_bit six (12 ∷ 3 ∷ 4 ∷ [])
    ∷ written 3 synchronous 0 (overhead 0 8 0) no_bit six (3 ∷ 5 ∷ 6 ∷ [])
    ∷ written 4 synchronous 0x0C3F (overhead 3 0 0) no_bit (begins 2) (0x3F ∷ 0xCC ∷ [])
    ∷ written 4 plesiochronous 0x0C3F (overhead 3 0 0) no_bit (begins 2) (0x3F ∷ 0xCC ∷ [])
    ∷ written 5 plesiochronous 0 (overhead 0 0 4) no_bit ones_in (312 ∷ 612 ∷ 1199 ∷ 1200 ∷ 1201 ∷ 1202 ∷ [])
    ∷ written 6 plesiochronous 0 (record { indicators = 8; eoc = 1; spare = 0; stuffing = 0; crc = 32 }) no_bit ones_in (305 ∷ 309 ∷ 609 ∷ [])
    ∷ written 6 synchronous 0 (overhead 1 4 0) no_bit ones_in (15 ∷ 1199 ∷ [])
    ∷ []

-- what is found in a frame's octets
unfoldable pub found : ℕ → Asked → List ℕ → List ℕ
found form six frame = let due = due_of form size (bits_of frame) in due ∷ ones_from 1 (check_bits 6 due)
found form (begins n) frame = take n frame
found form ones_in frame = ones_from 1 (bits_of frame)

-- what a row claims: that in the frame that the definitions write they find the numbers due
unfoldable pub DataClaim : DataRow → Type 0
DataClaim (written n form word o payload asked due) =
    found form asked (data_octets form size word o (octets_of (payload_length size) payload)) ≡ due

-- that every row's claim holds
unfoldable pub DataHold : List DataRow → Type 0
DataHold [] = Unit {0}
DataHold (r ∷ rs) = DataClaim r × DataHold rs
