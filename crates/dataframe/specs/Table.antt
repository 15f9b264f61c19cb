-- The data-mode frame, row by row (002, clauses 7.1.2 to 7.1.5, table 7.2): which bits stand where, for both forms and every size of payload.
use Rattle.std.specs.Prelude.{◌≡◌, Bool, cond, ◌&&◌, List, [], ◌∷◌, ℕ, ◌+◌, ◌-◌, ◌*◌, ◌/◌, ◌≤◌, eqb, leb}
use Rattle.places.specs.Streams.{Row, row}

-- ---- forms and sizes

-- the one form: the line's clock is locked to that of payload
abbrev pub synchronous : ℕ
synchronous = 0

-- the other: it is not, and stuffing bits make up for it
abbrev pub plesiochronous : ℕ
plesiochronous = 1

-- a payload sub-block of n B-channels and i Z-bits has i + 8n bits
abbrev pub sub_block : ℕ → ℕ → ℕ
sub_block n i = i + 8 * n

-- a size that the paper covers: n from 3 to 36 and i from 0 to 7, at n = 36 only 0 or 1
pub record Covers (k : ℕ) : Type 0 where
  pub n : ℕ
  pub i : ℕ
  pub least : 3 ≤ n
  pub most : n ≤ 36
  pub bits : i ≤ 7
  pub last : n ≡ 36 → i ≤ 1
  pub size : k ≡ sub_block n i

-- so every size k from 24 to 289, and no other (theorems `size-covered` and `covered-size`)
abbrev pub smallest : ℕ
smallest = sub_block 3 0

-- the largest
abbrev pub largest : ℕ
largest = sub_block 36 1

-- whether a number is a size
abbrev pub is_size : ℕ → Bool
is_size k = leb smallest k && leb k largest

-- payload in octets: 48 sub-blocks
abbrev pub payload_length : ℕ → ℕ
payload_length k = 6 * k

-- ---- the streams that a frame carries

-- sync word, 14 bits
abbrev pub sync : ℕ
sync = 0

-- the indicator bits losd, sega, ps and segd
abbrev pub indicators : ℕ
indicators = 1

-- payload, Z-bits included
abbrev pub payload : ℕ
payload = 2

-- eoc01 to eoc20
abbrev pub eoc : ℕ
eoc = 3

-- crc1 to crc6
abbrev pub crc : ℕ
crc = 4

-- of the synchronous form, the spare bits sbid1, sbid2, spa1 and spa2
abbrev pub spare : ℕ
spare = 5

-- of the plesiochronous form, the stuffing indicators sbid1 and sbid2
abbrev pub sbid : ℕ
sbid = 6

-- and the stuffing bits stb1 to stb4
abbrev pub stuffing : ℕ
stuffing = 7

-- the room behind the frame
abbrev pub unused : ℕ
unused = 8

-- ---- the table

-- to which stream sbid1 and sbid2 belong
abbrev pub marks : ℕ → ℕ
marks form = cond (eqb form synchronous) spare sbid

-- and the bits behind the last payload bit
abbrev pub ends : ℕ → ℕ
ends form = cond (eqb form synchronous) spare stuffing

-- a frame's bits up to the last of payload
abbrev pub last_payload : ℕ → ℕ
last_payload k = 48 * k + 46

-- behind it: two spare bits, or no or four stuffing bits
abbrev pub end_width : ℕ → ℕ → ℕ
end_width form stuffed = cond (eqb form synchronous) 2 stuffed

-- a frame's bits on the line
abbrev pub line_bits : ℕ → ℕ → ℕ → ℕ
line_bits form k stuffed = last_payload k + end_width form stuffed

-- the room for the form's longest frame, in octets: 1,740 and 1,741
abbrev pub room_of : ℕ → ℕ
room_of form = (line_bits form largest 4 + 7) / 8

-- the rows, each behind the one before. Three times twelve payload sub-blocks are followed by ten overhead bits
abbrev pub table : ℕ → ℕ → ℕ → List Row
table form k stuffed =
    row sync 14 ∷ row indicators 2 ∷ row payload (12 * k)
    ∷ row eoc 4 ∷ row crc 2 ∷ row indicators 1 ∷ row (marks form) 1 ∷ row eoc 2 ∷ row payload (12 * k)
    ∷ row eoc 4 ∷ row crc 2 ∷ row indicators 1 ∷ row eoc 2 ∷ row (marks form) 1 ∷ row payload (12 * k)
    ∷ row eoc 4 ∷ row crc 2 ∷ row eoc 4 ∷ row payload (12 * k)
    ∷ row (ends form) (end_width form stuffed) ∷ row unused (8 * room_of form - line_bits form k stuffed) ∷ []
