-- Where each bit of a data-mode frame stands (002, table 7.2), by a formula over the size k. Bits count from 1 as in the paper, payload bits from 0.
use Rattle.std.specs.Prelude.{◌≡◌, Bool, cond, not, ◌||◌, List, [], ◌∷◌, ◌++◌, ℕ, zero, suc, ◌+◌, ◌-◌, ◌*◌, ◌/◌, ◌≤◌, ◌<◌, eqb}
use Rattle.places.specs.Streams.{Row, among}
use Rattle.dataframe.specs.Table.{payload, unused, end_width, table}

-- twelve sub-blocks
abbrev pub block : ℕ → ℕ
block k = 12 * k

-- the frame bit of payload bit p: ten overhead bits more stand before each block but the first
abbrev pub payload_place : ℕ → ℕ → ℕ
payload_place k p = 17 + p + 10 * (p / block k)

-- the frame bit of overhead bit o, as table 7.2 numbers them (OH bit): 1 to 16 before the first block, then ten before each, 47 to 50 at the end
abbrev pub overhead_place : ℕ → ℕ → ℕ
overhead_place k o = o + block k * ((o - 7) / 10)

-- how many payload bits there are
abbrev pub payload_bits : ℕ → ℕ
payload_bits k = 48 * k

-- and how many overhead bits
abbrev pub overhead_count : ℕ → ℕ → ℕ
overhead_count form stuffed = 46 + end_width form stuffed

-- the bit that stands at frame bit x: a payload bit, or an overhead bit
pub data Placed (form k stuffed x : ℕ) : Type 0 where
  payload_bit : (p : ℕ) → p < payload_bits k → payload_place k p ≡ x → Placed form k stuffed x
  overhead_bit : (o : ℕ) → 1 ≤ o → o ≤ overhead_count form stuffed → overhead_place k o ≡ x → Placed form k stuffed x

-- ---- overhead

-- every stream is overhead but payload and what is behind the frame
abbrev pub is_overhead : ℕ → Bool
is_overhead x = not (eqb x payload || eqb x unused)

-- a frame's overhead bits, in the order in which they occur
abbrev pub overhead_bits : ℕ → ℕ → ℕ → List ℕ → List ℕ
overhead_bits form k stuffed bits = among is_overhead (table form k stuffed) bits

-- n numbers, from i on
abbrev pub numbers_from : ℕ → ℕ → List ℕ
numbers_from i zero = []
numbers_from i (suc n) = i ∷ numbers_from (suc i) n

-- of rows whose overhead bits are numbered from i on, the numbers of an overhead stream's bits
abbrev pub numbers_in : ℕ → ℕ → List Row → List ℕ
numbers_in x i [] = []
numbers_in x i (r ∷ rs) = cond (eqb x r.stream) (numbers_from i r.width) [] ++ numbers_in x (i + cond (is_overhead r.stream) r.width 0) rs

-- their numbers in table 7.2 (OH bit)
abbrev pub numbers_of : ℕ → ℕ → ℕ → ℕ → List ℕ
numbers_of x form k stuffed = numbers_in x 1 (table form k stuffed)
