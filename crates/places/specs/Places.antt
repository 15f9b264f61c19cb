-- Fields one behind the other, for any list of widths: field number k, counted from 0, begins where the fields before it end.
use Rattle.std.specs.Prelude.{List, [], ◌∷◌, ◌++◌, ℕ, zero, suc, ◌+◌, ◌-◌, ◌≤◌, ◌<◌, length, get_or, take}
use Rattle.octets.specs.Bits.{part}

-- widths added up
abbrev pub total : List ℕ → ℕ
total [] = 0
total (w ∷ ws) = w + total ws

-- the width of field number k; 0 where there is no such field
abbrev pub width_in : List ℕ → ℕ → ℕ
width_in ws k = get_or ws k 0

-- its place, from 0: the widths before it
abbrev pub place_in : List ℕ → ℕ → ℕ
place_in ws k = total (take k ws)

-- the bit at a place belongs to field number k
pub record Holds (ws : List ℕ) (k at : ℕ) : Type 0 where
  pub begun : place_in ws k ≤ at
  pub within : at < place_in ws k + width_in ws k

-- a field of the list that it belongs to
pub record Held (ws : List ℕ) (at : ℕ) : Type 0 where
  pub number : ℕ
  pub listed : number < length ws
  pub holds : Holds ws number at

-- field number k of bits
abbrev pub field_in : List ℕ → ℕ → List ℕ → List ℕ
field_in ws k bits = part (place_in ws k) (width_in ws k) bits

-- the bits from field i on, up to where field j begins
abbrev pub span_in : List ℕ → ℕ → ℕ → List ℕ → List ℕ
span_in ws i j bits = part (place_in ws i) (place_in ws j - place_in ws i) bits

-- n fields of bits, from number i on
abbrev pub fields_from : List ℕ → ℕ → ℕ → List ℕ → List (List ℕ)
fields_from ws i zero bits = []
fields_from ws i (suc n) bits = field_in ws i bits ∷ fields_from ws (suc i) n bits

-- all fields of bits
abbrev pub fields_in : List ℕ → List ℕ → List (List ℕ)
fields_in ws bits = fields_from ws 0 (length ws) bits

-- fields laid one behind the other
abbrev pub joined : List (List ℕ) → List ℕ
joined [] = []
joined (f ∷ fs) = f ++ joined fs

-- their widths
abbrev pub widths_of : List (List ℕ) → List ℕ
widths_of [] = []
widths_of (f ∷ fs) = length f ∷ widths_of fs
