-- Fields of several streams laid one behind the other, for any table: a row names the stream that a field belongs to, and the field's width.
-- Each row takes the next bits of its stream.
use Rattle.std.specs.Prelude.{Bool, cond, List, [], ◌∷◌, ℕ, ◌+◌, eqb, take, drop}
use Rattle.places.specs.Places.{fields_in, joined}

-- a row of a table: the number of a stream, and so many bits of it
pub record Row : Type 0 where
  pub stream : ℕ
  pub width : ℕ

-- such a row
abbrev pub row : ℕ → ℕ → Row
row x w = record { stream = x; width = w }

-- the widths of a table's fields
abbrev pub widths_in : List Row → List ℕ
widths_in [] = []
widths_in (r ∷ rs) = r.width ∷ widths_in rs

-- the bits of all rows whose stream is wanted, added up
abbrev pub amount : (ℕ → Bool) → List Row → ℕ
amount wanted [] = 0
amount wanted (r ∷ rs) = let later = amount wanted rs in cond (wanted r.stream) (r.width + later) later

-- the fields of the rows whose stream is wanted
abbrev pub chosen : (ℕ → Bool) → List Row → List (List ℕ) → List (List ℕ)
chosen wanted [] fs = []
chosen wanted (r ∷ rs) [] = []
chosen wanted (r ∷ rs) (f ∷ fs) = let later = chosen wanted rs fs in cond (wanted r.stream) (f ∷ later) later

-- of bits that a table lays out, those of the wanted streams, in the order in which they occur
abbrev pub among : (ℕ → Bool) → List Row → List ℕ → List ℕ
among wanted rs bits = joined (chosen wanted rs (fields_in (widths_in rs) bits))

-- the bits of one stream
abbrev pub stream_in : ℕ → List Row → List ℕ → List ℕ
stream_in x rs bits = among (eqb x) rs bits

-- streams, one of them without its first w bits
abbrev pub without : (ℕ → List ℕ) → ℕ → ℕ → ℕ → List ℕ
without s x w y = cond (eqb y x) (drop w (s y)) (s y)

-- the fields of a table: each row takes the next bits of its stream
abbrev pub dealt : List Row → (ℕ → List ℕ) → List (List ℕ)
dealt [] s = []
dealt (r ∷ rs) s = take r.width (s r.stream) ∷ dealt rs (without s r.stream r.width)

-- the bits of a table: its fields, one behind the other
abbrev pub laid_out : List Row → (ℕ → List ℕ) → List ℕ
laid_out rs s = joined (dealt rs s)
