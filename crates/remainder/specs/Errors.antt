-- A bit that came out wrong.
use Rattle.std.specs.Prelude.{List, ℕ, ◌-◌, get_or, set}

-- the bits with the one at place i turned over
abbrev pub flipped : List ℕ → ℕ → List ℕ
flipped bs i = set bs i (1 - get_or bs i 0)
