-- Who takes a message (002, clause 10.5.5.5).
use Rattle.std.specs.Prelude.{Bool, ◌||◌, ℕ, eqb}

-- "Address 0 is used to address the next attached or adjacent unit"; "Address F .. shall specify that the message is addressed to all units"
abbrev pub adjacent : ℕ
adjacent = 0

abbrev pub every_unit : ℕ
every_unit = 15

-- whether a unit hands a message up: the destination is its own address, or one of those two
abbrev pub is_meant : ℕ → ℕ → Bool
is_meant own destination = eqb destination own || (eqb destination adjacent || eqb destination every_unit)
