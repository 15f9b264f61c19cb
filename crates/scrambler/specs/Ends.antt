-- The two ends (SCOPE, "Scrambler").
use Rattle.std.specs.Prelude.{cond, ℕ, eqb}

-- the LTU's number
abbrev pub ltu : ℕ
ltu = 0

-- the NTU's
abbrev pub ntu : ℕ
ntu = 1

-- the tap is 5 for the LTU and 18 for the NTU
abbrev pub tap_of : ℕ → ℕ
tap_of end = cond (eqb end ltu) 5 18
