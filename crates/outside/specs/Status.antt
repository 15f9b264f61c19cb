-- How a program ends, as the digit that --status asks for.
use Rattle.std.specs.Prelude.{ℕ}
use Rattle.outside.specs.declared.Status.{Status}
use Rattle.outside.specs.declared.Status.TheVariants.{Good, Bad, Wrong}

-- 0: all is good; 1: not; 2: wrong use, or what cannot be read or written
abbrev pub digit_of : Status → ℕ
digit_of Good = 48
digit_of Bad = 49
digit_of Wrong = 50
