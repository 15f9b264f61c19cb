-- The code's two directions, as Turns and TurnsAll have them.
use Rattle.std.specs.Prelude.{Bool, true, false}
use Rattle.precoder.specs.declared.Direction.{Direction}
use Rattle.precoder.specs.declared.Direction.TheVariants.{Precode, Decode}

-- whether a direction is back
abbrev pub is_back : Direction → Bool
is_back Precode = false
is_back Decode = true
