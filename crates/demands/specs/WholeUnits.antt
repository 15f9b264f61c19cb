-- Records that can be handed in: a whole number of them, each with an own address of four bits.
use Rattle.std.specs.Prelude.{◌≡◌, false, List, ℕ, ◌%◌, length}
use Rattle.eocunits.specs.Units.{record_length, records_in, some_wide}

pub record WholeUnits (units : List ℕ) : Type 0 where
  pub whole : length units % record_length ≡ 0
  pub own_fit : some_wide (records_in units) ≡ false
