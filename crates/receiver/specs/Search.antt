-- For private functions only; no promise of a public function names this: the search for sync words by the word.
use Rattle.std.specs.Prelude.{Bool, ◌||◌, ℕ, ◌%◌, ◌/◌, ◌^◌, eqb}
use Rattle.octets.specs.Bits.{value_of}
use Rattle.layout.specs.Places.{sync_width}
use Rattle.layout.specs.Frame.{training_sync, final_sync}

-- whether the digits of a number begin with a sync word
abbrev pub sync_in : ℕ → Bool
sync_in x = eqb (x % 2 ^ sync_width) (value_of training_sync) || eqb (x % 2 ^ sync_width) (value_of final_sync)

-- and from digit j on
abbrev pub sync_from : ℕ → ℕ → Bool
sync_from x j = sync_in (x / 2 ^ j)
