-- What the crate's function promises.
use Rattle.std.specs.Prelude.{ℕ, ◌/◌, ◌%◌, ◌<◌, List, [], ◌∷◌, take}
use Rattle.fcs.specs.Sequence.{Sequence}

-- sequence: the check sequence of the first n octets as one number, its first octet low
pub record Sequenced (s : List ℕ) (n r : ℕ) : Type 0 where
  pub two_octets : r < 65536
  pub right : Sequence (take n s) (r % 256 ∷ r / 256 ∷ [])
