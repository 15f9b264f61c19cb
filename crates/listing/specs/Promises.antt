-- What listing a frame promises.
use Rattle.std.specs.Prelude.{List, ℕ}
use Rattle.ascii.specs.Promises.{Told}
use Rattle.listing.specs.Listing.{listing}

-- list
abbrev pub Listed : List ℕ → List ℕ → ℕ → List ℕ → Type 0
Listed octets room r exit = Told (listing octets) room r exit
