-- What the crate's function promises.
use Rattle.std.specs.Prelude.{◌≡◌, List, ℕ, ℤ}
use Rattle.highest.specs.Highest.{highest}

-- highest
abbrev pub Highest : List ℤ → ℕ → Type 0
Highest cs r = r ≡ highest cs
