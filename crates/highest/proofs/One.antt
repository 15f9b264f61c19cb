-- One result per call. Assumes nothing.
use mathlib.Core.Path.{◌≡◌, sym, ◌∙◌}
use mathlib.Core.List.{List}
use Prim.Native.Nat.{ℕ}
use lib.IntN.{ℤ}
use Rattle.highest.specs.Promises.{Highest}

pub highest-one : (cs : List ℤ) (r r' : ℕ) → Highest cs r → Highest cs r' → r ≡ r'
highest-one cs r r' p q = p ∙ sym q
