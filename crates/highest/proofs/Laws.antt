-- How high the highest non-zero coefficient can be. Assumes nothing.
use mathlib.Core.Bool.{Bool, true, false, cond}
use mathlib.Core.List.{List, [], ◌∷◌}
use Prim.Native.Nat.{suc, ◌≤◌}
use native.Mathlib.Omega.{arith}
use lib.IntN.{ℤ}
use lib.ListN.{length}
use Rattle.highest.specs.Highest.{all_zero, highest}

-- it is one of the coefficients
pub highest-within : (cs : List ℤ) → highest cs ≤ length cs
unfolding highest
highest-within [] = omega arith
highest-within (c ∷ cs) = pick (all_zero (c ∷ cs)) (highest-within cs)
  where
    pick : (b : Bool) → highest cs ≤ length cs → cond b 0 (suc (highest cs)) ≤ suc (length cs)
    pick true h = omega arith
    pick false h = omega arith
