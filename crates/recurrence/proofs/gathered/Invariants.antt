use mathlib.Core.Path.{◌≡◌}
use mathlib.Core.List.{[], ◌∷◌}
use Prim.Native.Nat.{◌-◌, ◌%◌, ◌^◌, ◌≤◌, ◌<◌}
use Rattle.octets.proofs.Sums.{sum}
use Rattle.recurrence.proofs.Block.{spread_of}
use Rattle.recurrence.proofs.gathered.Given as goal

abbrev pub invariant-loop-k : goal.invariant-loop-k
invariant-loop-k l = (1 ≤ l.k) × (l.line < 2 ^ 64) × (spread_of l.tap l.line ≡ sum (l.k ∷ []) l.u % 2 ^ 64)

abbrev pub decreases-loop-k : goal.decreases-loop-k
decreases-loop-k l = 64 - l.k
