use mathlib.Core.Path.{◌≡◌}
use mathlib.Core.Bool.{false}
use Prim.Native.Nat.{ℕ, ◌/◌, ◌^◌, ◌≤◌, ◌<◌}
use Rattle.receiver.specs.Search.{sync_from}
use Rattle.receiver.proofs.first_in.Given as goal

abbrev pub invariant-loop-j : goal.invariant-loop-j
invariant-loop-j l = (l.rest ≡ l.x / 2 ^ l.j) × ((q : ℕ) → 0 ≤ q → q < l.j → sync_from l.x q ≡ false)
