use mathlib.Core.Path.{◌≡◌}
use mathlib.Core.List.{List, ◌++◌}
use Prim.Native.Nat.{ℕ, ◌+◌, ◌≤◌}
use lib.ListN.{length}
use Rattle.ascii.specs.Promises.{Puts}
use Rattle.listing.specs.Listing.{coefficient_lines}
use Rattle.listing.proofs.put_coefficient_lines.Given as goal

abbrev pub invariant-loop-k : goal.invariant-loop-k
invariant-loop-k l =
    let n = l.k-iterator.a.start in
    let left = l.k-iterator.b.rest.now in
    (xs : List ℕ) × Puts l.initial.text xs l.text × (xs ++ coefficient_lines n left ≡ coefficient_lines 1 l.cs) × (n + length left ≤ 181)
