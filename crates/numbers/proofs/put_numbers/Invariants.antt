use mathlib.Core.Path.{◌≡◌}
use mathlib.Core.List.{◌++◌}
use Prim.Native.Nat.{◌*◌, ◌≤◌}
use lib.ListN.{length, take, drop}
use Rattle.numbers.specs.Promises.{number_octets}
use Rattle.numbers.proofs.put_numbers.Given as goal

abbrev pub invariant-loop-k : goal.invariant-loop-k
invariant-loop-k l =
    (l.k ≤ length l.numbers) × (4 * l.k ≤ length l.initial.octets) × (l.octets ≡ number_octets (take l.k l.numbers) ++ drop (4 * l.k) l.initial.octets)
