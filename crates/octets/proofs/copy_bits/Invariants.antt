use mathlib.Core.Path.{◌≡◌}
use Prim.Native.Nat.{◌-◌, ◌≤◌}
use Rattle.octets.specs.Bits.{bits_of, part, laid}
use Rattle.octets.proofs.copy_bits.Given as goal

abbrev pub invariant-loop-k : goal.invariant-loop-k
invariant-loop-k l = (l.k ≤ l.all) × (l.s ≡ laid l.initial.s l.at (part l.from l.k (bits_of l.source)))

abbrev pub decreases-loop-k : goal.decreases-loop-k
decreases-loop-k l = l.all - l.k
