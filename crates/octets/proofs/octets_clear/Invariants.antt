use mathlib.Core.Path.{◌≡◌}
use Prim.Native.Nat.{◌-◌, ◌*◌, ◌≤◌, min, max}
use Rattle.octets.specs.Bits.{value_of, bits_of, part}
use Rattle.octets.proofs.octets_clear.Given as goal

abbrev pub invariant-loop-k : goal.invariant-loop-k
invariant-loop-k l = (l.i ≤ l.k) × (l.k ≤ max l.i l.last) × (min l.all 1 ≡ min (value_of (part (8 * l.i) (8 * (l.k - l.i)) (bits_of l.s))) 1)
