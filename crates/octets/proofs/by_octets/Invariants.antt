use mathlib.Core.Path.{◌≡◌}
use Prim.Native.Nat.{◌-◌, ◌*◌, ◌≤◌}
use lib.ListN.{length}
use Rattle.octets.specs.Bits.{value_of, bits_of, part}
use Rattle.octets.proofs.by_octets.Given as goal

abbrev pub invariant-loop-octet : goal.invariant-loop-octet
invariant-loop-octet l =
    (length l.yielded ≤ length l.s) × (l.v ≡ value_of (part (8 * (length l.s - length l.yielded)) (8 * length l.yielded) (bits_of l.s)))
