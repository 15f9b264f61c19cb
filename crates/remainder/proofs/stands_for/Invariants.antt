use mathlib.Core.Path.{◌≡◌}
use Prim.Native.Nat.{◌-◌, ◌^◌, ◌≤◌, ◌<◌}
use Rattle.octets.specs.Bits.{digits_of, bits_of, part}
use Rattle.remainder.specs.Register.{register_of}
use Rattle.remainder.proofs.stands_for.Given as goal

abbrev pub invariant-loop-seen : goal.invariant-loop-seen
invariant-loop-seen l =
    (l.seen ≤ l.n) × (l.x < 2 ^ 63) × (register_of 6 67 l.start (part l.at l.seen (bits_of l.s)) ≡ register_of 6 67 0 (digits_of 63 l.x))

abbrev pub decreases-loop-seen : goal.decreases-loop-seen
decreases-loop-seen l = l.n - l.seen
