use mathlib.Core.Path.{◌≡◌}
use Prim.Native.Nat.{◌-◌, ◌*◌, ◌/◌, ◌^◌, ◌≤◌, max}
use lib.Seq.{sets}
use Rattle.octets.specs.Bits.{digits_of, octets_of}
use Rattle.octets.proofs.put_octets.Given as goal

abbrev pub invariant-loop-k : goal.invariant-loop-k
invariant-loop-k l =
    (l.i ≤ l.k) × (l.k ≤ max l.i l.end) × (l.rest ≡ l.v / 2 ^ (8 * (l.k - l.i))) × (l.s ≡ sets l.initial.s l.i (octets_of (l.k - l.i) (digits_of (8 * (l.k - l.i)) l.v)))
