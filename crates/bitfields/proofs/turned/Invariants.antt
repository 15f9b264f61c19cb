use mathlib.Core.Path.{◌≡◌}
use mathlib.Core.List.{reverse}
use Prim.Native.Nat.{◌/◌, ◌^◌, ◌≤◌}
use Rattle.octets.specs.Bits.{digits_of, value_of}
use Rattle.bitfields.proofs.turned.Given as goal

abbrev pub invariant-loop : goal.invariant-loop
invariant-loop l =
    (l.counter ≤ l.end) × (l.end ≤ 32) × (l.rest ≡ l.v / 2 ^ l.counter) × (l.r ≡ value_of (reverse (digits_of l.counter l.v)))
