use mathlib.Core.Path.{◌≡◌}
use Prim.Native.Nat.{◌≤◌}
use lib.ListN.{take}
use Rattle.octets.specs.Bits.{bits_of, part}
use Rattle.remainder.specs.Register.{register_of}
use Rattle.remainder.proofs.by_bits.Given as goal

abbrev pub invariant-loop-k : goal.invariant-loop-k
invariant-loop-k l =
    (l.k ≤ l.n) × (l.register ≡ register_of l.degree l.generator l.start (take l.k (part l.at l.n (bits_of l.s))))
