use mathlib.Core.Path.{◌≡◌}
use Prim.Native.Nat.{◌*◌, ◌≤◌}
use Rattle.octets.specs.Bits.{digits_of, bits_of, part}
use Rattle.remainder.specs.Division.{generator}
use Rattle.remainder.specs.Register.{register_of}
use Rattle.remainder.proofs.words.Given as goal

abbrev pub invariant-loop-k : goal.invariant-loop-k
invariant-loop-k l =
    (1 ≤ l.k) × (l.k ≤ l.count) × (register_of 16 generator l.start (part (8 * l.i) (64 * l.k) (bits_of l.s)) ≡ register_of 16 generator 0 (digits_of 64 l.x))
