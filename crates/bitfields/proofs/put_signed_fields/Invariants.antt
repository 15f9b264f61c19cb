use mathlib.Core.List.{List, ◌++◌}
use Prim.Native.Nat.{ℕ, ◌+◌, ◌*◌, ◌/◌, ◌%◌, ◌≤◌}
use lib.ListN.{take}
use Rattle.octets.specs.Bits.{digits_of, value_of, bits_of, part}
use Rattle.octets.specs.Signed.{number_bits}
use Rattle.bitfields.specs.Promises.{first_of}
use Rattle.bitfields.proofs.Holding.{Holds}
use Rattle.bitfields.proofs.put_signed_fields.Given as goal

-- the bits before the place within its octet
abbrev pub before : List ℕ → ℕ → List ℕ
before s at = digits_of (at % 8) (value_of (part (8 * (at / 8)) (at % 8) (bits_of s)))

abbrev pub invariant-loop-k : goal.invariant-loop-k
invariant-loop-k l =
    (l.k ≤ l.n) × (l.window.octet ≤ l.at / 8 + 8 * l.k)
    × Holds l.initial.s (8 * (l.at / 8)) (before l.initial.s l.at ++ number_bits l.width (take l.k (first_of l.n l.numbers))) l.s l.window
