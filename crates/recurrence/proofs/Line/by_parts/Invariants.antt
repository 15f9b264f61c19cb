use Prim.Native.Nat.{◌+◌, ◌-◌, ◌≤◌}
use Rattle.octets.specs.Bits.{bits_of, part}
use Rattle.recurrence.specs.Window.{Gone}
use Rattle.recurrence.proofs.Line.by_parts.Given as goal

abbrev pub invariant-loop-k : goal.invariant-loop-k
invariant-loop-k l =
    (l.from ≤ l.k) × (l.k ≤ l.bits) × Gone l.self.way l.self.tap l.start (part (l.at + l.from) (l.k - l.from) (bits_of l.input)) l.initial.output (l.at + l.from) l.window l.output

abbrev pub decreases-loop-k : goal.decreases-loop-k
decreases-loop-k l = l.bits - l.k
