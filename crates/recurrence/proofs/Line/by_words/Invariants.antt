use Prim.Native.Nat.{◌*◌}
use Rattle.octets.specs.Bits.{bits_of, part}
use Rattle.recurrence.specs.Window.{Gone}
use Rattle.recurrence.proofs.Line.by_words.Given as goal

abbrev pub invariant-loop-k : goal.invariant-loop-k
invariant-loop-k l =
    Gone l.self.way l.self.tap l.start (part (8 * l.i) (64 * l.k) (bits_of l.input)) l.initial.output (8 * l.i) l.window l.output
