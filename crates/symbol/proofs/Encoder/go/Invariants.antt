use mathlib.Core.Path.{◌≡◌}
use mathlib.Core.List.{◌++◌}
use Prim.Native.Nat.{◌^◌, ◌<◌}
use lib.ListN.{length, take, drop}
use Rattle.symbol.specs.Encoder.{codes_of, sent_after, register_of, held_in, with_register}
use Rattle.symbol.proofs.Encoder.go.Given as goal

abbrev pub invariant-loop-i : goal.invariant-loop-i
invariant-loop-i l =
    (length l.codes ≡ length l.initial.codes) × (l.next ≡ with_register l.initial.next l.next.register) × (l.next.register < 2 ^ 20)
    × (take l.i l.codes ++ codes_of l.initial.next.a l.initial.next.b (held_in l.next.register) (drop l.i l.symbols)
    ≡ codes_of l.initial.next.a l.initial.next.b (held_in l.initial.next.register) l.symbols)
    × (register_of (sent_after (held_in l.next.register) (drop l.i l.symbols)) ≡ register_of (sent_after (held_in l.initial.next.register) l.symbols))
