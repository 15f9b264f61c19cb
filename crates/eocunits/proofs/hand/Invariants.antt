use Prim.Native.Nat.{◌/◌, ◌≤◌}
use lib.ListN.{length}
use Rattle.eocunits.specs.Handing.{tail_of}
use Rattle.eocunits.proofs.Laws.{Handing}
use Rattle.eocunits.proofs.hand.Given as goal

abbrev pub invariant-loop-j : goal.invariant-loop-j
invariant-loop-j l =
    (l.taken ≤ l.j) × Handing l.initial.units (length l.initial.units / 79) l.found.destination (tail_of l.found l.contents) l.units l.taken l.j
