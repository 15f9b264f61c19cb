use Prim.Native.Nat.{◌-◌}
use lib.ListN.{length}
use Rattle.messages.proofs.Walk.{Walk}
use Rattle.messages.proofs.tell_from.Given as goal

abbrev pub invariant-loop-at : goal.invariant-loop-at
invariant-loop-at l = Walk l.channel l.own l.at l.told.messages l.told.good l.told.taken

abbrev pub decreases-loop-at : goal.decreases-loop-at
decreases-loop-at l = length l.channel - l.at
