use Prim.Native.Nat.{◌-◌, ◌≤◌}
use Rattle.octets.specs.Bits.{bits_of}
use Rattle.receiver.specs.Stream.{synced}
use Rattle.receiver.proofs.Earliest.{NoneTo}
use Rattle.receiver.proofs.next_sync.Given as goal

abbrev pub invariant-loop-at : goal.invariant-loop-at
invariant-loop-at l = (l.p ≤ l.at) × (l.at ≤ l.stop) × NoneTo (synced (bits_of l.s)) l.p l.at

abbrev pub decreases-loop-at : goal.decreases-loop-at
decreases-loop-at l = l.stop - l.at
