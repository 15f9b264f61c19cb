use mathlib.Core.Path.{◌≡◌}
use mathlib.Core.Bool.{true}
use Prim.Native.Nat.{◌-◌, ◌≤◌, ◌<◌}
use Rattle.octets.specs.Bits.{bits_of}
use Rattle.receiver.specs.Stream.{synced, lies_at}
use Rattle.receiver.proofs.Earliest.{NoneTo}
use Rattle.receiver.proofs.Heard.first.Given as goal

abbrev pub invariant-loop-at : goal.invariant-loop-at
invariant-loop-at l =
    (l.start ≤ l.at) × (l.at ≤ l.stop) × (l.at < l.stop → synced (bits_of l.self.octets.now) l.at ≡ true) × NoneTo (lies_at l.self.end (bits_of l.self.octets.now)) l.start l.at × (l.frame ≡ l.initial.frame)

abbrev pub decreases-loop-at : goal.decreases-loop-at
decreases-loop-at l = l.stop - l.at
