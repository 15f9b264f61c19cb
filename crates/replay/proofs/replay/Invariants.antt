use mathlib.Core.Path.{◌≡◌}
use Prim.Native.Nat.{◌+◌, ◌-◌, ◌≤◌}
use lib.ListN.{length, drop}
use Rattle.replay.specs.Replay.{lines_of, ending_from}
use Rattle.replay.proofs.replay.Given as goal

abbrev pub invariant-loop-at : goal.invariant-loop-at
invariant-loop-at l =
    (l.at ≤ length l.log + 1) × (l.line ≤ l.at + 1)
    × (ending_from l.line l.story (lines_of (drop l.at l.log)) ≡ ending_from 1 l.initial.story (lines_of l.log))

abbrev pub decreases-loop-at : goal.decreases-loop-at
decreases-loop-at l = length l.log + 1 - l.at
