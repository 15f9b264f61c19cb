use Rattle.std.proofs.Common.{length, ◌-◌, ◌≤◌}
use Rattle.outside.proofs.read_full.Given as goal

abbrev pub invariant-loop-n : goal.invariant-loop-n
invariant-loop-n g l = l.n ≤ length l.octets

abbrev pub decreases-loop-n : goal.decreases-loop-n
decreases-loop-n g l = length l.initial.octets - l.n
