use Rattle.std.proofs.Common.{length, ◌≤◌, ◌≡◌}
use Rattle.sorter.proofs.arguments.Given as goal

abbrev pub invariant-loop-i : goal.invariant-loop-i
invariant-loop-i l = (length l.files ≡ 65536) × (l.asked.1.1.1.0 ≤ 65536)
