use Rattle.ascii.specs.Promises.{Puts}
use Rattle.totals.specs.Totals.{verdict_lines}
use Rattle.totals.proofs.put_lines.Given as goal

abbrev pub invariant-loop-rank : goal.invariant-loop-rank
invariant-loop-rank l = Puts l.initial.text (verdict_lines l.rank l.ranks) l.text
