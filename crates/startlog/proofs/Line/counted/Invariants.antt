use Rattle.startlog.proofs.Laws.{Read}
use Rattle.startlog.proofs.Line.counted.Given as goal

abbrev pub invariant-loop-digit : goal.invariant-loop-digit
invariant-loop-digit l = Read l.digits l.ticks l.digit-index
