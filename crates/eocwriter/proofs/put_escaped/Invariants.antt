use Rattle.eocwriter.proofs.Laws.{SoFar}
use Rattle.eocwriter.proofs.put_escaped.Given as goal

abbrev pub invariant-loop-octet : goal.invariant-loop-octet
invariant-loop-octet l = SoFar l.initial.room l.fields l.room l.at l.octet-index
