use Rattle.eocreader.proofs.Laws.{Unescaping}
use Rattle.eocreader.proofs.unescape.Given as goal

abbrev pub invariant-loop-octet : goal.invariant-loop-octet
invariant-loop-octet l = Unescaping l.octets l.fields l.at l.behind l.octet-index
