use Rattle.std.proofs.Common.{drop}
use Rattle.forms.proofs.Laws.{Through}
use Rattle.phrases.specs.Phrases.{phrases, said_of}
use Rattle.phrases.proofs.tell.Given as goal

abbrev pub invariant-loop-row : goal.invariant-loop-row
invariant-loop-row l = Through (phrases l.table (said_of l.said)) l.initial.text (phrases l.table (said_of (drop l.row-index l.said))) l.text
