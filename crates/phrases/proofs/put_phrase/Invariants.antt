use Rattle.std.proofs.Common.{drop}
use Rattle.forms.proofs.Laws.{Through}
use Rattle.phrases.specs.Phrases.{phrase}
use Rattle.phrases.proofs.put_phrase.Given as goal

abbrev pub invariant-loop-octet : goal.invariant-loop-octet
invariant-loop-octet l =
    Through (phrase l.octets l.n) l.initial.text (phrase (drop l.octet-index l.octets) l.n) l.text
