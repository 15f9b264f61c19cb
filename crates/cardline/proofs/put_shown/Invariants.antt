use Rattle.std.proofs.Common.{take}
use Rattle.ascii.specs.Promises.{Puts}
use Rattle.cardline.specs.Line.{shown}
use Rattle.cardline.proofs.put_shown.Given as goal

abbrev pub invariant-loop-octet : goal.invariant-loop-octet
invariant-loop-octet l = Puts l.initial.text (shown (take l.octet-index l.name)) l.text
