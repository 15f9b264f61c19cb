use Rattle.std.proofs.Common.{take}
use Rattle.ascii.specs.Promises.{Puts}
use Rattle.ascii.proofs.Text.word.Given as goal

abbrev pub invariant-loop-octet : goal.invariant-loop-octet
invariant-loop-octet l = Puts l.initial.self (take l.octet-index l.word) l.self
