use Rattle.std.proofs.Common.{take}
use Rattle.ascii.specs.Promises.{Puts}
use Rattle.cardline.specs.Line.{csv_octets}
use Rattle.cardline.proofs.put_csvs.Given as goal

abbrev pub invariant-loop-octet : goal.invariant-loop-octet
invariant-loop-octet l = Puts l.initial.text (csv_octets (take l.octet-index l.line)) l.text
