use Rattle.std.proofs.Common.{take}
use Rattle.ascii.specs.Text.{hexes}
use Rattle.ascii.specs.Promises.{Puts}
use Rattle.ascii.proofs.Text.hexes.Given as goal

abbrev pub invariant-loop-octet : goal.invariant-loop-octet
invariant-loop-octet l = Puts l.initial.self (hexes (take l.octet-index l.octets)) l.self
