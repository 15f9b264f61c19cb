-- `octets::has` meets its contract.
use Rattle.octets.proofs.Laws.{has-bit}
use Rattle.octets.proofs.has.Goals as goal

pub returns : goal.returns
returns c = let a = c.args in has-bit a.s.now a.at a.k
