-- `octets::clear` meets its contract.
use Rattle.octets.proofs.Laws.{zeros-three}
use Rattle.octets.proofs.clear.Goals as goal

pub returns : goal.returns
returns c =
    let a = c.args in
    zeros-three a.s.now a.at a.n c.leading-head.result c.leading-head.ensures c.put_zeros.ensures c.fill.ensures c.put_zeros-2.ensures
