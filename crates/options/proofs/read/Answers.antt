-- `options::read` meets its contract.
use Rattle.options.proofs.Laws.{read_by}
use Rattle.options.proofs.read.Goals as goal

pub returns : goal.returns
returns c =
    read_by c.args.word.now _ _ _ _ _ _ _ c.unnamed-says.ensures c.named-says.ensures c.named-says-2.ensures c.named-says-3.ensures
    c.named-says-4.ensures c.named-says-5.ensures c.named.ensures
