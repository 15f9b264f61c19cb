-- `datareader::eoc_in` meets its contract.
use Rattle.datareader.proofs.Laws.{eoc-read}
use Rattle.datareader.proofs.eoc_in.Goals as goal

pub returns : goal.returns
returns c =
    eoc-read c.args.room c.block-m.result c.block-m.ensures c.piece-a.result c.piece-b.result c.piece-c.result c.piece-d.result c.piece-e.result
    c.piece-f.result c.piece-a.ensures.0 c.piece-b.ensures.0 c.piece-c.ensures.0 c.piece-d.ensures.0 c.piece-e.ensures.0 c.piece-f.ensures.0
