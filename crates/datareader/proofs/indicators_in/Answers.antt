-- `datareader::indicators_in` meets its contract.
use Rattle.datareader.proofs.Laws.{indicators-read}
use Rattle.datareader.proofs.indicators_in.Goals as goal

pub returns : goal.returns
returns c =
    indicators-read c.args.room c.block-m.result c.block-m.ensures c.piece-first.result c.piece-ps.result c.piece-segd.result c.piece-first.ensures.0
    c.piece-ps.ensures.0 c.piece-segd.ensures.0
