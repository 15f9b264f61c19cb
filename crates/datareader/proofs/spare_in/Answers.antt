-- `datareader::spare_in` meets its contract.
use Rattle.datareader.proofs.Laws.{spare-read, no-spare-read}
use Rattle.datareader.proofs.spare_in.Goals as goal

pub returns-in-Synchronous : goal.returns-in-Synchronous
returns-in-Synchronous c =
    spare-read c.args.room c.block-m.result c.block-m.ensures c.in-Synchronous.is c.piece-first.result c.piece-second.result c.piece-end.result
    c.piece-first.ensures.0 c.piece-second.ensures.0 c.piece-end.ensures.0

pub returns-in-Plesiochronous : goal.returns-in-Plesiochronous
returns-in-Plesiochronous c = no-spare-read c.args.room c.in-Plesiochronous.is
