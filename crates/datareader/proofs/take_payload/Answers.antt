-- `datareader::take_payload` meets its contract.
use Rattle.datareader.proofs.Laws.{payload-read}
use Rattle.datareader.proofs.take_payload.Goals as goal

pub returns : goal.returns
returns c =
    payload-read c.args.room c.block-n.result c.block-n.ensures c.args.payload.now c.copy.new.s c.copy-2.new.s c.copy-3.new.s c.copy-4.new.s c.requires
    c.copy.ensures c.copy-2.ensures c.copy-3.ensures c.copy-4.ensures
