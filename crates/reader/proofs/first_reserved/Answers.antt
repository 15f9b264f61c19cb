-- `reader::first_reserved` meets its contract.
use mathlib.Core.Path.{refl}
use Rattle.layout.proofs.Reserved.{first_read}
use Rattle.reader.proofs.first_reserved.Goals as goal

pub returns : goal.returns
returns c = first_read c.args.frame.now c.word.ensures refl
