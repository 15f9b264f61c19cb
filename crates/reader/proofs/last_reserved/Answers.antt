-- `reader::last_reserved` meets its contract.
use mathlib.Core.Path.{refl}
use Rattle.layout.proofs.Reserved.{last-read}
use Rattle.reader.proofs.last_reserved.Goals as goal

pub returns : goal.returns
returns c = last-read c.args.frame.now c.bits.ensures refl refl refl
