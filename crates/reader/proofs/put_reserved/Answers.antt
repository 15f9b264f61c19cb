-- `reader::put_reserved` meets its contract.
use mathlib.Core.Path.{refl}
use Rattle.layout.proofs.Reserved.{reserved-taken}
use Rattle.reader.proofs.put_reserved.Goals as goal

pub returns : goal.returns
returns c =
    let y = c.put_front in
    let x = c.put_word in
    reserved-taken c.args.frame.now c.requires.0 c.args.reserved.now x.new.s y.new.s c.requires.1 c.first_reserved-first.ensures c.last_reserved-last.ensures
    x.ensures y.ensures refl refl refl
