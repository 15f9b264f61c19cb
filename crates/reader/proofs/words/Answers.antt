-- `reader::words` meets its contract.
use mathlib.Core.Path.{refl, ap}
use Rattle.walk.specs.declared.TakenPair.{TakenPair}
use Rattle.reader.specs.declared.Found.TheVariants.{Training}
use Rattle.reader.proofs.Laws.{words-read, vendor-read}
use Rattle.reader.proofs.words.Goals as goal

pub returns : goal.returns
returns c =
    let y = c.copy in
    let w = c.pair-found in
    let e = words-read c.args.frame.now c.args.at w.result c.requires.1 w.ensures in (
      vendor-read c.args.frame.now c.args.vendor.now y.new.s c.requires.0 c.requires.2 y.ensures (ap (λ (t : TakenPair). t.next) e) refl,
      ap (λ (t : TakenPair). Training t.first t.second) e,
    )
