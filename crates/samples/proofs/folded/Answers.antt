-- `samples::folded` meets its contract. Each step's number is read back from its bits. Assumes nothing.
use mir.Facts.{to_z-of_z}
use Rattle.samples.proofs.Rounding.{fold-kept, fold-down, left-fits, down_fits, signal-fits}
use Rattle.samples.proofs.folded.Goals as goal

pub returns-then-r-gt-HIGH : goal.returns-then-r-gt-HIGH
returns-then-r-gt-HIGH c =
    let u = c.args.u in
    let is = rw (to_z-of_z c.ranges.u) at c.rem_euclid-r.ensures.value in
    let f = fold-down u (rw (is, to_z-of_z (left-fits u)) at c.if-r-gt-HIGH.true) in
    rw (is, to_z-of_z (left-fits u), to_z-of_z (down_fits u), to_z-of_z (signal-fits _ f.signal)) f

pub returns-else-r-gt-HIGH : goal.returns-else-r-gt-HIGH
returns-else-r-gt-HIGH c =
    let u = c.args.u in
    let is = rw (to_z-of_z c.ranges.u) at c.rem_euclid-r.ensures.value in
    let f = fold-kept u (rw (is, to_z-of_z (left-fits u)) at c.if-r-gt-HIGH.false) in
    rw (is, to_z-of_z (left-fits u), to_z-of_z (signal-fits _ f.signal)) f
