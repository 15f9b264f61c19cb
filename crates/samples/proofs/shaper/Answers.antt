-- `samples::shaper` meets its contract. Assumes nothing.
use mathlib.Core.Path.{◌≡◌, sym, ◌∙◌}
use mathlib.Core.Bool.{true}
use mir.Facts.{to_z-of_z}
use Rattle.samples.specs.Samples.{is_signal}
use Rattle.samples.proofs.Exact.{signal-abs, exact}
use Rattle.samples.proofs.shaper.Goals as goal

pub returns : goal.returns
returns c =
    let said = rw (to_z-of_z c.ranges.y) at c.in_range.ensures in
    let is : is_signal c.args.y ≡ true = sym said ∙ c.if-not-in_range.false in
    rw (to_z-of_z c.ranges.y) (record { answered = rw is; value = exact c.args.y (signal-abs c.args.y is) })
