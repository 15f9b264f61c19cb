-- `ascii::digit` meets its contract.
use native.Mathlib.Omega.{arith}
use mathlib.Core.Path.{◌∙◌}
use Rattle.ascii.proofs.Numbers.{digit-high}
use Rattle.ascii.proofs.digit.Goals as goal

pub returns-else-d-lt10 : goal.returns-else-d-lt10
returns-else-d-lt10 c = omega arith ∙ digit-high c.args.d c.if-d-lt10.false
