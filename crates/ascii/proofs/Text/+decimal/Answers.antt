-- `Text::decimal`, which calls itself on a tenth of n, meets its contract.
use mathlib.Core.Path.{ap, ◌∙◌}
use native.Mathlib.Omega.{arith}
use Rattle.ascii.specs.Text.{digit}
use Rattle.ascii.proofs.Room.{puts-more, puts_as}
use Rattle.ascii.proofs.Numbers.{decimal-one, decimal-last}
use Rattle.ascii.proofs.Text.+decimal.Goals as goal
use Rattle.ascii.proofs.Text.+decimal.Goals.{then-n-ge10, else-n-ge10}

pub returns : goal.returns
returns t c =
    let n = c.args.n in
    let d = c.digit in
    elim c.if-n-ge10.branch [
      | then-n-ge10 w ↦ puts_as (puts-more w.decimal.ensures (rw w.self-is at c.put.ensures)) (decimal-last n d.result w.if-n-ge10.true d.ensures)
      | else-n-ge10 w ↦ puts_as (rw w.self-is at c.put.ensures) (decimal-one n d.result w.if-n-ge10.false (d.ensures ∙ ap digit (omega arith)))
    ]
