-- `Text::signed` meets its contract.
use mathlib.Core.Path.{ap, ◌∙◌}
use mathlib.Core.List.{◌++◌}
use Prim.Native.Nat.{ℕ}
use mir.Facts.{to_z-of_z}
use Rattle.ascii.specs.Text.{text, decimal}
use Rattle.ascii.proofs.Room.{puts-more, puts_as}
use Rattle.ascii.proofs.Numbers.{minus-first, no-sign}
use Rattle.ascii.proofs.Text.signed.Goals as goal
use Rattle.ascii.proofs.Text.signed.Goals.{then-v-lt0, else-v-lt0}

pub returns : goal.returns
returns c =
    let v = c.args.v in
    let fit = to_z-of_z c.ranges.v in
    let size = rw fit at c.unsigned_abs.ensures.value in
    elim c.if-v-lt0.branch [
      | then-v-lt0 w ↦ puts_as (puts-more w.word.ensures (rw w.self-is at c.decimal.ensures))
          (ap (λ (n : ℕ). text "-" ++ decimal n) size ∙ minus-first v (rw fit at w.if-v-lt0.true))
      | else-v-lt0 w ↦ puts_as (rw w.self-is at c.decimal.ensures) (ap decimal size ∙ no-sign v (rw fit at w.if-v-lt0.false))
    ]
