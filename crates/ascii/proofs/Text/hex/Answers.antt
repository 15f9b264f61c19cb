-- `Text::hex` meets its contract.
use mathlib.Core.Path.{ap₂}
use mathlib.Core.List.{[], ◌∷◌}
use Prim.Native.Nat.{ℕ}
use Rattle.ascii.specs.Text.{hex}
use Rattle.ascii.proofs.Room.{puts-more, puts_as}
use Rattle.ascii.proofs.Text.hex.Goals as goal

pub returns : goal.returns
unfolding hex
returns c = puts_as (puts-more c.put.ensures c.put-2.ensures) (ap₂ (λ (x y : ℕ). x ∷ y ∷ []) c.digit.ensures c.digit-2.ensures)
