-- The checks of handing up run in their order. Assumes nothing.
use mathlib.Core.Path.{◌≡◌, refl}
use mathlib.Core.Bool.{true}
use mathlib.Core.List.{List}
use Prim.Native.Nat.{ℕ}
use Rattle.answer.specs.Table.{in_turn}
use Rattle.eoc.specs.Refusals.{eoc_order}
use Rattle.eocunits.specs.Units.{hand_up_refusals}

pub hand-up-order : (s units : List ℕ) → in_turn eoc_order (hand_up_refusals s units) ≡ true
unfolding in_turn
hand-up-order s units = refl
