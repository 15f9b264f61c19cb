-- The checks of writing and reading run in their order. Assumes nothing.
use mathlib.Core.Path.{◌≡◌, refl}
use mathlib.Core.Bool.{true}
use mathlib.Core.List.{List}
use Prim.Native.Nat.{ℕ}
use Rattle.answer.specs.Table.{in_turn}
use Rattle.eoc.specs.Refusals.{eoc_order, write_refusals, read_refusals}

pub write-order : (source destination number : ℕ) (contents room : List ℕ) → in_turn eoc_order (write_refusals source destination number contents room) ≡ true
unfolding in_turn
write-order source destination number contents room = refl

pub read-order : (s room : List ℕ) → in_turn eoc_order (read_refusals s room) ≡ true
unfolding in_turn
read-order s room = refl
