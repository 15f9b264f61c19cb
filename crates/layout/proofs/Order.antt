-- Checks run in the order of SCOPE's numbers. Assumes nothing.
use mathlib.Core.Path.{◌≡◌, refl}
use mathlib.Core.Bool.{true}
use mathlib.Core.List.{List}
use Prim.Native.Nat.{ℕ}
use lib.IntN.{ℤ}
use Rattle.answer.specs.Answer.{in_order}
use Rattle.layout.specs.Refusals.{write_refusals, check_refusals, read_refusals}

pub write-order : (kind count : ℕ) (cs : List ℤ) (a b : ℕ) (vendor frame : List ℕ) → in_order 1 (write_refusals kind count cs a b vendor frame) ≡ true
unfolding in_order
write-order kind count cs a b vendor frame = refl

pub check-order : (frame : List ℕ) → in_order 1 (check_refusals frame) ≡ true
unfolding in_order
check-order frame = refl

pub read-order : (frame : List ℕ) (cs : List ℤ) (vendor reserved : List ℕ) → in_order 1 (read_refusals frame cs vendor reserved) ≡ true
unfolding in_order
read-order frame cs vendor reserved = refl
