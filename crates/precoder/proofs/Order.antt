-- The list of refusals runs in the order of their numbers. Assumes nothing.
use mathlib.Core.Path.{◌≡◌, refl}
use mathlib.Core.Bool.{true}
use mathlib.Core.List.{List}
use Prim.Native.Nat.{ℕ}
use Rattle.answer.specs.Answer.{in_order}
use Rattle.precoder.specs.Runs.{run_tests}

pub run-order : (coefficients history symbols room : List ℕ) → in_order 1 (run_tests coefficients history symbols room) ≡ true
unfolding in_order
run-order coefficients history symbols room = refl
