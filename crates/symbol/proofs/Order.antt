-- Each list of refusals runs in the order of their numbers. Assumes nothing.
use mathlib.Core.Path.{◌≡◌, refl}
use mathlib.Core.Bool.{true}
use mathlib.Core.List.{List}
use Prim.Native.Nat.{ℕ}
use lib.IntN.{ℤ}
use Rattle.answer.specs.Answer.{in_order}
use Rattle.symbol.specs.declared.Encoder.{Encoder}
use Rattle.symbol.specs.Levels.{activation_tests, data_tests, back_tests}
use Rattle.symbol.specs.Encoder.{start_tests, step_tests, run_tests}

pub activation-order : (bit : ℕ) → in_order 1 (activation_tests bit) ≡ true
unfolding in_order
activation-order bit = refl

pub data-order : (code : ℕ) → in_order 1 (data_tests code) ≡ true
unfolding in_order
data-order code = refl

pub back-order : (level : ℤ) → in_order 1 (back_tests level) ≡ true
unfolding in_order
back-order level = refl

pub start-order : (a b : ℕ) → in_order 1 (start_tests a b) ≡ true
unfolding in_order
start-order a b = refl

pub step-order : (e : Encoder) (symbol : ℕ) → in_order 1 (step_tests e symbol) ≡ true
unfolding in_order
step-order e symbol = refl

pub run-order : (e : Encoder) (symbols codes : List ℕ) → in_order 1 (run_tests e symbols codes) ≡ true
unfolding in_order
run-order e symbols codes = refl
