-- The list of refusals runs in the order of their numbers. Assumes nothing.
use mathlib.Core.Path.{◌≡◌, refl}
use mathlib.Core.Bool.{true}
use lib.IntN.{ℤ}
use Rattle.answer.specs.Answer.{in_order}
use Rattle.samples.specs.Shaper.{shaper_tests}

pub shaper-order : (y : ℤ) → in_order 1 (shaper_tests y) ≡ true
unfolding in_order
shaper-order y = refl
