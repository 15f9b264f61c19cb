-- One result per call: two results that a promise allows for the same call are equal. Assumes nothing.
use mathlib.Core.Path.{◌≡◌, sym, ◌∙◌}
use mathlib.Core.Bool.{Bool}
use mathlib.Core.List.{List}
use lib.IntN.{ℤ}
use Rattle.ranges.specs.Ranges.{between, every}

pub in-range-one : (z low high : ℤ) (r s : Bool) → r ≡ between low high z → s ≡ between low high z → r ≡ s
in-range-one z low high r s p q = p ∙ sym q

pub all-in-range-one : (values : List ℤ) (low high : ℤ) (r s : Bool) → r ≡ every (between low high) values → s ≡ every (between low high) values → r ≡ s
all-in-range-one values low high r s p q = p ∙ sym q
