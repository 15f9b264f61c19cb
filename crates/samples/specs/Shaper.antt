-- The shaper is handed y as a 32-bit float that is exactly y/131,072 (000, clause 4.3.4).
-- Of the library: `fits binary32 f` says that f is a 32-bit float, and `HasValue f s a c` that f is a finite number, below zero where s is
-- true, and a/c in size; `nat_abs y` is the size of y, and `non_neg y` that it is 0 or more.
use Rattle.std.specs.Prelude.{◌≡◌, not, List, [], ◌∷◌, T, Float, ℤ, nat_abs, Result, IfOk}
use Rattle.std.specs.Float.{binary32}
use Rattle.std.specs.Float.Ieee.{fits}
use Rattle.std.specs.Float.Ieee.Exact.{HasValue}
use Rattle.std.specs.Int.Signed.{non_neg}
use Rattle.answer.specs.declared.Refused.{Refused}
use Rattle.answer.specs.Answer.{Refusal, refuse, answer}
use Rattle.answer.specs.Given.{answer_of}
use Rattle.samples.specs.Samples.{one, is_signal}

-- the 32-bit float f is exactly y/131,072: it has y's sign, and its size is |y|/131,072 with nothing rounded. 0 is +0
pub record Exactly (f : Float) (y : ℤ) : Type 0 where
  pub is_32_bit : T (fits binary32 f)
  pub value : HasValue f (not (non_neg y)) (nat_abs y) one

-- y out of range is 4
abbrev pub shaper_tests : ℤ → List Refusal
shaper_tests y = refuse 4 (not (is_signal y)) ∷ []

-- what `shaper` gives back
pub record Shapes (y : ℤ) (r : Result Float Refused) : Type 0 where
  pub answered : answer_of r ≡ answer (shaper_tests y)
  pub value : IfOk r (λ f. Exactly f y)
