-- The thirteen examples of SCOPE ("Proved examples"): what is called, on what, and what is due. What is due is copied from SCOPE.
use Rattle.std.specs.Prelude.{◌≡◌, true, List, [], ◌∷◌, ◌++◌, ℕ, ◌-◌, ℤ, pos, neg_ℤ, replicate, Float}
use Rattle.std.specs.Float.{fin}
use Rattle.ranges.specs.Ranges.{coefficient_count, lowest_coefficient}
use Rattle.samples.specs.Samples.{one, is_signal, Rounds}
use Rattle.samples.specs.Shaper.{Exactly}
use Rattle.precoder.specs.Precoder.{exact_sum, Sends}
use Rattle.examples.specs.Calls.{Call, training, final, ones, check, remainder, scrambled, encoded, whole, given}

-- a row begins with the example's number in SCOPE
pub data Row : Type 0 where
  -- what it calls, and the numbers due
  row : ℕ → Call → List ℤ → Row
  -- of the precoder: coefficients, past outputs, and v due
  rounded : ℕ → List ℤ → List ℤ → ℤ → Row
  -- coefficients, past outputs, x, and y due
  precoded : ℕ → List ℤ → List ℤ → ℤ → ℤ → Row
  -- coefficients and past outputs with which y = x is due, for every x in its range
  itself : ℕ → List ℤ → List ℤ → Row
  -- y, and the shaper's float due
  shaped : ℕ → ℤ → Float → Row

-- one value in front of 179 zeros
abbrev pub first : ℤ → List ℤ
first z = z ∷ replicate (coefficient_count - 1) (pos 0)

-- 180 coefficients of -2,097,152
abbrev pub lowest : List ℤ
lowest = replicate coefficient_count lowest_coefficient

-- and 180 past values of -131,072
abbrev pub furthest : List ℤ
furthest = replicate coefficient_count (neg_ℤ (pos one))

-- -0.125 as a float: below zero, 1 times 2 to the power -3
abbrev pub minus_eighth : Float
minus_eighth = fin true 1 (neg_ℤ (pos 3))

-- the thirteen examples, in their order; an example with several parts has a row for each
unfoldable pub table : List Row
table =
    row 1 training (whole (159 ∷ 53 ∷ []))
    ∷ row 1 final (whole (107 ∷ 62 ∷ []))
    ∷ row 2 (ones (pos 1) 0 0) (whole (15 ∷ []))
    ∷ row 2 (ones (neg_ℤ (pos 2097152)) 0 0) (whole (36 ∷ []))
    ∷ row 3 (ones (pos 0) 1 0) (whole (3975 ∷ []))
    ∷ row 3 (ones (pos 0) 0 1048576) (whole (4016 ∷ []))
    ∷ row 4 (check 4211) (whole (4 ∷ 11 ∷ 16 ∷ 4215 ∷ 4222 ∷ 4227 ∷ []))
    ∷ row 5 (remainder (1 ∷ 0 ∷ [])) (whole (13 ∷ 6 ∷ 1 ∷ []))
    ∷ row 6 (scrambled 0 0 (replicate 25 1))
    (whole (1 ∷ 1 ∷ 1 ∷ 1 ∷ 1 ∷ 0 ∷ 0 ∷ 0 ∷ 0 ∷ 0 ∷ 1 ∷ 1 ∷ 1 ∷ 1 ∷ 1 ∷ 0 ∷ 0 ∷ 0 ∷ 0 ∷ 0 ∷ 1 ∷ 1 ∷ 1 ∷ 0 ∷ 0 ∷ []))
    ∷ row 7 (scrambled 1 0 (replicate 24 1)) (whole (replicate 18 1 ++ (replicate 5 0 ++ (1 ∷ []))))
    ∷ row 8 (scrambled 0 8388607 (1 ∷ [])) (whole (1 ∷ []))
    ∷ row 8 (scrambled 1 8388607 (1 ∷ [])) (whole (1 ∷ []))
    ∷ row 9 (encoded 1 2 0 (5 ∷ 3 ∷ [])) (whole (13 ∷ 3 ∷ 2 ∷ []))
    ∷ precoded 10 (first (pos 65536)) (first (pos 73728)) (pos 73728) (pos 36864)
    ∷ precoded 11 (first (neg_ℤ (pos 131072))) (first (pos 122880)) (pos 122880) (neg_ℤ (pos 16384))
    ∷ shaped 11 (neg_ℤ (pos 16384)) minus_eighth
    ∷ rounded 12 (first (pos 1)) (first (pos 65536)) (pos 1)
    ∷ rounded 12 (first (pos 1)) (first (neg_ℤ (pos 65536))) (pos 0)
    ∷ rounded 12 (first (pos 1)) (first (neg_ℤ (pos 65537))) (neg_ℤ (pos 1))
    ∷ rounded 13 lowest furthest (pos 377487360)
    ∷ itself 13 lowest furthest
    ∷ []

-- what a row claims: that the definitions give the numbers due, or that what is due is right as the contracts say it
unfoldable pub Claim : Row → Type 0
Claim (row n call due) = given call ≡ due
Claim (rounded n cs past due) = Rounds (exact_sum coefficient_count cs past) due
Claim (precoded n cs past x due) = Sends cs past x due
Claim (itself n cs past) = (x : ℤ) → is_signal x ≡ true → Sends cs past x x
Claim (shaped n y due) = Exactly due y

-- that every row's claim holds
unfoldable pub Hold : List Row → Type 0
Hold [] = Unit {0}
Hold (r ∷ rs) = Claim r × Hold rs
