-- Numbers of the channel precoder (000, clause 4.3.4), all in whole steps of 1/131,072: ranges, rounding, folding and the past.
-- Of the library: ℤ are the whole numbers, `pos n` is n and `neg_ℤ` turns the sign.
use Rattle.std.specs.Prelude.{◌≡◌, Bool, true, List, ◌∷◌, ℕ, ◌*◌, ◌/◌, ◌-◌, ℤ, pos, neg_ℤ, ◌+ℤ◌, ◌-ℤ◌, ◌*ℤ◌, take, replicate, ◌≤ℤ◌, ◌<ℤ◌}
use Rattle.ranges.specs.Ranges.{coefficient_count, between}

-- 1 is so many steps
abbrev pub one : ℕ
one = 131072

-- x, y and past outputs lie from -131,072 to 131,071
abbrev pub is_signal : ℤ → Bool
is_signal z = between (neg_ℤ (pos one)) (pos (one - 1)) z

-- the last 180 outputs, y(m-1) first, are all zero at first
abbrev pub at_start : List ℤ
at_start = replicate coefficient_count (pos 0)

-- the past after y: every output moves one place on, and the oldest is dropped
abbrev pub past_after : List ℤ → ℤ → List ℤ
past_after past y = y ∷ take (coefficient_count - 1) past

-- v is s/131,072 rounded to the nearest whole number, halves upward: v - 1/2 ≤ s/131,072 < v + 1/2
pub record Rounds (s v : ℤ) : Type 0 where
  pub low : (pos one *ℤ v -ℤ pos (one / 2)) ≤ℤ s
  pub high : s <ℤ (pos one *ℤ v +ℤ pos (one / 2))

-- y = u + 262,144 d, with the one d that puts y from -131,072 to 131,071
pub record Folds (u y : ℤ) : Type 0 where
  pub d : ℤ
  pub is : y ≡ u +ℤ pos (2 * one) *ℤ d
  pub signal : is_signal y ≡ true
