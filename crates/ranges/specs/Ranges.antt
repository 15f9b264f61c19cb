-- Measures and ranges that the frame and the symbols share (SCOPE, "The activation frame"): of a coefficient, and of A and B.
-- Of the library: ℤ are the whole numbers, `pos n` is n, `neg_ℤ` turns the sign, and `le_z` and `leb` say whether one is at most the other.
use Rattle.std.specs.Prelude.{Bool, true, ◌&&◌, List, [], ◌∷◌, ℕ, leb, ℤ, pos, neg_ℤ}
use Rattle.std.specs.Int.Signed.{le_z}

-- a frame carries 180 coefficients, and the precoder has as many taps
abbrev pub coefficient_count : ℕ
coefficient_count = 180

-- a coefficient has 22 bits
abbrev pub coefficient_width : ℕ
coefficient_width = 22

-- A and B have 21
abbrev pub word_width : ℕ
word_width = 21

-- a coefficient lies from -2,097,152
abbrev pub lowest_coefficient : ℤ
lowest_coefficient = neg_ℤ (pos 2097152)

-- to 2,097,151
abbrev pub highest_coefficient : ℤ
highest_coefficient = pos 2097151

-- A and B run from 0 to 2,097,151
abbrev pub highest_word : ℕ
highest_word = 2097151

-- whether a number lies from low to high
abbrev pub between : ℤ → ℤ → ℤ → Bool
between low high z = le_z low z && le_z z high

-- whether a number is a coefficient's
abbrev pub is_coefficient : ℤ → Bool
is_coefficient z = between lowest_coefficient highest_coefficient z

-- whether a number can be A or B
abbrev pub is_word : ℕ → Bool
is_word n = leb n highest_word

-- whether a test holds of every number of a list
unfoldable pub every : (ℤ → Bool) → List ℤ → Bool
every test [] = true
every test (z ∷ zs) = test z && every test zs
