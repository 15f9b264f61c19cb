-- Two's complement over a width w: from -2^(w-1) to 2^(w-1)-1, so that 4,194,303 in 22 bits is -1.
use Rattle.std.specs.Prelude.{cond, List, [], ◌∷◌, ◌++◌, ℕ, zero, suc, ◌-◌, ◌%◌, ◌^◌, ltb, ℤ, pos, negsuc, ◌-ℤ◌, take, drop}
use Rattle.octets.specs.Bits.{digits_of, value_of}

-- the whole number that w binary digits of value n stand for: n where the highest digit is 0, else n less 2^w
unfoldable pub signed_of : ℕ → ℕ → ℤ
signed_of w n = cond (ltb n (2 ^ (w - 1))) (pos n) (pos n -ℤ pos (2 ^ w))

-- the value of the w binary digits that stand for a whole number: -1 - n has the digits of n turned over
unfoldable pub twos_of : ℕ → ℤ → ℕ
twos_of w (pos n) = n % 2 ^ w
twos_of w (negsuc n) = 2 ^ w - 1 - n % 2 ^ w

-- numbers one after the other, each w bits, least bit first
unfoldable pub number_bits : ℕ → List ℤ → List ℕ
number_bits w [] = []
number_bits w (z ∷ zs) = digits_of w (twos_of w z) ++ number_bits w zs

-- n numbers of w bits each, read from bits
unfoldable pub numbers_in : ℕ → ℕ → List ℕ → List ℤ
numbers_in w zero bits = []
numbers_in w (suc n) bits = signed_of w (value_of (take w bits)) ∷ numbers_in w n (drop w bits)
