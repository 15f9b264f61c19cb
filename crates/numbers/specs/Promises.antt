-- Signed numbers in octets: four octets each, low octet first, in two's complement.
use Rattle.std.specs.Prelude.{◌≡◌, cond, List, [], ◌∷◌, ◌++◌, ℕ, ◌+◌, ◌*◌, ◌/◌, min, ltb, ℤ, pos, length, get_or, take, drop, replicate}
use Rattle.ranges.specs.Ranges.{coefficient_count}
use Rattle.octets.specs.Bits.{bits_of, octets_of}
use Rattle.octets.specs.Signed.{number_bits, numbers_in}

-- four octets each
abbrev pub number_length : ℕ
number_length = 4

-- as many as there are coefficients, or remembered outputs, have 720
abbrev pub coefficients_length : ℕ
coefficients_length = number_length * coefficient_count

-- the numbers that octets stand for; fewer than four octets at the end stand for none
unfoldable pub numbers_of : List ℕ → List ℤ
numbers_of os = numbers_in (8 * number_length) (length os / number_length) (bits_of os)

-- and their octets
unfoldable pub number_octets : List ℤ → List ℕ
number_octets zs = octets_of (number_length * length zs) (number_bits (8 * number_length) zs)

-- number: number k, the first being number 0; where there is none it is 0
abbrev pub NumberRead : List ℕ → ℕ → ℤ → Type 0
NumberRead os k r = r ≡ get_or (numbers_of os) k (pos 0)

-- octets with their number k made z; where they have none they stay
abbrev pub with_number : List ℕ → ℕ → ℤ → List ℕ
with_number os k z =
    cond (ltb k (length os / number_length)) (take (number_length * k) os ++ number_octets (z ∷ []) ++ drop (number_length * k + number_length) os) os

-- put_number
abbrev pub NumberPut : List ℕ → ℕ → ℤ → List ℕ → Type 0
NumberPut os k z exit = exit ≡ with_number os k z

-- numbers: the first 180, and 0 where there are fewer
abbrev pub NumbersRead : List ℕ → List ℤ → Type 0
NumbersRead os r = r ≡ take coefficient_count (numbers_of os ++ replicate coefficient_count (pos 0))

-- how many of some numbers octets have room for
abbrev pub room_for : List ℕ → List ℤ → ℕ
room_for os zs = min (length zs) (length os / number_length)

-- put_numbers: as many as there is room for, from the first octet on; the octets behind them stay
abbrev pub NumbersPut : List ℕ → List ℤ → List ℕ → Type 0
NumbersPut os zs exit = exit ≡ number_octets (take (room_for os zs) zs) ++ drop (number_length * room_for os zs) os
