-- Bits in octets (SCOPE, "The activation frame"): bit n has weight 2 to the power (n-1) mod 8 in octet (n-1)/8, whole part,
-- octets counted from 0. Places count from 0 here: bit n of the paper stands at place n - 1. A bit is the number 0 or 1.
use Rattle.std.specs.Prelude.{List, [], ◌∷◌, ◌++◌, ℕ, zero, suc, ◌+◌, ◌*◌, ◌/◌, ◌%◌, length, get_or, take, drop}
use Rattle.std.proofs.lemmas.List.Edits.{sets}

-- the k low binary digits of n, the lowest first
unfoldable pub digits_of : ℕ → ℕ → List ℕ
digits_of zero n = []
digits_of (suc k) n = n % 2 ∷ digits_of k (n / 2)

-- the number whose binary digits are bs, the lowest first
unfoldable pub value_of : List ℕ → ℕ
value_of [] = 0
value_of (b ∷ bs) = value_of bs * 2 + b

-- the bits of octets: of each octet its eight digits, the lowest first
unfoldable pub bits_of : List ℕ → List ℕ
bits_of [] = []
bits_of (o ∷ os) = digits_of 8 o ++ bits_of os

-- bits as n octets, of eight bits each
unfoldable pub octets_of : ℕ → List ℕ → List ℕ
octets_of zero bs = []
octets_of (suc n) bs = value_of (take 8 bs) ∷ octets_of n (drop 8 bs)

-- the bit at a place; past the end 0
abbrev pub bit_of : List ℕ → ℕ → ℕ
bit_of s i = get_or (bits_of s) i 0

-- the n bits from a place on; what lies past the end is left out
abbrev pub part : {A : Type 0} → ℕ → ℕ → List A → List A
part at n l = take n (drop at l)

-- the octets s with the bits bs laid over theirs from a place on; what would lie past the end is left out
unfoldable pub laid : List ℕ → ℕ → List ℕ → List ℕ
laid s at bs = octets_of (length s) (sets (bits_of s) at bs)
