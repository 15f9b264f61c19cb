-- Text as octets of ASCII: quoted words, numbers in decimal, octets in hex.
use Rattle.std.specs.Prelude.{◌≡◌, Bool, true, false, cond, List, [], ◌∷◌, ◌++◌, length, get_or}
use Rattle.std.specs.Prelude.{ℕ, zero, suc, ◌+◌, ◌-◌, ◌*◌, ◌/◌, ◌%◌, ◌≤◌, ◌<◌, ltb, ℤ, pos, negsuc}
use Prim.Native.Char.{code}
use Prim.Native.String.{String, [] as none, ◌∷◌ as ◌then◌}

-- the octets of a quoted text: the code of each character, so that "\n" is the octet 10
abbrev pub text : String → List ℕ
text none = []
text (c then s) = code c ∷ text s

-- the character of a digit below 16: 0 to 9, then the capital letters A to F
abbrev pub digit : ℕ → ℕ
digit d = cond (ltb d 10) (48 + d) (55 + d)

-- n in decimal: its one digit where it is below ten (`small`), else a tenth of it in decimal and then its last digit. `most` bounds the
-- turns; n turns are more than enough
unfoldable pub decimal_in : ℕ → Bool → ℕ → List ℕ
decimal_in zero small n = digit n ∷ []
decimal_in (suc most) true n = digit n ∷ []
decimal_in (suc most) false n = decimal_in most (ltb (n / 10) 10) (n / 10) ++ (digit (n % 10) ∷ [])

-- a number in decimal, the highest digit first, with no zero in front
unfoldable pub decimal : ℕ → List ℕ
decimal n = decimal_in n (ltb n 10) n

-- a whole number in decimal, with - in front where it is below zero
unfoldable pub signed : ℤ → List ℕ
signed (pos n) = decimal n
signed (negsuc n) = text "-" ++ decimal (n + 1)

-- an octet as two hex digits, the high one first
unfoldable pub hex : ℕ → List ℕ
hex o = digit (o / 16) ∷ digit (o % 16) ∷ []

-- octets in order, two hex digits each
unfoldable pub hexes : List ℕ → List ℕ
hexes [] = []
hexes (o ∷ os) = hex o ++ hexes os

-- the digit that a character stands for
abbrev pub digit_of : ℕ → ℕ
digit_of c = cond (ltb c 65) (c - 48) (c - 55)

-- the number that characters stand for in a base, the first highest, behind those already read
unfoldable pub reading : ℕ → ℕ → List ℕ → ℕ
reading base read [] = read
reading base read (c ∷ cs) = reading base (read * base + digit_of c) cs

-- the decimal form of n: one character or more, each from 0 to 9, that read as n, the first of several not 0
pub record Decimal (n : ℕ) (cs : List ℕ) : Type 0 where
  pub some : 0 < length cs
  pub low : (i : ℕ) → i < length cs → 48 ≤ get_or cs i 0
  pub high : (i : ℕ) → i < length cs → get_or cs i 0 ≤ 57
  pub reads : reading 10 0 cs ≡ n
  pub first : 1 < length cs → get_or cs 0 0 ≡ 48 → ⊥
