-- Check bits (SCOPE): the remainder of bits as a polynomial, the first highest, times D^k, divided by a generator of degree k.
-- A polynomial over GF(2) is the number whose binary digit k is the coefficient of D^k: the sum of two is `bit_xor`, and the product
-- by D^k is `* 2 ^ k`.
use Rattle.std.specs.Prelude.{◌≡◌, Bool, true, false, List, [], ◌∷◌, reverse, ℕ, suc, ◌+◌, ◌*◌, ◌^◌, ◌≤◌, ◌<◌, length}
use Rattle.std.specs.Int.Bits.{bit_xor}
use Rattle.octets.specs.Bits.{digits_of, value_of}

-- a coefficient times g
abbrev pub scale : Bool → ℕ → ℕ
scale true g = g
scale false g = 0

-- the product of q, its coefficients lowest first, and g
unfoldable pub times : List Bool → ℕ → ℕ
times [] g = 0
times (c ∷ q) g = bit_xor (times q g * 2) (scale c g)

-- the polynomial of bits, the first bit the highest coefficient
abbrev pub polynomial : List ℕ → ℕ
polynomial bs = value_of (reverse bs)

-- the check bits c1 to ck as they stand: c1 is the coefficient of D^(k-1)
abbrev pub check_bits : ℕ → ℕ → List ℕ
check_bits k r = reverse (digits_of k r)

-- g has the degree k
pub record Degree (g k : ℕ) : Type 0 where
  pub reached : 2 ^ k ≤ g
  pub within : g < 2 ^ suc k

-- r is what is left when the polynomial of the bits bs, times D^k, is divided by g: there is a quotient, and r has a degree below k
pub record Remainder (k g : ℕ) (bs : List ℕ) (r : ℕ) : Type 0 where
  pub quotient : List Bool
  pub divided : polynomial bs * 2 ^ k ≡ bit_xor (times quotient g) r
  pub below : r < 2 ^ k

-- the same of bits that follow others: the start is what was left of those, so it stands above the bits
pub record RemainderFrom (k g start : ℕ) (bs : List ℕ) (r : ℕ) : Type 0 where
  pub quotient : List Bool
  pub divided : bit_xor (start * 2 ^ length bs) (polynomial bs * 2 ^ k) ≡ bit_xor (times quotient g) r
  pub below : r < 2 ^ k

-- n is a multiple of g
pub record Multiple (g n : ℕ) : Type 0 where
  pub quotient : List Bool
  pub product : n ≡ times quotient g

-- D^16 + D^12 + D^5 + 1
abbrev pub generator : ℕ
generator = 2 ^ 16 + 2 ^ 12 + 2 ^ 5 + 1
