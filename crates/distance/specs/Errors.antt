-- Changed bits of a message with its check bits, of any length, and of an activation frame: how many they are, and how near to each other.
use Rattle.std.specs.Prelude.{◌≡◌, cond, ◌⊎◌, List, [], ◌∷◌, ℕ, ◌+◌, ◌-◌, ◌^◌, ◌≤◌, ◌<◌, eqb, get_or}
use Rattle.std.specs.Int.Bits.{bit_xor}
use Rattle.remainder.specs.Division.{polynomial, Multiple}
use Rattle.layout.specs.Places.{place_of, coefficients_field, pad_field}

-- the number of places at which two lists of one length differ
unfoldable pub distance : List ℕ → List ℕ → ℕ
distance [] cs = 0
distance (b ∷ bs) [] = 0
distance (b ∷ bs) (c ∷ cs) = cond (eqb b c) 0 1 + distance bs cs

-- two lists differ nowhere but at the n places from `at` on
abbrev pub Within : ℕ → ℕ → List ℕ → List ℕ → Type 0
Within at n bs cs = (i : ℕ) → (i < at) ⊎ (at + n ≤ i) → get_or bs i 0 ≡ get_or cs i 0

-- ---- any list of bits, for any generator g

-- two lists leave the same remainder: what lies between them is a multiple of g
abbrev pub Same : ℕ → List ℕ → List ℕ → Type 0
Same g bs cs = Multiple g (bit_xor (polynomial bs) (polynomial cs))

-- no two powers of D below the n-th leave the same remainder: D^m + 1 is no multiple of g for m from 1 on and below n
abbrev pub Apart : ℕ → ℕ → Type 0
Apart g n = (m : ℕ) → 1 ≤ m → m < n → Multiple g (bit_xor (2 ^ m) 1) → ⊥

-- the order of D modulo g: D^n leaves 1, so that two ones n places apart go unseen, and no lesser power does
pub record Order (g n : ℕ) : Type 0 where
  pub one : Multiple g (bit_xor (2 ^ n) 1)
  pub apart : Apart g n

-- how many bits, check bits and all, the generator of SCOPE keeps apart: the order of D modulo it (theorem `generator-order`)
abbrev pub reach : ℕ
reach = 32767

-- up to this many wrong bits are always seen
abbrev pub most : ℕ
most = 3

-- and any number of them that stand within this many in a row
abbrev pub longest : ℕ
longest = 16

-- one, two or three bits differ
pub record FewBits (bs cs : List ℕ) : Type 0 where
  pub some : 1 ≤ distance bs cs
  pub few : distance bs cs ≤ most

-- some bits differ, and all that differ stand within n in a row
pub record BurstBits (n : ℕ) (bs cs : List ℕ) : Type 0 where
  pub some : 1 ≤ distance bs cs
  pub start : ℕ
  pub near : Within start n bs cs

-- ---- the activation frame

-- the bits of two frames differ nowhere but in bits 15 to 4,227: message and check bits
abbrev pub Covered : List ℕ → List ℕ → Type 0
Covered bs cs = Within (place_of coefficients_field) (place_of pad_field - place_of coefficients_field) bs cs

-- one, two or three of those bits differ
pub record Few (bs cs : List ℕ) : Type 0 where
  pub some : 1 ≤ distance bs cs
  pub few : distance bs cs ≤ most
  pub covered : Covered bs cs

-- a burst of up to 16: some of those bits differ, and all that differ stand within 16 in a row
pub record Burst (bs cs : List ℕ) : Type 0 where
  pub some : 1 ≤ distance bs cs
  pub start : ℕ
  pub near : Within start longest bs cs
  pub covered : Covered bs cs
