-- The check sequence of an operations channel message (002, clause 10.5.5.4: "calculated as specified in RFC 1662", FCS-16): of octets, each octet's
-- lowest bit first, what is left of a division by x^16 + x^12 + x^5 + 1 behind sixteen ones; turned over bit by bit; the coefficient of x^15 is sent
-- first, so that the octet of the high coefficients goes first.
use Rattle.std.specs.Prelude.{◌≡◌, List, ℕ, ◌-◌, ◌^◌}
use Rattle.octets.specs.Bits.{bits_of, octets_of}
use Rattle.remainder.specs.Division.{check_bits, RemainderFrom, generator}
use Rattle.remainder.specs.Register.{register_of}

-- sixteen ones: what the register starts with, and what turns every bit of it over
abbrev pub ones : ℕ
ones = 2 ^ 16 - 1

-- a remainder as it is sent: every bit turned over, the coefficient of x^15 first, in two octets
abbrev pub sent : ℕ → List ℕ
sent r = octets_of 2 (check_bits 16 (ones - r))

-- c is the check sequence of the octets s: what is left of the division, as it is sent
pub record Sequence (s c : List ℕ) : Type 0 where
  pub left : ℕ
  pub divided : RemainderFrom 16 generator ones (bits_of s) left
  pub as_sent : c ≡ sent left

-- the register after octets
abbrev pub register : List ℕ → ℕ
register s = register_of 16 generator ones (bits_of s)

-- the same check sequence, computed (theorems `sequence-is` and `sequence-one`: it is one, and the only one)
unfoldable pub sequence_of : List ℕ → List ℕ
sequence_of s = sent (register s)

-- RFC 1662's good value, 1D0F: what the register holds after any octets and their check sequence. RFC 1662 keeps its register turned round, F0B8
abbrev pub good : ℕ
good = 0x1D0F
