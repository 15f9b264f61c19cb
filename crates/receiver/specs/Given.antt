-- What the receiver gives of bits (SCOPE, "Bits off the line"): "the earliest such place with the frame descrambled (pad zero), then goes on after
-- that frame's last bit". Theorem `given-one`: there is exactly one such list.
use Rattle.std.specs.Prelude.{◌≡◌, true, false, List, [], ◌∷◌, ℕ, ◌+◌, ◌≤◌, ◌<◌}
use Rattle.receiver.specs.Stream.{frame_bits, frame_at, lies_at}

-- a place, and the frame that lies there, descrambled
pub record Given : Type 0 where
  pub place : ℕ
  pub frame : List ℕ

-- the frame at place p of bits
abbrev pub given_at : ℕ → List ℕ → ℕ → Given
given_at end bits p = record { place = p; frame = frame_at end bits p }

-- p is the earliest place from `from` on where a frame lies
pub record Earliest (end : ℕ) (bits : List ℕ) (from p : ℕ) : Type 0 where
  pub not_before : from ≤ p
  pub lies : lies_at end bits p ≡ true
  pub first : (q : ℕ) → from ≤ q → q < p → lies_at end bits q ≡ false

-- WHAT IS GIVEN from a place on: nothing, where no frame lies at or behind it; or the earliest, and what is given from behind its last bit on
pub data GivenFrom (end : ℕ) (bits : List ℕ) : ℕ → List Given → Type 0 where
  nothing : (from : ℕ) → ((q : ℕ) → from ≤ q → lies_at end bits q ≡ false) → GivenFrom end bits from []
  next : (from p : ℕ) (gs : List Given) → Earliest end bits from p → GivenFrom end bits (p + frame_bits) gs
      → GivenFrom end bits from (given_at end bits p ∷ gs)

-- WHAT IS GIVEN OF BITS, from their first on
abbrev pub GivenOf : ℕ → List ℕ → List Given → Type 0
GivenOf end bits gs = GivenFrom end bits 0 gs
