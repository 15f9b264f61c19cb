-- What the walks over fields promise.
use Rattle.std.specs.Prelude.{◌≡◌, List, [], ◌∷◌, ℕ, zero, suc, min, ℤ, length}
use Rattle.octets.specs.Bits.{value_of, bits_of, part}
use Rattle.octets.specs.Signed.{signed_of}
use Rattle.bitfields.specs.Promises.{behind_of}
use Rattle.walk.specs.declared.TakenPair.{TakenPair}

-- pair
abbrev pub PairTaken : List ℕ → ℕ → ℕ → ℕ → TakenPair → Type 0
PairTaken s at v w r =
    r ≡ record {
      first = value_of (part at (min v 32) (bits_of s));
      second = value_of (part (behind_of at v) (min w 32) (bits_of s));
      next = behind_of (behind_of at v) w;
    }

-- n fields of w bits in two's complement, one behind the other from a place on
unfoldable pub signed_from : List ℕ → ℕ → ℕ → ℕ → List ℤ
signed_from s at w zero = []
signed_from s at w (suc n) = signed_of (min w 32) (value_of (part at (min w 32) (bits_of s))) ∷ signed_from s (behind_of at w) w n

-- the place behind n fields of w bits
unfoldable pub behind_all : ℕ → ℕ → ℕ → ℕ
behind_all at w zero = at
behind_all at w (suc n) = behind_all (behind_of at w) w n

-- fill_signed: as many fields as the room takes
abbrev pub SignedFilled : List ℕ → ℕ → ℕ → List ℤ → List ℤ → ℕ → Type 0
SignedFilled s at w into exit r = (exit ≡ signed_from s at w (length into)) × (r ≡ behind_all at w (length into))
