-- The same remainder, computed: a register of k digits that starts at zero and takes the bits one after the other.
use Rattle.std.specs.Prelude.{List, [], ◌∷◌, ℕ, ◌-◌, ◌*◌, ◌/◌, ◌%◌, ◌^◌}
use Rattle.std.specs.Int.Bits.{bit_xor}

-- one bit: the register times D, and where its highest digit and the bit differ, the generator taken off
abbrev pub step_of : ℕ → ℕ → ℕ → ℕ → ℕ
step_of k g r b = bit_xor (r * 2 % 2 ^ k) (bit_xor (r / 2 ^ (k - 1)) b * (g % 2 ^ k))

-- bits one after the other
unfoldable pub register_of : ℕ → ℕ → ℕ → List ℕ → ℕ
register_of k g r [] = r
register_of k g r (b ∷ bs) = register_of k g (step_of k g r b) bs
