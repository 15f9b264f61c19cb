-- What each function of the crate promises: of its arguments, its result r and what lent octets hold at exit.
use Rattle.std.specs.Prelude.{◌≡◌, Bool, List, ℕ, ◌+◌, ◌*◌, ◌%◌, ◌^◌, min, eqb, ltb, ℤ, length, replicate}
use Rattle.octets.specs.Bits.{digits_of, value_of, bits_of, bit_of, part, laid}
use Rattle.octets.specs.Signed.{signed_of, twos_of}

-- bit
abbrev pub BitRead : List ℕ → ℕ → ℕ → ℕ → Type 0
BitRead s at k r = r ≡ bit_of s (at + k)

-- has
abbrev pub HasBit : List ℕ → ℕ → ℕ → Bool → Type 0
HasBit s at k r = r ≡ ltb (at + k) (length (bits_of s))

-- word
abbrev pub WordRead : List ℕ → ℕ → ℕ → Type 0
WordRead s i r = r ≡ value_of (part (8 * i) 64 (bits_of s))

-- put_word
abbrev pub WordPut : List ℕ → ℕ → ℕ → List ℕ → Type 0
WordPut s i v exit = exit ≡ laid s (8 * i) (digits_of 64 v)

-- bits
abbrev pub BitsRead : List ℕ → ℕ → ℕ → ℕ → ℕ → Type 0
BitsRead s at k n r = r ≡ value_of (part (at + k) (min n 56) (bits_of s))

-- put_bits
abbrev pub BitsPut : List ℕ → ℕ → ℕ → ℕ → ℕ → List ℕ → Type 0
BitsPut s at k n v exit = exit ≡ laid s (at + k) (digits_of (min n 56) v)

-- put_front
abbrev pub FrontPut : List ℕ → ℕ → ℕ → ℕ → List ℕ → Type 0
FrontPut s i n v exit = exit ≡ laid s (8 * i) (digits_of (min n 64) v)

-- copy
abbrev pub Copied : List ℕ → ℕ → List ℕ → ℕ → ℕ → List ℕ → Type 0
Copied s at source from n exit = exit ≡ laid s at (part from n (bits_of source))

-- clear
abbrev pub Cleared : List ℕ → ℕ → ℕ → List ℕ → Type 0
Cleared s at n exit = exit ≡ laid s at (replicate n 0)

-- is_clear
abbrev pub IsClear : List ℕ → ℕ → ℕ → Bool → Type 0
IsClear s at n r = r ≡ eqb (value_of (part at n (bits_of s))) 0

-- signed
abbrev pub Signed : ℕ → ℕ → ℤ → Type 0
Signed w n r = r ≡ signed_of (min w 32) (n % 2 ^ min w 32)

-- twos
abbrev pub Twos : ℤ → ℕ → Type 0
Twos z r = r ≡ twos_of 32 z
