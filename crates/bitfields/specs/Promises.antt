-- What each function of the crate promises: of its arguments, its result r and what lent octets hold at exit.
use Rattle.std.specs.Prelude.{◌≡◌, List, ◌++◌, reverse, ℕ, ◌+◌, ◌-◌, ◌^◌, min, ℤ, pos, length, take, replicate}
use Rattle.octets.specs.Bits.{digits_of, value_of, bits_of, part, laid}
use Rattle.octets.specs.Signed.{signed_of, number_bits}

-- field
abbrev pub FieldRead : List ℕ → ℕ → ℕ → ℕ → Type 0
FieldRead s at w r = r ≡ value_of (part at (min w 32) (bits_of s))

-- put_field
abbrev pub FieldPut : List ℕ → ℕ → ℕ → ℕ → List ℕ → Type 0
FieldPut s at w v exit = exit ≡ laid s at (digits_of (min w 32) v)

-- signed_field
abbrev pub SignedRead : List ℕ → ℕ → ℕ → ℤ → Type 0
SignedRead s at w r = r ≡ signed_of (min w 32) (value_of (part at (min w 32) (bits_of s)))

-- the first n numbers, and zero where there are fewer
abbrev pub first_of : ℕ → List ℤ → List ℤ
first_of n zs = take n zs ++ replicate (n - length zs) (pos 0)

-- put_signed_fields: the fields of n numbers, one behind the other
abbrev pub SignedFieldsPut : List ℕ → ℕ → ℕ → List ℤ → ℕ → List ℕ → Type 0
SignedFieldsPut s at w zs n exit = exit ≡ laid s at (number_bits (min w 32) (first_of n zs))

-- turned: the w low digits of v, the other end first
abbrev pub Turned : ℕ → ℕ → ℕ → Type 0
Turned w v r = r ≡ value_of (reverse (digits_of (min w 32) v))

-- the place behind a field of w bits; the last place that a number can name where there is none
abbrev pub behind_of : ℕ → ℕ → ℕ
behind_of at w = min (at + min w 32) (2 ^ 64 - 1)

-- behind
abbrev pub Behind : ℕ → ℕ → ℕ → Type 0
Behind at w r = r ≡ behind_of at w
