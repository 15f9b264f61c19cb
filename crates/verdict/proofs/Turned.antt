-- Reading a word last bit first is undone by doing it again, so it makes no difference which of two cards was read so. Assumes nothing.
use mathlib.Core.Path.{◌≡◌, sym, ap, ◌∙◌}
use mathlib.Core.List.{List, reverse, reverse-reverse}
use Prim.Native.Nat.{ℕ, ◌<◌, ◌%◌}
use native.Mathlib.Omega.{arith}
use lib.ListN.{length, length-reverse}
use Rattle.octets.specs.Bits.{digits_of, value_of}
use Rattle.octets.proofs.Digits.{digits-length, digits-bits, digits_value, value-digits, reverse_bits}
use Rattle.verdict.specs.Verdict.{last_first}

-- the digits of a word read last bit first
turned-digits : (y : ℕ) → digits_of 21 (value_of (reverse (digits_of 21 y))) ≡ reverse (digits_of 21 y)
turned-digits y =
    let l = reverse (digits_of 21 y) in
    let e : length l ≡ 21 = length-reverse (digits_of 21 y) ∙ digits-length 21 y in
    ap (λ (n : ℕ). digits_of n (value_of l)) (sym e) ∙ digits_value l (reverse_bits (digits_of 21 y) (digits-bits 21 y))

pub turned-back : (y : ℕ) → y < 2097152 → last_first (last_first y) ≡ y
unfolding last_first
turned-back y h =
    let e : y % 2097152 ≡ y = omega arith in
    ap (λ (l : List ℕ). value_of (reverse l)) (turned-digits y) ∙ ap value_of (reverse-reverse (digits_of 21 y)) ∙ value-digits 21 y ∙ e

-- a card's word is the customer's read so exactly where the customer's is the card's read so
pub turned-both : (x y : ℕ) → y < 2097152 → x ≡ last_first y → y ≡ last_first x
turned-both x y h e = sym (turned-back y h) ∙ ap last_first (sym e)
