-- What the crate's functions promise.
use Rattle.std.specs.Prelude.{◌≡◌, List, [], ◌∷◌, reverse, ℕ, suc, ◌%◌, ◌^◌, eqb, leb, ltb, Result, IfOk}
use Rattle.answer.specs.Answer.{Refusal, refuse, answer}
use Rattle.answer.specs.Given.{answer_of}
use Rattle.answer.specs.declared.Refused.{Refused}
use Rattle.octets.specs.Bits.{digits_of, value_of, bits_of, part}
use Rattle.remainder.specs.Division.{Remainder, RemainderFrom, generator}

-- check_bits: the remainder of the n bits from a place on; the register starts at zero and nothing is inverted
abbrev pub CheckBits : List ℕ → ℕ → ℕ → ℕ → Type 0
CheckBits s at n r = Remainder 16 generator (part at n (bits_of s)) r

-- word_left: what is left of a word's 64 bits, the lowest first; its digits turned round
pub record WordLeft (x r : ℕ) : Type 0 where
  pub left : ℕ
  pub divided : Remainder 16 generator (digits_of 64 x) left
  pub turned : r ≡ value_of (reverse (digits_of 16 left))

-- from_start: a degree outside 1 to 16 is 4, and so is a generator of another degree or without a constant term, or a start that is no remainder
abbrev pub start_refusals : ℕ → ℕ → ℕ → List Refusal
start_refusals g k start =
    refuse 4 (eqb k 0) ∷ refuse 4 (ltb 16 k) ∷ refuse 4 (ltb g (2 ^ k)) ∷ refuse 4 (leb (2 ^ suc k) g) ∷ refuse 4 (eqb (g % 2) 0)
    ∷ refuse 4 (leb (2 ^ k) start) ∷ []

-- from_start: what is left of the n bits from a place on, behind a start
pub record FromStart (g k start : ℕ) (s : List ℕ) (at n : ℕ) (r : Result ℕ Refused) : Type 0 where
  pub answered : answer_of r ≡ answer (start_refusals g k start)
  pub given : IfOk r (λ x. RemainderFrom k g start (part at n (bits_of s)) x)
