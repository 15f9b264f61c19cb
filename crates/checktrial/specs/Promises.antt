-- What C is given: the number alone, 0 where the call is refused.
use Rattle.std.specs.Prelude.{◌≡◌, List, ℕ}
use Rattle.answer.specs.Answer.{answer}
use Rattle.octets.specs.Bits.{bits_of, part}
use Rattle.remainder.specs.Division.{RemainderFrom}
use Rattle.remainder.specs.Promises.{start_refusals}

-- trial_from_start: what is left of the n bits from a place on, behind a start
pub record Tried (g k start : ℕ) (s : List ℕ) (at n r : ℕ) : Type 0 where
  pub given : answer (start_refusals g k start) ≡ 0 → RemainderFrom k g start (part at n (bits_of s)) r
  pub none : (answer (start_refusals g k start) ≡ 0 → ⊥) → r ≡ 0
