-- What an example of SCOPE ("Proved examples") calls, on what, and what the definitions give.
use Rattle.std.specs.Prelude.{List, [], ◌∷◌, ◌++◌, map, ℕ, zero, suc, ◌+◌, ◌-◌, ℤ, pos, replicate}
use Rattle.octets.specs.Bits.{octets_of}
use Rattle.remainder.specs.Division.{check_bits, generator}
use Rattle.remainder.specs.Register.{register_of}
use Rattle.layout.specs.Places.{reserved_width, check_width, vendor_length}
use Rattle.layout.specs.Frame.{training_sync, final_sync, message, check_of}
use Rattle.scrambler.specs.Ends.{tap_of}
use Rattle.recurrence.specs.Run.{run_of}
use Rattle.recurrence.specs.declared.Way.TheVariants.{Scramble as scramble}
use Rattle.symbol.specs.Levels.{level_at, data_levels}
use Rattle.symbol.specs.Encoder.{codes_of, sent_after, held_in}
use Rattle.symbol.specs.Encoder.{register_of as encoder_register}
use Rattle.ranges.specs.Ranges.{coefficient_count}

-- what an example calls, and on what
pub data Call : Type 0 where
  -- the octets of a training frame's sync, and of a final frame's
  training final : Call
  -- the numbers of the bits from 15 to 4211 that are 1 in a training frame with C(1), A and B, all else zero
  ones : ℤ → ℕ → ℕ → Call
  -- a message that is zero but for one frame bit: the numbers of its check bits that are 1, and their frame bits
  check : ℕ → Call
  -- the exponents in the remainder of message bits
  remainder : List ℕ → Call
  -- what comes out for an end, a state and bits
  scrambled : ℕ → ℕ → List ℕ → Call
  -- the levels in sixteenths, then the register: A, B, register, symbols
  encoded : ℕ → ℕ → ℕ → List ℕ → Call

-- the numbers of the bits that are not 0, the first having number n
unfoldable pub ones_from : ℕ → List ℕ → List ℕ
ones_from n [] = []
ones_from n (zero ∷ bs) = ones_from (n + 1) bs
ones_from n (suc b ∷ bs) = n ∷ ones_from (n + 1) bs

-- natural numbers as whole numbers
unfoldable pub whole : List ℕ → List ℤ
whole [] = []
whole (n ∷ ns) = pos n ∷ whole ns

-- the levels of codes
unfoldable pub levels : List ℕ → List ℤ
levels [] = []
levels (c ∷ cs) = level_at data_levels c ∷ levels cs

-- check bits by number, and then by frame bit: c1 is frame bit 4212
unfoldable pub places : List ℕ → List ℤ
places cs = whole cs ++ whole (map (λ (c : ℕ). 4211 + c) cs)

-- the exponents of a polynomial of degree below 16, the highest first; c1 is the bit of D^15
unfoldable pub exponents : List ℕ → List ℕ
exponents [] = []
exponents (c ∷ cs) = (check_width - c) ∷ exponents cs

-- what the definitions give
unfoldable pub given : Call → List ℤ
given training = whole (octets_of 2 training_sync)
given final = whole (octets_of 2 final_sync)
given (ones c a b) =
    whole (ones_from 15 (message (c ∷ replicate (coefficient_count - 1) (pos 0)) a b (replicate vendor_length 0) (replicate reserved_width 0)))
given (check n) = places (ones_from 1 (check_bits check_width (check_of (replicate (n - 15) 0 ++ (1 ∷ replicate (4211 - n) 0)))))
given (remainder m) = whole (exponents (ones_from 1 (check_bits check_width (register_of check_width generator 0 m))))
given (scrambled end state bits) = whole (run_of scramble (tap_of end) state bits)
given (encoded a b register symbols) =
    levels (codes_of a b (held_in register) symbols) ++ (pos (encoder_register (sent_after (held_in register) symbols)) ∷ [])
