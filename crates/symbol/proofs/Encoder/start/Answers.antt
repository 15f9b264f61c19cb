-- `symbol::Encoder::start` meets its contract. Assumes nothing.
use mathlib.Core.Path.{◌≡◌, refl, ap, ◌∙◌}
use mathlib.Core.Bool.{Bool, ◌&&◌, not, and-true}
use mathlib.Core.List.{[], ◌∷◌}
use Prim.Native.Nat.{ℕ}
use Rattle.answer.specs.Answer.{refuse, answer}
use Rattle.octets.specs.Bits.{value_of}
use Rattle.ranges.specs.Ranges.{is_word}
use Rattle.symbol.specs.Encoder.{encoder_in, start_tests}
use Rattle.symbol.proofs.Encoder.start.Goals as goal

-- at the start the register is in its range, so A and B decide
by-words : (a b : ℕ) → answer (refuse 4 (not (encoder_in (record { a = a; b = b; register = 0 }))) ∷ []) ≡ answer (start_tests a b)
by-words a b = ap (λ (t : Bool). answer (refuse 4 (not (is_word a && t)) ∷ [])) (and-true (is_word b))

pub returns : goal.returns
unfolding value_of
returns c = record { answered = c.in_ok-allowed.ensures ∙ by-words c.args.a c.args.b; first = refl }
