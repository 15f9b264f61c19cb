-- The encoder (000, clause 4.3.3; which word feeds which output is a reading: figure 8 is not in our copy).
use Rattle.std.specs.Prelude.{◌≡◌, Bool, true, not, ◌&&◌, List, [], ◌∷◌, ℕ, zero, suc, ◌+◌, ◌*◌, ◌/◌, ◌%◌, ◌^◌, leb, ltb, length, get_or, take, Result, IfOk}
use Rattle.answer.specs.declared.Refused.{Refused}
use Rattle.answer.specs.Answer.{Refusal, refuse, wrong_length, answer, held}
use Rattle.answer.specs.Given.{answer_of}
use Rattle.octets.specs.Bits.{digits_of, value_of}
use Rattle.ranges.specs.Ranges.{is_word}
use Rattle.symbol.specs.Levels.{data_levels, level_at}
use Rattle.symbol.specs.declared.Encoder.{Encoder}
use Rattle.symbol.specs.declared.Step.{Step}

-- the bit of weight 2^k of a number: a_k of word A is `bit A k`
abbrev pub bit : ℕ → ℕ → ℕ
bit n k = n / 2 ^ k % 2

-- X1 of a symbol's three bits as a number: the first in time weighs 4
abbrev pub x1 : ℕ → ℕ
x1 symbol = bit symbol 2

-- X2, the second in time, weighs 2
abbrev pub x2 : ℕ → ℕ
x2 symbol = bit symbol 1

-- X3, the last in time, weighs 1
abbrev pub x3 : ℕ → ℕ
x3 symbol = bit symbol 0

-- how many of the places k below n have a 1 both in the word (a_k) and in X1 sent k symbols ago. `sent` is every X1 so far, the current
-- one first; before the first it is 0
unfoldable pub ones_left : ℕ → ℕ → List ℕ → ℕ
ones_left zero word sent = 0
ones_left (suc k) word sent = ones_left k word sent + bit word k * get_or sent k 0

-- 1 when an odd number of ones is left after the word masks the current and twenty earlier X1: a0 meets the current, a20 the oldest
abbrev pub parity_of : ℕ → List ℕ → ℕ
parity_of word sent = ones_left 21 word sent % 2

-- Y3 = X3, Y2 = X2, Y1 by word A, Y0 by word B, as the number Y3..Y0; `earlier` is every X1 sent before, newest first
abbrev pub code_of : ℕ → ℕ → List ℕ → ℕ → ℕ
code_of a b earlier symbol =
    8 * x3 symbol + 4 * x2 symbol + 2 * parity_of a (x1 symbol ∷ earlier) + parity_of b (x1 symbol ∷ earlier)

-- every X1 sent, newest first, once these symbols (in time order) have followed the earlier ones
unfoldable pub sent_after : List ℕ → List ℕ → List ℕ
sent_after earlier [] = earlier
sent_after earlier (symbol ∷ symbols) = sent_after (x1 symbol ∷ earlier) symbols

-- the codes of these symbols, in time order
unfoldable pub codes_of : ℕ → ℕ → List ℕ → List ℕ → List ℕ
codes_of a b earlier [] = []
codes_of a b earlier (symbol ∷ symbols) = code_of a b earlier symbol ∷ codes_of a b (x1 symbol ∷ earlier) symbols

-- the register once these X1 were sent, newest first: 20 bits, the newest at weight 1
abbrev pub register_of : List ℕ → ℕ
register_of sent = value_of (take 20 sent)

-- the X1 that a register holds, newest first
abbrev pub held_in : ℕ → List ℕ
held_in register = digits_of 20 register

-- whether A and B run from 0 to 2,097,151 and the register is below 2^20
abbrev pub encoder_in : Encoder → Bool
encoder_in e = is_word e.a && (is_word e.b && ltb e.register (2 ^ 20))

-- of a step: A, B or the register out of range, or a symbol over 7, is 4
abbrev pub step_tests : Encoder → ℕ → List Refusal
step_tests e symbol = refuse 4 (not (encoder_in e)) ∷ refuse 4 (ltb 7 symbol) ∷ []

-- whether no symbol of the list is over 7
unfoldable pub symbols_in : List ℕ → Bool
symbols_in [] = true
symbols_in (symbol ∷ symbols) = leb symbol 7 && symbols_in symbols

-- of a run: room for as many codes as there are symbols, then the encoder, then every symbol
abbrev pub run_tests : Encoder → List ℕ → List ℕ → List Refusal
run_tests e symbols codes =
    wrong_length codes (length symbols) ∷ refuse 4 (not (encoder_in e)) ∷ refuse 4 (not (symbols_in symbols)) ∷ []

-- an encoder with another register
abbrev pub with_register : Encoder → ℕ → Encoder
with_register e register = record { a = e.a; b = e.b; register = register }

-- the encoder after one symbol more
abbrev pub next_of : Encoder → ℕ → Encoder
next_of e symbol = with_register e (register_of (x1 symbol ∷ held_in e.register))

-- the encoder at the start: no X1 sent yet
abbrev pub start_of : ℕ → ℕ → Encoder
start_of a b = record { a = a; b = b; register = register_of [] }

-- of a start: A or B out of range is 4
abbrev pub start_tests : ℕ → ℕ → List Refusal
start_tests a b = refuse 4 (not (is_word a && is_word b)) ∷ []

-- what `Encoder::start` gives back
pub record Started (a b : ℕ) (r : Result Encoder Refused) : Type 0 where
  pub answered : answer_of r ≡ answer (start_tests a b)
  pub first : IfOk r (λ e. e ≡ start_of a b)

-- one step with nothing to refuse: the code, its level and the next state
pub record Sent (e : Encoder) (symbol : ℕ) (s : Step) : Type 0 where
  pub code : s.code ≡ code_of e.a e.b (held_in e.register) symbol
  pub level : s.sixteenths ≡ level_at data_levels (code_of e.a e.b (held_in e.register) symbol)
  pub next : s.next ≡ next_of e symbol

-- what `Encoder::step` gives back
pub record Stepped (e : Encoder) (symbol : ℕ) (r : Result Step Refused) : Type 0 where
  pub answered : answer_of r ≡ answer (step_tests e symbol)
  pub sent : IfOk r (λ s. Sent e symbol s)

-- what `Encoder::run` gives back, and what the room for the codes holds afterwards
pub record Ran (e : Encoder) (symbols codes : List ℕ) (r : Result Encoder Refused) (codes' : List ℕ) : Type 0 where
  pub answered : answer_of r ≡ answer (run_tests e symbols codes)
  pub written : codes' ≡ held (answer_of r) codes (codes_of e.a e.b (held_in e.register) symbols)
  pub next : IfOk r (λ n. n ≡ with_register e (register_of (sent_after (held_in e.register) symbols)))
