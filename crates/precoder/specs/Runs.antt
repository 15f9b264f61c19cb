-- Runs of symbols in one call, on octets: coefficients, history and symbols, four a number.
use Rattle.std.specs.Prelude.{◌≡◌, Bool, true, false, not, ◌&&◌, List, [], ◌∷◌, ℕ, ◌%◌, eqb, ℤ, length}
use Rattle.answer.specs.Answer.{Refusal, refuse, answer, held}
use Rattle.numbers.specs.Promises.{number_length, coefficients_length, numbers_of, number_octets}
use Rattle.ranges.specs.Ranges.{is_coefficient, every}
use Rattle.samples.specs.Samples.{is_signal, past_after}
use Rattle.precoder.specs.Precoder.{Sends}

-- the past after these outputs, first in time first
unfoldable pub past_after_all : List ℤ → List ℤ → List ℤ
past_after_all past [] = past
past_after_all past (y ∷ ys) = past_after_all (past_after past y) ys

-- xs go out one after the other as ys, each with the past that those before it left
unfoldable pub SendsAll : List ℤ → List ℤ → List ℤ → List ℤ → Type 0
SendsAll coefficients past [] [] = Unit {0}
SendsAll coefficients past [] (y ∷ ys) = ⊥
SendsAll coefficients past (x ∷ xs) [] = ⊥
SendsAll coefficients past (x ∷ xs) (y ∷ ys) = Sends coefficients past x y × SendsAll coefficients (past_after past y) xs ys

-- ys come back as the xs in range that go out as them
pub record ReceivesAll (coefficients past ys xs : List ℤ) : Type 0 where
  pub signals : every is_signal xs ≡ true
  pub sends : SendsAll coefficients past xs ys

-- a run in either direction, forward (false) or back (true)
abbrev pub TurnsAll : Bool → List ℤ → List ℤ → List ℤ → List ℤ → Type 0
TurnsAll false coefficients past xs ys = SendsAll coefficients past xs ys
TurnsAll true coefficients past ys xs = ReceivesAll coefficients past ys xs

-- of the numbers that come in and those that come out, the ys
abbrev pub lines_of : Bool → List ℤ → List ℤ → List ℤ
lines_of false xs ys = ys
lines_of true ys xs = ys

-- what one symbol after the other leaves: the numbers that come out, their octets in the room, and the past after them
pub record Turned (back : Bool) (coefficients past symbols past' : List ℤ) (room' : List ℕ) : Type 0 where
  pub out : List ℤ
  pub turns : TurnsAll back coefficients past symbols out
  pub written : room' ≡ number_octets out
  pub past_is : past' ≡ past_after_all past (lines_of back symbols out)

-- whether coefficients and history have 720 octets, the symbols four each, and the room is as long as they
abbrev pub lengths_right : List ℕ → List ℕ → List ℕ → List ℕ → Bool
lengths_right coefficients history symbols room =
    eqb (length coefficients) coefficients_length
    && (eqb (length history) coefficients_length && (eqb (length symbols % number_length) 0 && eqb (length room) (length symbols)))

-- whether all coefficients, past outputs and symbols lie in their ranges
abbrev pub ranges_right : List ℤ → List ℤ → List ℤ → Bool
ranges_right coefficients past symbols = every is_coefficient coefficients && (every is_signal past && every is_signal symbols)

-- the checks of a run: a buffer of the wrong length is 1, a number outside its range is 4
abbrev pub run_tests : List ℕ → List ℕ → List ℕ → List ℕ → List Refusal
run_tests coefficients history symbols room =
    refuse 1 (not (lengths_right coefficients history symbols room))
    ∷ refuse 4 (not (ranges_right (numbers_of coefficients) (numbers_of history) (numbers_of symbols))) ∷ []

-- a run in either direction: the answer, the numbers that come out, what the room holds afterwards, and the history
pub record RunPromise (back : Bool) (coefficients history symbols room : List ℕ) (r : ℕ) (history' room' : List ℕ) : Type 0 where
  pub answered : r ≡ answer (run_tests coefficients history symbols room)
  pub out : List ℤ
  pub turns : r ≡ 0 → TurnsAll back (numbers_of coefficients) (numbers_of history) (numbers_of symbols) out
  pub written : room' ≡ held r room (number_octets out)
  pub past : history' ≡ held r history (number_octets (past_after_all (numbers_of history) (lines_of back (numbers_of symbols) out)))

-- precode_run: the symbols are xs, and the ys that they go out as come out
abbrev pub PrecodesRun : List ℕ → List ℕ → List ℕ → List ℕ → ℕ → List ℕ → List ℕ → Type 0
PrecodesRun coefficients history xs ys r history' ys' = RunPromise false coefficients history xs ys r history' ys'

-- decode_run: the symbols are ys, and the xs that go out as them come out
abbrev pub DecodesRun : List ℕ → List ℕ → List ℕ → List ℕ → ℕ → List ℕ → List ℕ → Type 0
DecodesRun coefficients history ys xs r history' xs' = RunPromise true coefficients history ys xs r history' xs'
