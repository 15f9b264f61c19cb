-- What the exported symbol functions promise, of C's structs: the answer, and 0, the register handed in or that of the start where it is not 0.
use Rattle.std.specs.Prelude.{◌≡◌, List, [], ◌∷◌, ℕ, ℤ, pos, Result, Ok, Err}
use Rattle.answer.specs.declared.Refused.{Refused}
use Rattle.answer.specs.Answer.{wrong_length, answer, held}
use Rattle.answer.specs.Given.{number_of}
use Rattle.numbers.specs.Promises.{coefficients_length, number_octets}
use Rattle.symbol.specs.declared.Encoder.{Encoder}
use Rattle.symbol.specs.Levels.{activation_levels, data_levels, level_at, place_in, activation_tests, data_tests, back_tests}
use Rattle.symbol.specs.Encoder.{code_of, codes_of, sent_after, held_in, register_of, with_register, next_of, start_of, start_tests, step_tests, run_tests}
use Rattle.samples.specs.Samples.{at_start}
use Rattle.samples.specs.Shaper.{Exactly, shaper_tests}
use Rattle.host.specs.declared.symbols.Level.{Level}
use Rattle.host.specs.declared.symbols.Code.{Code}
use Rattle.host.specs.declared.symbols.Encoded.{Encoded}
use Rattle.host.specs.declared.symbols.EncodedRun.{EncodedRun}
use Rattle.host.specs.declared.symbols.Shaped.{Shaped}

-- the encoder of the words A and B and a register
abbrev pub encoder : ℕ → ℕ → ℕ → Encoder
encoder a b register = record { a = a; b = b; register = register }

-- what C is given of a level: 0 sixteenths with a refusal
abbrev pub level_of : Result ℤ Refused → Level
level_of (Ok z) = record { answer = 0; sixteenths = z }
level_of (Err e) = record { answer = number_of e; sixteenths = pos 0 }

-- sdsl_activation_level
pub record ActivationLevelGiven (bit : ℕ) (r : Level) : Type 0 where
  pub answered : r.answer ≡ answer (activation_tests bit)
  pub level : r.sixteenths ≡ held r.answer (pos 0) (level_at activation_levels bit)

-- sdsl_data_level
pub record DataLevelGiven (code : ℕ) (r : Level) : Type 0 where
  pub answered : r.answer ≡ answer (data_tests code)
  pub level : r.sixteenths ≡ held r.answer (pos 0) (level_at data_levels code)

-- sdsl_level_code
pub record CodeGiven (level : ℤ) (r : Code) : Type 0 where
  pub answered : r.answer ≡ answer (back_tests level)
  pub code : r.code ≡ held r.answer 0 (place_in data_levels level)

-- sdsl_encoder_start: refused or not, the register is that of the start
pub record EncoderStarted (a b : ℕ) (r : EncodedRun) : Type 0 where
  pub answered : r.answer ≡ answer (start_tests a b)
  pub next : encoder a b r.register ≡ start_of a b

-- sdsl_encode
pub record SymbolEncoded (a b register symbol : ℕ) (r : Encoded) : Type 0 where
  pub answered : r.answer ≡ answer (step_tests (encoder a b register) symbol)
  pub code : r.code ≡ held r.answer 0 (code_of a b (held_in register) symbol)
  pub level : r.sixteenths ≡ held r.answer (pos 0) (level_at data_levels (code_of a b (held_in register) symbol))
  pub next : encoder a b r.register ≡ held r.answer (encoder a b register) (next_of (encoder a b register) symbol)

-- sdsl_encode_run, and what the room for the codes holds afterwards
pub record SymbolsEncoded (a b register : ℕ) (symbols codes : List ℕ) (r : EncodedRun) (codes' : List ℕ) : Type 0 where
  pub answered : r.answer ≡ answer (run_tests (encoder a b register) symbols codes)
  pub written : codes' ≡ held r.answer codes (codes_of a b (held_in register) symbols)
  pub next : encoder a b r.register
      ≡ held r.answer (encoder a b register) (with_register (encoder a b register) (register_of (sent_after (held_in register) symbols)))

-- sdsl_history_start: the octets of a history whose every output is zero
pub record HistoryStarted (history : List ℕ) (r : ℕ) (history' : List ℕ) : Type 0 where
  pub answered : r ≡ answer (wrong_length history coefficients_length ∷ [])
  pub left : history' ≡ held r history (number_octets at_start)

-- sdsl_shaper
pub record SampleShaped (y : ℤ) (r : Shaped) : Type 0 where
  pub answered : r.answer ≡ answer (shaper_tests y)
  pub value : Exactly r.value (held r.answer (pos 0) y)
