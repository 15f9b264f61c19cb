-- Demand 2's first sentence of symbol levels and precoded values, over libraries of any make: exactly those of ETSI TS 101 524-2 as SCOPE sets
-- them out.
use Rattle.std.specs.Prelude.{◌≡◌, true, List, ◌∷◌, ℕ, ◌≤◌, ℤ}
use Rattle.numbers.specs.Promises.{numbers_of, number_octets}
use Rattle.symbol.specs.Levels.{activation_levels, data_levels, level_at, activation_tests, data_tests}
use Rattle.symbol.specs.Encoder.{code_of, codes_of, x1, sent_after, held_in, register_of}
use Rattle.ranges.specs.Ranges.{every}
use Rattle.samples.specs.Samples.{is_signal, at_start}
use Rattle.samples.specs.Shaper.{Exactly, shaper_tests}
use Rattle.precoder.specs.Runs.{SendsAll, past_after_all}
use Rattle.demands.specs.Handed.{none, WordsCall, EncodeCall, EncodeRunCall, PrecodeCall}
use Rattle.demands.specs.Library.{Library}
use Rattle.demands.specs.Checks.{encoder_start_checks, encode_checks, encode_run_checks, history_start_checks, precode_checks}
use Rattle.demands.specs.Frames.{Right, done}

-- SYMBOLS (000, clauses 4.1.6 and 4.3.3)
pub record Symbols (x : Library) : Type 0 where
  -- "Activation: 0 gives -9/16, 1 gives +9/16."
  pub activation : (bit : ℕ) → Right (activation_tests bit) → x.activation bit ≡ done (level_at activation_levels bit) none
  -- the table of sixteen levels
  pub level : (code : ℕ) → Right (data_tests code) → x.level code ≡ done (level_at data_levels code) none
  -- "Going back"
  pub code : (code : ℕ) → code ≤ 15 → x.code (level_at data_levels code) ≡ done code none
  -- an encoder starts with no X1 sent: the register is 0
  pub started : (c : WordsCall) → Right (encoder_start_checks c) → x.encoder_start c ≡ done none 0
  -- "Y3 = X3, Y2 = X2. Y1 is 1 when an odd number of ones is left after A masks the current and twenty earlier X1; Y0 likewise with B."
  pub encode : (c : EncodeCall) → Right (encode_checks c)
      → let y = code_of c.a c.b (held_in c.register) c.symbol in
      x.encode c ≡ done (record { code = y; sixteenths = level_at data_levels y }) (register_of (x1 c.symbol ∷ held_in c.register))
  -- a run of symbols, one after the other
  pub encode_run : (c : EncodeRunCall) → Right (encode_run_checks c)
      → x.encode_run c ≡ done none (record {
        register = register_of (sent_after (held_in c.register) c.symbols);
        codes = codes_of c.a c.b (held_in c.register) c.symbols;
      })

-- PRECODING (000, clause 4.3.4)
pub record Precoding (x : Library) : Type 0 where
  -- "It remembers the last 180 outputs, each from -131,072 to 131,071, all zero at first."
  pub started : (history : List ℕ) → Right (history_start_checks history) → x.history_start history ≡ done none (number_octets at_start)
  -- "S is the exact sum of C(k) times y(m-k). v is S/131,072 rounded to the nearest whole number, halves upward"; u is x less v;
  -- "y = u + 262,144 d, with the one d that puts y from -131,072 to 131,071." "It remembers the last 180 outputs"
  pub precoded : (c : PrecodeCall) → Right (precode_checks c)
      → (ys : List ℤ) × SendsAll (numbers_of c.coefficients) (numbers_of c.history) (numbers_of c.symbols) ys
      × (x.precode c ≡ done none (record { history = number_octets (past_after_all (numbers_of c.history) ys); room = number_octets ys }))
  -- "The receiving end, given y, the same coefficients and the same past, gets x back": the xs in range that go out as these ys
  pub decoded : (c : PrecodeCall) → Right (precode_checks c)
      → (xs : List ℤ) × SendsAll (numbers_of c.coefficients) (numbers_of c.history) xs (numbers_of c.symbols) × (every is_signal xs ≡ true)
      × (x.decode c ≡ done none (record { history = number_octets (past_after_all (numbers_of c.history) (numbers_of c.symbols)); room = number_octets xs }))
  -- "The shaper is handed y as a 32-bit float that is exactly y / 131,072."
  pub shaped : (y : ℤ) → Right (shaper_tests y) → ((x.shape y).answer ≡ 0) × Exactly (x.shape y).numbers y
