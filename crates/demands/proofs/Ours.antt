-- The three demands together; and a library that keeps our contracts exists, so no theorem here is about nothing. Assumes nothing.
use mathlib.Core.Path.{◌≡◌, refl}
use mathlib.Core.Bool.{true, false, not}
use mathlib.Core.List.{[], ◌∷◌}
use Prim.Native.Nat.{ℕ, zero, suc}
use borrow.Author.Tests.{not-false}
use lib.Ieee.{Float, binary32, of_bits, of_int, div}
use lib.IntN.{ℤ, pos}
use Rattle.answer.specs.Answer.{answer, held}
use Rattle.answer.proofs.Laws.{none as none-applies}
use Rattle.octets.specs.Bits.{bits_of, laid}
use Rattle.layout.specs.Refusals.{check_refusals}
use Rattle.numbers.specs.Promises.{numbers_of, number_octets}
use Rattle.checker.proofs.Laws.{checked}
use Rattle.reader.specs.Promises.{vendor_octets, reserved_left}
use Rattle.scrambler.specs.Ends.{tap_of}
use Rattle.scrambler.specs.Promises.{given, clocked, around}
use Rattle.recurrence.specs.Run.{out_of, next_of, run_of, after_of}
use Rattle.recurrence.specs.declared.Way.TheVariants.{Scramble as scramble, Descramble as descramble}
use Rattle.symbol.specs.Levels.{activation_levels, data_levels, level_at, place_in, activation_tests, data_tests, back_tests}
use Rattle.symbol.specs.Encoder.{code_of, codes_of, x1, sent_after, held_in, register_of, with_register}
use Rattle.samples.specs.Samples.{is_signal, at_start}
use Rattle.samples.specs.Shaper.{Exactly, shaper_tests}
use Rattle.samples.proofs.Exact.{signal-abs, exact, exact-zero}
use Rattle.precoder.specs.Runs.{past_after_all}
use Rattle.precoder.proofs.Recipe.{outputs_of, inputs_of}
use Rattle.precoder.proofs.Back.{runs}
use Rattle.supervisor.specs.Step.{start_of, step_of}
use Rattle.startup.specs.Run.{run_of as codes_run}
use Rattle.host.specs.Frames.{found_of, coefficient_octets}
use Rattle.host.specs.Symbols.{encoder}
use Rattle.host.specs.Supervising.{state_in, state_of, run_fields_of}
use Rattle.demands.specs.Handed.{none}
use Rattle.demands.specs.Library.{Library}
use Rattle.demands.specs.Contracts.{Keeps}
use Rattle.demands.specs.One.{One}
use Rattle.demands.specs.Checks.{frame_of, send_checks, read_checks, scrambler_start_checks, bit_checks, run_checks, frame_checks, encoder_start_checks, encode_checks}
use Rattle.demands.specs.Checks.{encode_run_checks, history_start_checks, precode_checks}
use Rattle.demands.specs.Two.{Two}
use Rattle.demands.specs.Three.{Three, supervisor}
use Rattle.demands.proofs.One.{one}
use Rattle.demands.proofs.Fit.{written-right}
use Rattle.demands.proofs.LineOurs.{starts, receives-lump, starts-keep, receives-lump-keep}
use Rattle.demands.proofs.EocOurs.{eoc-writes, eoc-reads, eoc-hands-up, eoc-writes-keep, eoc-reads-keep, eoc-hands-up-keep}
use Rattle.demands.proofs.DataOurs.{writes, gives, checks, reads, writes-keep, gives-keep, checks-keep, reads-keep}
use Rattle.demands.proofs.Two.{exact as exact-of}
use Rattle.demands.proofs.Interwork.{interwork}
use Rattle.demands.proofs.Three.{three}

-- ALL THREE, of every library that keeps our contracts
pub demands : (x : Library) → Keeps x → One x × Two x × Three (supervisor x)
demands x k = (one x k, record { exact = exact-of x k; back = interwork x x (exact-of x k) (exact-of x k) }, three x k)

-- the float that is y/131,072, and 0 with a refusal
pub sample : ℤ → Float
sample y = held (answer (shaper_tests y)) (of_bits binary32 0) (div binary32 (of_int binary32 y) (of_bits binary32 1207959552))

-- what our functions compute, by the definitions that their contracts cite
unfoldable pub ours : Library
ours = record {
  send = λ c.
      let n = answer (send_checks c) in
      record {
        answer = n;
        numbers = none;
        memory = record {
          state = held n c.state (after_of scramble (tap_of c.end) c.state (clocked (frame_of c)));
          output = held n c.output (around (frame_of c) (run_of scramble (tap_of c.end) c.state (clocked (frame_of c))));
        };
      };
  check = λ f. record { answer = answer (check_refusals f); numbers = none; memory = none };
  read = λ c.
      let n = answer (read_checks c) in
      let f = found_of n (bits_of c.frame) in
      record {
        answer = f.answer;
        numbers = record { kind = f.kind; a = f.a; b = f.b };
        memory = record {
          coefficients = held n c.coefficients (coefficient_octets (bits_of c.frame) c.coefficients);
          vendor = held n c.vendor (vendor_octets (bits_of c.frame));
          reserved = held n c.reserved (reserved_left (bits_of c.frame) c.reserved);
        };
      };
  data_write = writes;
  data_crc = gives;
  data_check = checks;
  data_read = reads;
  eoc_write = eoc-writes;
  eoc_read = eoc-reads;
  eoc_hand_up = eoc-hands-up;
  receive_start = starts;
  receive = receives-lump;
  scrambler_start = λ end. record { answer = answer (scrambler_start_checks end); numbers = none; memory = 0 };
  bit = λ way c.
      let n = answer (bit_checks c) in
      record {
        answer = n;
        numbers = held n 0 (out_of (tap_of c.end) c.state c.bit);
        memory = held n c.state (next_of way (tap_of c.end) c.state c.bit);
      };
  run = λ way c.
      let n = answer (run_checks c) in
      record {
        answer = n;
        numbers = none;
        memory = record {
          state = held n c.state (after_of way (tap_of c.end) c.state (given c.input c.bits));
          output = held n c.output (laid c.output 0 (run_of way (tap_of c.end) c.state (given c.input c.bits)));
        };
      };
  descramble_frame = λ c.
      let n = answer (frame_checks c) in
      record {
        answer = n;
        numbers = none;
        memory = record {
          state = held n c.state (after_of descramble (tap_of c.end) c.state (clocked c.frame));
          output = held n c.output (around c.frame (run_of descramble (tap_of c.end) c.state (clocked c.frame)));
        };
      };
  activation = λ b. record { answer = answer (activation_tests b); numbers = held (answer (activation_tests b)) (pos 0) (level_at activation_levels b); memory = none };
  level = λ b. record { answer = answer (data_tests b); numbers = held (answer (data_tests b)) (pos 0) (level_at data_levels b); memory = none };
  code = λ l. record { answer = answer (back_tests l); numbers = held (answer (back_tests l)) 0 (place_in data_levels l); memory = none };
  encoder_start = λ c. record { answer = answer (encoder_start_checks c); numbers = none; memory = register_of [] };
  encode = λ c.
      let n = answer (encode_checks c) in
      let y = code_of c.a c.b (held_in c.register) c.symbol in
      record {
        answer = n;
        numbers = record { code = held n 0 y; sixteenths = held n (pos 0) (level_at data_levels y) };
        memory = held n c.register (register_of (x1 c.symbol ∷ held_in c.register));
      };
  encode_run = λ c.
      let n = answer (encode_run_checks c) in
      record {
        answer = n;
        numbers = none;
        memory = record {
          register = held n c.register (register_of (sent_after (held_in c.register) c.symbols));
          codes = held n c.codes (codes_of c.a c.b (held_in c.register) c.symbols);
        };
      };
  history_start = λ s. let n = answer (history_start_checks s) in record { answer = n; numbers = none; memory = held n s (number_octets at_start) };
  precode = λ c.
      let n = answer (precode_checks c) in
      let ys = outputs_of (numbers_of c.coefficients) (numbers_of c.history) (numbers_of c.symbols) in
      record { answer = n; numbers = none; memory = record { history = held n c.history (number_octets (past_after_all (numbers_of c.history) ys)); room = held n c.room (number_octets ys) } };
  decode = λ c.
      let n = answer (precode_checks c) in
      let ys = numbers_of c.symbols in
      record {
        answer = n;
        numbers = none;
        memory = record {
          history = held n c.history (number_octets (past_after_all (numbers_of c.history) ys));
          room = held n c.room (number_octets (inputs_of (numbers_of c.coefficients) (numbers_of c.history) ys));
        };
      };
  shape = λ y. record { answer = answer (shaper_tests y); numbers = sample y; memory = none };
  start = λ c. let r = start_of c.end c.silence in record { answer = r.answer; numbers = record { phase = r.phase; attempt = r.attempt }; memory = state_of r.state };
  step = λ c. let r = step_of (state_in c.state) c.code in
      record { answer = r.answer; numbers = record { phase = r.phase; attempt = r.attempt }; memory = state_of r.state };
  run_codes = λ c.
      let r = run_fields_of (codes_run (state_in c.state) c.codes) in
      record { answer = r.answer; numbers = record { attempts = r.attempts; opened_at = r.opened_at; outcome = r.outcome; ended_at = r.ended_at }; memory = r.state };
}

-- a state or the next, by its number
either-register : (n a b r s : ℕ) → encoder a b (held n r s) ≡ held n (encoder a b r) (with_register (encoder a b r) s)
either-register zero a b r s = refl
either-register (suc n) a b r s = refl

samples : (y : ℤ) → Exactly (sample y) (held (answer (shaper_tests y)) (pos 0) y)
unfolding sample
samples y = pick (answer (shaper_tests y)) refl
  where
    pick : (n : ℕ) → answer (shaper_tests y) ≡ n → Exactly (held n (of_bits binary32 0) (div binary32 (of_int binary32 y) (of_bits binary32 1207959552))) (held n (pos 0) y)
    pick zero e = exact y (signal-abs y (not-false _ (none-applies 3 (not (is_signal y)) [] e).0))
    pick (suc n) e = exact-zero

pub ours-keep : Keeps ours
unfolding ours
ours-keep = record {
  send = λ c h. record { answered = refl; next = refl; left = refl; check_right = λ z. written-right c z };
  check = λ f h. checked refl;
  read = λ c h. record { found = refl; coefficients_held = refl; vendor_held = refl; reserved_held = refl };
  data_write = λ c h. writes-keep c;
  data_crc = λ c h. gives-keep c;
  data_check = λ c h. checks-keep c;
  data_read = λ c h. reads-keep c;
  eoc_write = λ c h. eoc-writes-keep c;
  eoc_read = λ c h. eoc-reads-keep c;
  eoc_hand_up = λ c h. eoc-hands-up-keep c;
  receive_start = λ end h. starts-keep end;
  receive = λ c h. receives-lump-keep c;
  scrambler_start = λ end h. refl;
  bit = λ way c h. refl;
  run = λ way c h. record { answered = refl; next = refl; left = refl };
  descramble_frame = λ c h. record { answered = refl; next = refl; left = refl };
  activation = λ b h. record { answered = refl; level = refl };
  level = λ b h. record { answered = refl; level = refl };
  code = λ l h. record { answered = refl; code = refl };
  encoder_start = λ c h. record { answered = refl; next = refl };
  encode = λ c h. record { answered = refl; code = refl; level = refl; next = either-register (answer (encode_checks c)) _ _ _ _ };
  encode_run = λ c h. record { answered = refl; written = refl; next = either-register (answer (encode_run_checks c)) _ _ _ _ };
  history_start = λ s h. record { answered = refl; left = refl };
  precode = λ c h. runs false c.coefficients c.history c.symbols c.room;
  decode = λ c h. runs true c.coefficients c.history c.symbols c.room;
  shape = λ y h. record { answered = refl; value = samples y };
  start = λ c h. refl;
  step = λ c h. refl;
  run_codes = λ c h. refl;
}
