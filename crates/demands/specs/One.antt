-- DEMAND 1, over a library of any make. Junk, short buffers, impossible numbers, reports out of turn: each call ends and answers with a number
-- of SCOPE's table. A refused call changes no lent memory and no state, and no caller has to check first.
use Rattle.std.specs.Prelude.{◌≡◌, true, List, ℕ, pos}
use Rattle.std.specs.Float.{binary32}
use Rattle.std.specs.Float.Ieee.{of_bits}
use Rattle.answer.specs.Answer.{Refusal, answer}
use Rattle.answer.specs.Table.{rising, in_table, in_turn}
use Rattle.layout.specs.Refusals.{check_refusals}
use Rattle.dataframe.specs.Refusals.{data_order}
use Rattle.eoc.specs.Refusals.{eoc_order}
use Rattle.recurrence.specs.declared.Way.{Way}
use Rattle.symbol.specs.Levels.{activation_tests, data_tests, back_tests}
use Rattle.samples.specs.Shaper.{shaper_tests}
use Rattle.supervisor.specs.Step.{none as no_state}
use Rattle.host.specs.Data.{overhead_for, no_overhead}
use Rattle.host.specs.Supervising.{state_of}
use Rattle.demands.specs.Handed.{Outcome, none}
use Rattle.demands.specs.Library.{Library}
use Rattle.demands.specs.Checks.{send_checks, read_checks, scrambler_start_checks, bit_checks, run_checks, frame_checks, encoder_start_checks, encode_checks}
use Rattle.demands.specs.Checks.{data_write_checks, data_crc_checks, data_check_checks, data_read_checks}
use Rattle.demands.specs.Checks.{eoc_write_checks, eoc_read_checks, eoc_hand_up_checks, receive_start_checks, receive_checks}
use Rattle.demands.specs.Checks.{encode_run_checks, history_start_checks, precode_checks, start_checks, step_checks, codes_checks}

-- a function answers by the table: by these checks, what its memory holds before, and nothing in its other numbers
pub record Answers {C N M : Type 0} (f : C → Outcome N M) (checks : C → List Refusal) (before : C → M) (nothing : N) : Type 0 where
  -- the number is one of the table
  pub in_the_table : (c : C) → in_table (f c).answer ≡ true
  -- "Checks run in the order of these numbers (`Ordered`), and the first that applies is answered. None is given otherwise.
  pub first : (c : C) → (f c).answer ≡ answer (checks c)
  -- With any but 0 every other number returned is 0,
  pub no_numbers : (c : C) → ((f c).answer ≡ 0 → ⊥) → (f c).numbers ≡ nothing
  -- a state comes back equal, and all lent memory holds what it held."
  pub unchanged : (c : C) → ((f c).answer ≡ 0 → ⊥) → (f c).memory ≡ before c

-- a list of checks runs in an order, whatever is handed in
abbrev pub InTheirOrder : {C : Type 0} → List ℕ → (C → List Refusal) → Type 0
InTheirOrder {C} order checks = (c : C) → in_turn order (checks c) ≡ true

-- "Checks run in the order of these numbers": so it is of each function's list of checks. Those of data-mode frames and of operations channel
-- messages have orders of their own (SCOPE, M32: "the order 1, 2, 4, 5, 9, 6, 7"; K: "1, 4, 10, 11, 12, 7"; theorem `ordered`)
pub record Ordered : Type 0 where
  pub send : InTheirOrder rising send_checks
  pub check : InTheirOrder rising check_refusals
  pub read : InTheirOrder rising read_checks
  pub data_write : InTheirOrder data_order data_write_checks
  pub data_crc : InTheirOrder data_order data_crc_checks
  pub data_check : InTheirOrder data_order data_check_checks
  pub data_read : InTheirOrder data_order data_read_checks
  pub eoc_write : InTheirOrder eoc_order eoc_write_checks
  pub eoc_read : InTheirOrder eoc_order eoc_read_checks
  pub eoc_hand_up : InTheirOrder eoc_order eoc_hand_up_checks
  pub scrambler_start : InTheirOrder rising scrambler_start_checks
  pub bit : InTheirOrder rising bit_checks
  pub run : InTheirOrder rising run_checks
  pub descramble_frame : InTheirOrder rising frame_checks
  pub receive_start : InTheirOrder rising receive_start_checks
  pub receive : InTheirOrder rising receive_checks
  pub activation : InTheirOrder rising activation_tests
  pub level : InTheirOrder rising data_tests
  pub code : InTheirOrder rising back_tests
  pub encoder_start : InTheirOrder rising encoder_start_checks
  pub encode : InTheirOrder rising encode_checks
  pub encode_run : InTheirOrder rising encode_run_checks
  pub history_start : InTheirOrder rising history_start_checks
  pub precode : InTheirOrder rising precode_checks
  pub shape : InTheirOrder rising shaper_tests
  pub start : InTheirOrder rising start_checks
  pub step : InTheirOrder rising step_checks
  pub run_codes : InTheirOrder rising codes_checks

-- THE DEMAND, function by function: its checks, what its memory holds before (for the start of a state: 0, or no state; for a receiver's the end that was
-- handed in, and zeros), and the numbers that a refusal gives
pub record One (x : Library) : Type 0 where
  pub send : Answers x.send send_checks (λ c. record { state = c.state; output = c.output }) none
  pub check : Answers x.check check_refusals (λ c. none) none
  pub read : Answers x.read read_checks (λ c. record { coefficients = c.coefficients; vendor = c.vendor; reserved = c.reserved })
      (record { kind = 0; a = 0; b = 0 })
  pub data_write : Answers x.data_write data_write_checks (λ c. c.frame) 0
  pub data_crc : Answers x.data_crc data_crc_checks (λ c. none) (record { carried = 0; due = 0 })
  pub data_check : Answers x.data_check data_check_checks (λ c. none) none
  pub data_read : Answers x.data_read data_read_checks (λ c. c.payload) (overhead_for no_overhead)
  pub eoc_write : Answers x.eoc_write eoc_write_checks (λ c. c.room) 0
  pub eoc_read : Answers x.eoc_read eoc_read_checks (λ c. c.contents) (record { source = 0; destination = 0; number = 0; length = 0 })
  pub eoc_hand_up : Answers x.eoc_hand_up eoc_hand_up_checks (λ c. c.units) 0
  pub scrambler_start : Answers x.scrambler_start scrambler_start_checks (λ c. 0) none
  pub bit : (way : Way) → Answers (x.bit way) bit_checks (λ c. c.state) 0
  pub run : (way : Way) → Answers (x.run way) run_checks (λ c. record { state = c.state; output = c.output }) none
  pub descramble_frame : Answers x.descramble_frame frame_checks (λ c. record { state = c.state; output = c.output }) none
  pub receive_start : Answers x.receive_start receive_start_checks (λ c. record { end = c; heard = 0; from = 0 }) (record { given = 0; place = 0 })
  pub receive : Answers x.receive receive_checks (λ c. record { state = c.state; line = c.line; frame = c.frame }) (record { given = 0; place = 0 })
  pub activation : Answers x.activation activation_tests (λ c. none) (pos 0)
  pub level : Answers x.level data_tests (λ c. none) (pos 0)
  pub code : Answers x.code back_tests (λ c. none) 0
  pub encoder_start : Answers x.encoder_start encoder_start_checks (λ c. 0) none
  pub encode : Answers x.encode encode_checks (λ c. c.register) (record { code = 0; sixteenths = pos 0 })
  pub encode_run : Answers x.encode_run encode_run_checks (λ c. record { register = c.register; codes = c.codes }) none
  pub history_start : Answers x.history_start history_start_checks (λ c. c) none
  pub precode : Answers x.precode precode_checks (λ c. record { history = c.history; room = c.room }) none
  pub decode : Answers x.decode precode_checks (λ c. record { history = c.history; room = c.room }) none
  pub shape : Answers x.shape shaper_tests (λ c. none) (of_bits binary32 0)
  pub start : Answers x.start start_checks (λ c. state_of no_state) (record { phase = 0; attempt = 0 })
  pub step : Answers x.step step_checks (λ c. c.state) (record { phase = 0; attempt = 0 })
  pub run_codes : Answers x.run_codes codes_checks (λ c. c.state) (record { attempts = 0; opened_at = 0; outcome = 0; ended_at = 0 })
