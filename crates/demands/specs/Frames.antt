-- Demand 2's first sentence of frames, check bits and scrambling, over libraries of any make: exactly those of ETSI TS 101 524-2 as SCOPE sets
-- them out.
use Rattle.std.specs.Prelude.{◌≡◌, true, false, List, [], ◌∷◌, ℕ, ◌<◌, get_or, replicate}
use Rattle.answer.specs.Answer.{Refusal, answer}
use Rattle.octets.specs.Bits.{value_of, bits_of, octets_of, laid}
use Rattle.remainder.specs.Division.{Remainder, generator, polynomial}
use Rattle.layout.specs.Places.{vendor_length, reserved_length, frame_length, a_field, b_field, vendor_field, reserved_field, check_field}
use Rattle.layout.specs.Frame.{training_sync, training_bits, final_bits, field_of, message_of, coefficients_of}
use Rattle.layout.specs.Refusals.{has_sync, check_refusals}
use Rattle.numbers.specs.Promises.{numbers_of, number_octets}
use Rattle.recurrence.specs.Line.{Scrambles, Descrambles, newest}
use Rattle.scrambler.specs.Ends.{tap_of}
use Rattle.scrambler.specs.Promises.{given, clocked, around, frame_out}
use Rattle.recurrence.specs.declared.Way.TheVariants.{Scramble as scramble, Descramble as descramble}
use Rattle.demands.specs.Handed.{Outcome, none, SendCall, ReadCall, BitCall, RunCall, FrameCall}
use Rattle.demands.specs.Library.{Library}
use Rattle.demands.specs.Checks.{send_checks, read_checks, scrambler_start_checks, bit_checks, run_checks, frame_checks}

-- no check of SCOPE's table applies
abbrev pub Right : List Refusal → Type 0
Right checks = answer checks ≡ 0

-- a list that a lent buffer can hold
abbrev pub Octets : List ℕ → Type 0
Octets s = (i : ℕ) → get_or s i 0 < 256

-- what is done: 0, these numbers, this memory
abbrev pub done : {N M : Type 0} → N → M → Outcome N M
done n m = record { answer = 0; numbers = n; memory = m }

-- the reserved bits of a frame
abbrev pub reserved_in : List ℕ → List ℕ
reserved_in frame = field_of reserved_field (bits_of frame)

-- nine octets of zeros
abbrev pub none_set : List ℕ
none_set = replicate reserved_length 0

-- a training frame that is read, where no check applies
abbrev pub Trains : ReadCall → Type 0
Trains c = Right (read_checks c) × (has_sync training_sync (bits_of c.frame) ≡ true)

-- a frame goes out scrambled: "s(n) = f(n) xor s(n-tap) xor s(n-23)" of bits 15 to 4,227; the sync bits pass, and the pad is zero; the state that comes back
-- "holds the last 23 scrambled bits"
abbrev pub SendsAs : Library → SendCall → List ℕ → Type 0
SendsAs x c frame =
    (s : List ℕ) × Scrambles (tap_of c.end) c.state (clocked frame) s
    × (x.send c ≡ done none (record { state = newest c.state s; output = around frame s }))

-- what x sends, descrambled by the definition
abbrev pub under_it : Library → SendCall → List ℕ
under_it x c = bits_of (frame_out descramble (record { end = c.end; state = c.state }) (x.send c).memory.output)

-- FRAMES (000, clause 4.1.3)
pub record Frames (x : Library) : Type 0 where
  -- "One operation takes the fields, the end and the scrambler state, and gives the scrambled frame and the next state." "Writing a training frame takes
  -- a count of 128 to 180, room for 180 coefficients of which only the first count are looked at (the rest of the field is written zero), A, B and
  -- vendor data."
  pub training : (c : SendCall) → c.kind ≡ 0 → Right (send_checks c)
      → SendsAs x c (octets_of frame_length (training_bits c.count (numbers_of c.coefficients) c.a c.b c.vendor))
  -- "Writing a final frame takes vendor data only and puts zero in the other payload fields, with its own sync and check bits."
  pub final : (c : SendCall) → c.kind ≡ 1 → Right (send_checks c) → SendsAs x c (octets_of frame_length (final_bits c.vendor))
  -- "Check bits: the remainder of bits 15 to 4211 as a polynomial, bit 15 highest, times D^16, divided by D^16 + D^12 + D^5 + 1": under the scrambling
  pub check_bits_right : (c : SendCall) → Right (send_checks c)
      → Remainder 16 generator (message_of (under_it x c)) (polynomial (field_of check_field (under_it x c)))
  -- "Reading a training frame gives 180 coefficients, A, B and vendor data", takes any reserved bits, "and hands the 67 back as nine octets"
  pub read_training : (c : ReadCall) → Right (read_checks c) → has_sync training_sync (bits_of c.frame) ≡ true
      → x.read c ≡ done (record { kind = 0; a = value_of (field_of a_field (bits_of c.frame)); b = value_of (field_of b_field (bits_of c.frame)) })
      (record {
        coefficients = number_octets (coefficients_of (bits_of c.frame));
        vendor = octets_of vendor_length (field_of vendor_field (bits_of c.frame));
        reserved = octets_of reserved_length (reserved_in c.frame);
      })
  -- a frame to which no check applies is answered 0
  pub checked : (frame : List ℕ) → Right (check_refusals frame) → x.check frame ≡ done none none
  -- Reading a final frame "gives its kind and vendor data, and touches no coefficient buffer"; it "leaves those octets"
  pub read_final : (c : ReadCall) → Right (read_checks c) → has_sync training_sync (bits_of c.frame) ≡ false
      → x.read c ≡ done (record { kind = 1; a = 0; b = 0 })
      (record { coefficients = c.coefficients; vendor = octets_of vendor_length (field_of vendor_field (bits_of c.frame)); reserved = c.reserved })

-- SCRAMBLING (002, clause 7.1.6): what comes out stands where the input's bits stood, and "Output bits past the count stay." A state
-- "holds the last 23 scrambled bits, newest at weight 1." Of a frame, bits 15 to 4,227 clock it; the sync bits pass, and the pad is zero
pub record Scrambling (x : Library) : Type 0 where
  -- "The starting state is 0."
  pub started : (end : ℕ) → Right (scrambler_start_checks end) → x.scrambler_start end ≡ done none 0
  -- "Each step takes a state and a bit and hands the next state back": s(n) of one bit
  pub bit_scrambled : (c : BitCall) → Right (bit_checks c)
      → (s : ℕ) × Scrambles (tap_of c.end) c.state (c.bit ∷ []) (s ∷ []) × (x.bit scramble c ≡ done s (newest c.state (s ∷ [])))
  -- "Descrambling adds the same two received bits", of one bit
  pub bit_descrambled : (c : BitCall) → Right (bit_checks c)
      → (f : ℕ) × Descrambles (tap_of c.end) c.state (c.bit ∷ []) (f ∷ []) × (x.bit descramble c ≡ done f (newest c.state (c.bit ∷ [])))
  -- "Scrambled bit s(n) = f(n) xor s(n-tap) xor s(n-23)"
  pub scrambled : (c : RunCall) → Right (run_checks c)
      → (s : List ℕ) × Scrambles (tap_of c.end) c.state (given c.input c.bits) s
      × (x.run scramble c ≡ done none (record { state = newest c.state s; output = laid c.output 0 s }))
  -- "descrambling adds the same two received bits"
  pub descrambled : (c : RunCall) → Right (run_checks c)
      → (f : List ℕ) × Descrambles (tap_of c.end) c.state (given c.input c.bits) f
      × (x.run descramble c ≡ done none (record { state = newest c.state (given c.input c.bits); output = laid c.output 0 f }))
  -- the same for whole frames
  pub frame_descrambled : (c : FrameCall) → Right (frame_checks c)
      → (f : List ℕ) × Descrambles (tap_of c.end) c.state (clocked c.frame) f
      × (x.descramble_frame c ≡ done none (record { state = newest c.state (clocked c.frame); output = around c.frame f }))
