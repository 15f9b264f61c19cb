-- LIBRARIES THAT HAVE TO BE REJECTED by demand 2 (SCOPE, "What the contracts owe"): what such a one does, over calls that are answered.
use Rattle.std.specs.Prelude.{◌≡◌, reverse, ℕ, ◌≤◌, ◌<◌, get_or, take}
use Rattle.octets.specs.Bits.{value_of, bits_of}
use Rattle.layout.specs.Places.{a_field, b_field}
use Rattle.layout.specs.Frame.{field_of}
use Rattle.recurrence.specs.Line.{Scrambles}
use Rattle.recurrence.specs.declared.Way.{Way}
use Rattle.recurrence.specs.declared.Way.TheVariants.{Scramble as scramble}
use Rattle.scrambler.specs.Ends.{tap_of}
use Rattle.scrambler.specs.Promises.{given, frame_out}
use Rattle.demands.specs.Handed.{Outcome, SendCall, ReadCall, RunCall}
use Rattle.demands.specs.Library.{Library}
use Rattle.demands.specs.Checks.{frame_of, send_checks}
use Rattle.demands.specs.Frames.{Right}

-- a function that refuses everything
abbrev pub Refuses : {C N M : Type 0} → (C → Outcome N M) → Type 0
Refuses {C} f = (c : C) → (f c).answer ≡ 0 → ⊥

-- a sender that returns one frame always: from an end and a state, the same whatever the fields are
abbrev pub OneFrame : Library → Type 0
OneFrame x =
    (c d : SendCall) → c.end ≡ d.end → c.state ≡ d.state → (x.send c).answer ≡ 0 → (x.send d).answer ≡ 0
    → (x.send c).memory.output ≡ (x.send d).memory.output

-- a frame that is the first to be sent: the scrambler is where its start puts it
abbrev pub FromStart : Library → SendCall → Type 0
FromStart x c = c.state ≡ (x.scrambler_start c.end).memory

-- one that sends the frame as it is written, unscrambled, even if only the first: the fault of the spring
abbrev pub SendsPlain : Library → Type 0
SendsPlain x = (c : SendCall) → FromStart x c → (x.send c).answer ≡ 0 → (x.send c).memory.output ≡ frame_of c

-- one that does so in a single call, with a frame whose scrambled form is another
abbrev pub PlainOnce : Library → Type 0
PlainOnce x =
    (c : SendCall) × Right (send_checks c) × (frame_out scramble (record { end = c.end; state = c.state }) (frame_of c) ≡ frame_of c → ⊥)
    × ((x.send c).memory.output ≡ frame_of c)

-- one that hands the old state back, even if only with the first frame: then no other state is ever reached
abbrev pub StateKept : Library → Type 0
StateKept x = (c : SendCall) → FromStart x c → (x.send c).answer ≡ 0 → (x.send c).memory.state ≡ c.state

-- a function that leaves an output unwritten: afterwards it holds what it held
abbrev pub Unwritten : {C N M A : Type 0} → (C → Outcome N M) → (M → A) → (C → A) → Type 0
Unwritten {C} f output before = (c : C) → (f c).answer ≡ 0 → output (f c).memory ≡ before c

-- the sender's frame
abbrev pub FrameUnwritten : Library → Type 0
FrameUnwritten x = Unwritten x.send (λ m. m.output) (λ c. c.output)

-- the reader's coefficients
abbrev pub CoefficientsUnwritten : Library → Type 0
CoefficientsUnwritten x = Unwritten x.read (λ m. m.coefficients) (λ c. c.coefficients)

-- its vendor data
abbrev pub VendorUnwritten : Library → Type 0
VendorUnwritten x = Unwritten x.read (λ m. m.vendor) (λ c. c.vendor)

-- what a scrambler or a descrambler puts out for a run
abbrev pub RunUnwritten : Way → Library → Type 0
RunUnwritten way x = Unwritten (x.run way) (λ m. m.output) (λ c. c.output)

-- and a descrambler for a whole frame
abbrev pub WholeUnwritten : Library → Type 0
WholeUnwritten x = Unwritten x.descramble_frame (λ m. m.output) (λ c. c.output)

-- the history of a start
abbrev pub HistoryUnwritten : Library → Type 0
HistoryUnwritten x = Unwritten x.history_start (λ m. m) (λ c. c)

-- the codes of an encoder's run
abbrev pub CodesUnwritten : Library → Type 0
CodesUnwritten x = Unwritten x.encode_run (λ m. m.codes) (λ c. c.codes)

-- what the precoder puts out
abbrev pub PrecodedUnwritten : Library → Type 0
PrecodedUnwritten x = Unwritten x.precode (λ m. m.room) (λ c. c.room)

-- and its inverse
abbrev pub DecodedUnwritten : Library → Type 0
DecodedUnwritten x = Unwritten x.decode (λ m. m.room) (λ c. c.room)

-- "a scrambler right for its first bit and copying the rest"
pub record CopiesTheRest (x : Library) : Type 0 where
  pub first : (c : RunCall) → (x.run scramble c).answer ≡ 0
      → Scrambles (tap_of c.end) c.state (take 1 (given c.input c.bits)) (take 1 (given (x.run scramble c).memory.output c.bits))
  pub rest : (c : RunCall) (n : ℕ) → (x.run scramble c).answer ≡ 0 → 1 ≤ n → n < c.bits
      → get_or (given (x.run scramble c).memory.output c.bits) n 0 ≡ get_or (given c.input c.bits) n 0

-- a reader with "A or B taken with the first bit as the highest", as the old bench program had it: A
abbrev pub TurnsA : Library → Type 0
TurnsA x = (c : ReadCall) → (x.read c).answer ≡ 0 → (x.read c).numbers.kind ≡ 0
    → (x.read c).numbers.a ≡ value_of (reverse (field_of a_field (bits_of c.frame)))

-- or B
abbrev pub TurnsB : Library → Type 0
TurnsB x = (c : ReadCall) → (x.read c).answer ≡ 0 → (x.read c).numbers.kind ≡ 0
    → (x.read c).numbers.b ≡ value_of (reverse (field_of b_field (bits_of c.frame)))

-- a library is none of these (theorem `rejected-by-two`: none that meets demand 2 is)
pub record RejectedByTwo (x : Library) : Type 0 where
  pub refuses_sending : Refuses x.send → ⊥
  pub refuses_checking : Refuses x.check → ⊥
  pub refuses_reading : Refuses x.read → ⊥
  pub refuses_scrambler_starts : Refuses x.scrambler_start → ⊥
  pub refuses_bits : (way : Way) → Refuses (x.bit way) → ⊥
  pub refuses_runs : (way : Way) → Refuses (x.run way) → ⊥
  pub refuses_frames : Refuses x.descramble_frame → ⊥
  pub refuses_activation : Refuses x.activation → ⊥
  pub refuses_levels : Refuses x.level → ⊥
  pub refuses_codes : Refuses x.code → ⊥
  pub refuses_encoder_starts : Refuses x.encoder_start → ⊥
  pub refuses_encoding : Refuses x.encode → ⊥
  pub refuses_encoder_runs : Refuses x.encode_run → ⊥
  pub refuses_history_starts : Refuses x.history_start → ⊥
  pub refuses_precoding : Refuses x.precode → ⊥
  pub refuses_decoding : Refuses x.decode → ⊥
  pub refuses_shaping : Refuses x.shape → ⊥
  pub one_frame : OneFrame x → ⊥
  pub sends_plain : SendsPlain x → ⊥
  pub plain_once : PlainOnce x → ⊥
  pub state_kept : StateKept x → ⊥
  pub frame_unwritten : FrameUnwritten x → ⊥
  pub coefficients_unwritten : CoefficientsUnwritten x → ⊥
  pub vendor_unwritten : VendorUnwritten x → ⊥
  pub run_unwritten : (way : Way) → RunUnwritten way x → ⊥
  pub whole_unwritten : WholeUnwritten x → ⊥
  pub history_unwritten : HistoryUnwritten x → ⊥
  pub codes_unwritten : CodesUnwritten x → ⊥
  pub precoded_unwritten : PrecodedUnwritten x → ⊥
  pub decoded_unwritten : DecodedUnwritten x → ⊥
  pub copies_the_rest : CopiesTheRest x → ⊥
  pub turns_a : TurnsA x → ⊥
  pub turns_b : TurnsB x → ⊥
