-- No library that SCOPE rejects meets demand 2. Assumes nothing.
use mathlib.Core.Path.{◌≡◌, refl, sym, ap, ◌∙◌}
use mathlib.Core.Bool.{not}
use mathlib.Core.List.{List, [], ◌∷◌, reverse}
use Prim.Native.Nat.{ℕ, zero, suc}
use native.Mathlib.Omega.{arith}
use borrow.Author.Tests.{eq-eqb}
use lib.Dec.{lit≤}
use lib.IntN.{ℤ, pos}
use lib.ListN.{length, drop, get_or, replicate, length-replicate}
use Rattle.answer.specs.Answer.{answer}
use Rattle.answer.proofs.Laws.{passed}
use Rattle.octets.specs.Bits.{digits_of, value_of, bits_of, octets_of, part, laid}
use Rattle.octets.specs.Signed.{signed_of, twos_of, number_bits, numbers_in}
use Rattle.octets.proofs.Digits.{take-bits}
use Rattle.octets.proofs.Laws.{bits-bits, octets-length}
use Rattle.layout.specs.Places.{a_field, b_field}
use Rattle.remainder.specs.Register.{register_of}
use Rattle.layout.specs.Frame.{training_sync, final_sync, used, message, frame_bits, training_bits, final_bits, field_of}
use Rattle.layout.specs.Refusals.{bit_refusals, check_refusals}
use Rattle.layout.proofs.Laws.{used-length, training-length}
use Rattle.layout.proofs.Fields.{a-field, b-field}
use Rattle.layout.proofs.RoundTrip.{training-laid, final-laid, final-answers}
use Rattle.numbers.specs.Promises.{numbers_of, number_octets}
use Rattle.recurrence.specs.Run.{run_of, after_of}
use Rattle.recurrence.specs.declared.Way.{Way}
use Rattle.recurrence.specs.declared.Way.TheVariants.{Scramble as scramble, Descramble as descramble}
use Rattle.scrambler.specs.Promises.{given, clocked, around, frame_out}
use Rattle.scrambler.proofs.Frames.{received}
use Rattle.recurrence.proofs.Exactly.{scrambles-run, descrambles-run}
use Rattle.ranges.specs.Ranges.{every}
use Rattle.symbol.specs.Levels.{place_in}
use Rattle.symbol.specs.Encoder.{symbols_in, ones_left, sent_after, codes_of}
use Rattle.samples.specs.Samples.{at_start}
use Rattle.precoder.specs.Precoder.{exact_sum}
use Rattle.precoder.proofs.Recipe.{turned_of, outputs_of}
use Rattle.precoder.proofs.Back.{sent-unique, outputs-sent}
use Rattle.demands.specs.Handed.{Outcome, None, none, SendCall, ReadCall, Fields, Rooms, BitCall, RunCall, FrameCall, Line, WordsCall, EncodeCall}
use Rattle.demands.specs.Handed.{EncodeRunCall, Symbol, Codes, PrecodeCall, Signal}
use Rattle.demands.specs.Library.{Library}
use Rattle.demands.specs.Checks.{frame_of, send_checks, frame_checks, encode_run_checks, precode_checks}
use Rattle.demands.specs.Frames.{Right, Octets, done}
use Rattle.demands.specs.Two.{Two}
use Rattle.demands.proofs.Fit.{many, written-length, written_small, written-clear}
use Rattle.demands.proofs.Interwork.{sent-out, sent-state}
use Rattle.demands.specs.WrongLibraries.{OneFrame, FromStart, SendsPlain, PlainOnce, StateKept, FrameUnwritten, CoefficientsUnwritten, VendorUnwritten, RunUnwritten, WholeUnwritten, CodesUnwritten}
use Rattle.demands.specs.WrongLibraries.{HistoryUnwritten, PrecodedUnwritten, DecodedUnwritten, CopiesTheRest, TurnsA, TurnsB, RejectedByTwo}

-- ---- calls to which no check applies

abbrev pub zeros : ℕ → List ℕ
zeros n = replicate n 0

-- a final frame with vendor data v, sent into the room f by an LTU from its start
abbrev final : List ℕ → List ℕ → SendCall
final v f = record { end = 0; state = 0; kind = 1; count = 0; coefficients = zeros 720; a = 0; b = 0; vendor = v; output = f }

final-right : (v f : List ℕ) → length v ≡ 16 → length f ≡ 529 → Right (send_checks (final v f))
final-right v f l m =
    let L = drop 1 (send_checks (final v f)) in
    passed 1 (drop 1 L) (ap not (eq-eqb _ _ (many (zeros 720) refl)))
    ∙ passed 1 (drop 2 L) (ap not (eq-eqb _ _ l)) ∙ passed 1 (drop 3 L) (ap not (eq-eqb _ _ m))

-- two vendor data that differ
abbrev one-first : List ℕ
one-first = 1 ∷ zeros 15

pub differ : (n : ℕ) → zeros (suc n) ≡ 1 ∷ zeros n → ⊥
differ n e = omega (arith, ap (λ (l : List ℕ). get_or l 0 0) e)

pub zeros-small : (n : ℕ) → Octets (zeros n)
zeros-small zero i = lit≤ tt
zeros-small (suc n) zero = lit≤ tt
zeros-small (suc n) (suc i) = zeros-small n i

one-small : Octets one-first
one-small zero = lit≤ tt
one-small (suc i) = zeros-small 15 i

-- a training frame with A = 1 and B = 1
abbrev training : SendCall
training = record { end = 0; state = 0; kind = 0; count = 128; coefficients = zeros 720; a = 1; b = 1; vendor = zeros 16; output = zeros 529 }

training-right : Right (send_checks training)
unfolding numbers_of numbers_in signed_of bits_of digits_of value_of every
training-right = refl

-- a one from the LTU's starting state
abbrev bit-one : BitCall
bit-one = record { end = 0; state = 0; bit = 1 }

-- six ones from there
abbrev six-ones : RunCall
six-ones = record { end = 0; state = 0; input = 255 ∷ []; bits = 6; output = 0 ∷ [] }

abbrev ones : List ℕ
ones = 1 ∷ 1 ∷ 1 ∷ 1 ∷ 1 ∷ 1 ∷ []

-- a final frame that has a one in its vendor data
abbrev pub lone : SendCall
lone = final one-first (zeros 529)

pub lone-right : Right (send_checks lone)
lone-right = final-right one-first (zeros 529) refl refl

-- the bits of it that clock the state
abbrev lone-bits : List ℕ
lone-bits = part 14 4213 (final_bits one-first)

lone-clocked : clocked (frame_of lone) ≡ lone-bits
lone-clocked = ap (part 14 4213) (final-laid one-first refl)

-- five bits behind the one there is a zero, and a one on the line; and the state that is left
five-behind : (get_or lone-bits 4007 0 ≡ 0) × (get_or (run_of scramble 5 0 lone-bits) 4007 0 ≡ 1)
unfolding final_bits frame_bits message final_sync number_bits twos_of digits_of bits_of register_of run_of
five-behind = (refl, refl)

lone-after : after_of scramble 5 0 lone-bits ≡ 1771550
unfolding final_bits frame_bits message final_sync number_bits twos_of digits_of bits_of register_of after_of
lone-after = refl

pub lone-differs : frame_out scramble (record { end = 0; state = 0 }) (frame_of lone) ≡ frame_of lone → ⊥
lone-differs e =
    let f = frame_of lone in
    let there : clocked f ≡ run_of scramble 5 0 (clocked f) =
    sym (ap clocked e)
    ∙ received (record { end = 0; state = 0 }) f (written-length lone lone-right) (written_small lone lone-right) (written-clear lone lone-right) in
    let same : lone-bits ≡ run_of scramble 5 0 lone-bits = sym lone-clocked ∙ there ∙ ap (run_of scramble 5 0) lone-clocked in
    omega (arith, sym five-behind.0 ∙ ap (λ (s : List ℕ). get_or s 4007 0) same ∙ five-behind.1)

-- a frame of zeros, over a room that begins with a one
abbrev over-one : FrameCall
over-one = record { end = 0; state = 0; frame = zeros 529; output = 1 ∷ zeros 528 }

over-right : Right (frame_checks over-one)
unfolding bits_of digits_of value_of
over-right = refl

-- a final frame
abbrev final-frame : List ℕ
final-frame = octets_of 529 (final_bits (zeros 16))

check_right : Right (check_refusals final-frame)
check_right =
    passed 1 (bit_refusals (bits_of final-frame)) (ap not (eq-eqb _ _ (octets-length 529 (final_bits (zeros 16)))))
    ∙ ap (λ (b : List ℕ). answer (bit_refusals b)) (final-laid (zeros 16) refl) ∙ (final-answers (zeros 16) refl).0

-- X3 alone, over a code of 0
abbrev one_code : EncodeRunCall
one_code = record { a = 0; b = 0; register = 0; symbols = 1 ∷ []; codes = 0 ∷ [] }

one-code-right : Right (encode_run_checks one_code)
unfolding symbols_in
one-code-right = refl

-- one symbol, x = 1, with no coefficient and no past
abbrev one_symbol : PrecodeCall
one_symbol = record { coefficients = zeros 720; history = zeros 720; symbols = 1 ∷ 0 ∷ 0 ∷ 0 ∷ []; room = 0 ∷ 0 ∷ 0 ∷ 0 ∷ [] }

symbol-right : Right (precode_checks one_symbol)
unfolding numbers_of numbers_in signed_of bits_of digits_of value_of every
symbol-right = refl

symbol-small : Octets (1 ∷ 0 ∷ 0 ∷ 0 ∷ [])
symbol-small zero = lit≤ tt
symbol-small (suc i) = zeros-small 3 i

module _ (x : Library) (two : Two x) where
  -- what a sent frame is once it is descrambled, from the LTU's start
  heard : List ℕ → List ℕ
  heard sent = (x.descramble_frame (record { end = 0; state = 0; frame = sent; output = zeros 529 })).memory.output

  -- what a final frame gives when it is read
  final-read : (v f room u : List ℕ) → length v ≡ 16 → length f ≡ 529 → Octets v → length room ≡ 720 → length u ≡ 16
      → ((x.read (record { frame = heard (x.send (final v f)).memory.output; coefficients = room; vendor = u; reserved = zeros 9 })).answer ≡ 0)
      × ((x.read (record { frame = heard (x.send (final v f)).memory.output; coefficients = room; vendor = u; reserved = zeros 9 })).memory.vendor ≡ v)
  unfolding heard
  final-read v f room u l m o n k =
      let e = two.back.final (final v f) (zeros 529) room u (zeros 9) refl (final-right v f l m) o (length-replicate {A = ℕ} 529 0) n k refl in
      (ap (λ (r : Outcome Fields Rooms). r.answer) e, ap (λ (r : Outcome Fields Rooms). r.memory.vendor) e)

  sent : (v f : List ℕ) → length v ≡ 16 → length f ≡ 529 → ((x.send (final v f)).answer ≡ 0)
      × ((x.send (final v f)).memory.output ≡ frame_out scramble (record { end = 0; state = 0 }) (octets_of 529 (final_bits v)))
  sent v f l m =
      let h = final-right v f l m in
      (ap (λ (r : Outcome None Line). r.answer) (two.exact.frames.final (final v f) refl h).2, sent-out x two.exact.frames (final v f) h)

  one-frame-refuted : OneFrame x → ⊥
  one-frame-refuted w =
      let z = sent (zeros 16) (zeros 529) refl refl in
      let u = sent one-first (zeros 529) refl refl in
      let same = w (final (zeros 16) (zeros 529)) (final one-first (zeros 529)) refl refl z.0 u.0 in
      differ 15
      (sym (final-read (zeros 16) (zeros 529) (zeros 720) (zeros 16) refl refl (zeros-small 16) refl refl).1
      ∙ ap (λ (f : List ℕ). (x.read (record { frame = heard f; coefficients = zeros 720; vendor = zeros 16; reserved = zeros 9 })).memory.vendor) same
      ∙ (final-read one-first (zeros 529) (zeros 720) (zeros 16) refl refl one-small refl refl).1)

  frame-refuted : FrameUnwritten x → ⊥
  frame-refuted w =
      let z = sent (zeros 16) (zeros 529) refl refl in
      let u = sent (zeros 16) (1 ∷ zeros 528) refl refl in
      differ 528 (sym (w (final (zeros 16) (zeros 529)) z.0) ∙ z.1 ∙ sym u.1 ∙ w (final (zeros 16) (1 ∷ zeros 528)) u.0)

  once-refuted : PlainOnce x → ⊥
  once-refuted w = w.2 (sym (sent-out x two.exact.frames w.0 w.1) ∙ w.3)

  -- the first frame of an LTU
  first : FromStart x lone
  first = sym (ap (λ (r : Outcome None ℕ). r.memory) (two.exact.scrambling.started 0 refl))

  lone-sent : (x.send lone).answer ≡ 0
  lone-sent = ap (λ (r : Outcome None Line). r.answer) (two.exact.frames.final lone refl lone-right).2

  plain-refuted : SendsPlain x → ⊥
  plain-refuted w = once-refuted (lone, lone-right, lone-differs, w lone first lone-sent)

  kept-refuted : StateKept x → ⊥
  kept-refuted w =
      omega (arith, sym (sent-state x two.exact.frames lone lone-right ∙ ap (after_of scramble 5 0) lone-clocked ∙ lone-after) ∙ w lone first lone-sent)

  vendor-refuted : VendorUnwritten x → ⊥
  vendor-refuted w =
      let r = final-read (zeros 16) (zeros 529) (zeros 720) one-first refl refl (zeros-small 16) refl refl in
      differ 15 (sym r.1 ∙ w _ r.0)

  -- a training frame with A = 1 and B = 1 is read so, and its words' bits are 1 and twenty zeros
  trained : List ℕ → ReadCall
  trained room = record { frame = heard (x.send training).memory.output; coefficients = room; vendor = zeros 16; reserved = zeros 9 }

  read-trained : (room : List ℕ) → length room ≡ 720
      → x.read (trained room) ≡ done (record { kind = 0; a = 1; b = 1 })
      (record { coefficients = number_octets (used 128 (numbers_of (zeros 720))); vendor = zeros 16; reserved = zeros 9 })
  unfolding trained heard
  read-trained room l =
      two.back.training training (zeros 529) room (zeros 16) (zeros 9) refl training-right (zeros-small 16) (length-replicate {A = ℕ} 529 0) l refl refl

  first-octet : get_or (number_octets (used 128 (numbers_of (zeros 720)))) 0 0 ≡ 0
  unfolding numbers_of numbers_in signed_of bits_of digits_of value_of number_octets number_bits twos_of octets_of
  first-octet = refl

  coefficients-refuted : CoefficientsUnwritten x → ⊥
  unfolding trained
  coefficients-refuted w =
      let room : List ℕ = 1 ∷ zeros 719 in
      let r = read-trained room refl in
      let e = sym (w (trained room) (ap (λ (o : Outcome Fields Rooms). o.answer) r)) ∙ ap (λ (o : Outcome Fields Rooms). o.memory.coefficients) r in
      omega (arith, ap (λ (l : List ℕ). get_or l 0 0) e ∙ first-octet)

  words_are : (field_of a_field (bits_of (heard (x.send training).memory.output)) ≡ 1 ∷ zeros 20)
      × (field_of b_field (bits_of (heard (x.send training).memory.output)) ≡ 1 ∷ zeros 20)
  unfolding heard training_bits digits_of
  words_are =
      let cs = numbers_of (zeros 720) in
      let U = used-length 128 cs (lit≤ tt) (many (zeros 720) refl) in
      let e = ap (λ (o : Outcome None Line). bits_of o.memory.output) (two.back.frame training (zeros 529) training-right (length-replicate {A = ℕ} 529 0))
      ∙ training-laid 128 cs 1 1 (zeros 16) (lit≤ tt) (many (zeros 720) refl) refl in (
        ap (field_of a_field) e ∙ a-field (used 128 cs) 1 1 (zeros 16) (zeros 67) U refl refl training_sync training-length,
        ap (field_of b_field) e ∙ b-field (used 128 cs) 1 1 (zeros 16) (zeros 67) U refl refl training_sync training-length,
      )

  -- last bit first they would be 1,048,576
  turned-refuted : (TurnsA x → ⊥) × (TurnsB x → ⊥)
  unfolding trained value_of
  turned-refuted =
      let c = trained (zeros 720) in
      let t = read-trained (zeros 720) refl in
      let r = ap (λ (o : Outcome Fields Rooms). o.answer) t in
      let k = ap (λ (o : Outcome Fields Rooms). o.numbers.kind) t in (
        λ w. omega (arith, sym (ap (λ (o : Outcome Fields Rooms). o.numbers.a) t) ∙ w c r k ∙ ap (λ (l : List ℕ). value_of (reverse l)) words_are.0),
        λ w. omega (arith, sym (ap (λ (o : Outcome Fields Rooms). o.numbers.b) t) ∙ w c r k ∙ ap (λ (l : List ℕ). value_of (reverse l)) words_are.1),
      )

  bit-taken : (way : Way) → (x.bit way bit-one).answer ≡ 0
  bit-taken scramble = ap (λ (r : Outcome ℕ ℕ). r.answer) (two.exact.scrambling.bit_scrambled bit-one refl).2
  bit-taken descramble = ap (λ (r : Outcome ℕ ℕ). r.answer) (two.exact.scrambling.bit_descrambled bit-one refl).2

  -- five ones and a zero come out, scrambled and descrambled
  scrambled : (way : Way) → ((x.run way six-ones).answer ≡ 0) × ((x.run way six-ones).memory.output ≡ 31 ∷ [])
  unfolding laid octets_of bits_of digits_of value_of run_of
  scrambled scramble =
      let w = two.exact.scrambling.scrambled six-ones refl in
      let s = scrambles-run 5 (lit≤ tt) (lit≤ tt) 0 ones w.0 w.1 in
      (ap (λ (r : Outcome None Line). r.answer) w.2, ap (λ (r : Outcome None Line). r.memory.output) w.2 ∙ ap (laid (0 ∷ []) 0) s)
  scrambled descramble =
      let w = two.exact.scrambling.descrambled six-ones refl in
      let s = descrambles-run 5 (lit≤ tt) (lit≤ tt) 0 ones w.0 (take-bits 6 (bits_of (255 ∷ [])) (bits-bits (255 ∷ []))) w.1 in
      (ap (λ (r : Outcome None Line). r.answer) w.2, ap (λ (r : Outcome None Line). r.memory.output) w.2 ∙ ap (laid (0 ∷ []) 0) s)

  run-refuted : (way : Way) → RunUnwritten way x → ⊥
  run-refuted way w = omega (arith, ap (λ (l : List ℕ). get_or l 0 0) (sym (w six-ones (scrambled way).0) ∙ (scrambled way).1))

  copies-refuted : CopiesTheRest x → ⊥
  unfolding bits_of digits_of
  copies-refuted w =
      omega (arith, sym (ap (λ (l : List ℕ). get_or (given l 6) 5 0) (scrambled scramble).1) ∙ w.rest six-ones 5 (scrambled scramble).0 (lit≤ tt) (lit≤ tt))

  -- of a frame of zeros the first octet, which is sync, comes out as it went in
  sync-out : (s : List ℕ) → get_or (around (zeros 529) s) 0 0 ≡ 0
  unfolding octets_of bits_of digits_of value_of
  sync-out s = refl

  framed : ((x.descramble_frame over-one).answer ≡ 0) × (get_or (x.descramble_frame over-one).memory.output 0 0 ≡ 0)
  framed =
      let w = two.exact.scrambling.frame_descrambled over-one over-right in
      (ap (λ (r : Outcome None Line). r.answer) w.2, ap (λ (r : Outcome None Line). get_or r.memory.output 0 0) w.2 ∙ sync-out w.0)

  whole-refuted : WholeUnwritten x → ⊥
  whole-refuted w = omega (arith, sym (ap (λ (l : List ℕ). get_or l 0 0) (w over-one framed.0)) ∙ framed.1)

  -- a history that began with a one begins with a zero
  zero-first : get_or (number_octets at_start) 0 0 ≡ 0
  unfolding digits_of value_of number_octets number_bits twos_of octets_of
  zero-first = refl

  history-refuted : HistoryUnwritten x → ⊥
  history-refuted w =
      let e = two.exact.precoding.started (1 ∷ zeros 719) refl in
      let u = sym (w (1 ∷ zeros 719) (ap (λ (r : Outcome None (List ℕ)). r.answer) e)) ∙ ap (λ (r : Outcome None (List ℕ)). r.memory) e in
      omega (arith, ap (λ (l : List ℕ). get_or l 0 0) u ∙ zero-first)

  encoded : x.encode_run one_code ≡ done none (record { register = 0; codes = 8 ∷ [] })
  unfolding codes_of sent_after ones_left digits_of value_of
  encoded = two.exact.symbols.encode_run one_code one-code-right

  codes-refuted : CodesUnwritten x → ⊥
  codes-refuted w =
      let e = sym (w one_code (ap (λ (r : Outcome None Codes). r.answer) encoded)) ∙ ap (λ (r : Outcome None Codes). r.memory.codes) encoded in
      omega (arith, ap (λ (l : List ℕ). get_or l 0 0) e)

  precoded : ((x.precode one_symbol).answer ≡ 0) × ((x.precode one_symbol).memory.room ≡ 1 ∷ 0 ∷ 0 ∷ 0 ∷ [])
  unfolding numbers_of numbers_in signed_of bits_of digits_of value_of number_octets number_bits twos_of octets_of turned_of exact_sum
  precoded =
      let w = two.exact.precoding.precoded one_symbol symbol-right in
      let cs = numbers_of (zeros 720) in
      let s = sent-unique cs cs (pos 1 ∷ []) w.0 (outputs_of cs cs (pos 1 ∷ [])) w.1 (outputs-sent cs cs (pos 1 ∷ [])) in
      (ap (λ (r : Outcome None Signal). r.answer) w.2, ap (λ (r : Outcome None Signal). r.memory.room) w.2 ∙ ap number_octets s)

  precoded-refuted : PrecodedUnwritten x → ⊥
  precoded-refuted w = omega (arith, ap (λ (l : List ℕ). get_or l 0 0) (sym (w one_symbol precoded.0) ∙ precoded.1))

  decoded : x.decode (record { coefficients = zeros 720; history = zeros 720; symbols = (x.precode one_symbol).memory.room; room = zeros 4 })
      ≡ done none (record { history = (x.precode one_symbol).memory.history; room = 1 ∷ 0 ∷ 0 ∷ 0 ∷ [] })
  decoded = two.back.precoded one_symbol (zeros 4) symbol-right symbol-small refl

  decoded-refuted : DecodedUnwritten x → ⊥
  decoded-refuted w =
      let e = sym (w _ (ap (λ (r : Outcome None Signal). r.answer) decoded)) ∙ ap (λ (r : Outcome None Signal). r.memory.room) decoded in
      omega (arith, ap (λ (l : List ℕ). get_or l 0 0) e)

  pub rejected-by-two : RejectedByTwo x
  unfolding place_in symbols_in
  rejected-by-two = record {
    refuses_sending = λ w. w (final (zeros 16) (zeros 529)) (sent (zeros 16) (zeros 529) refl refl).0;
    refuses_checking = λ w. w final-frame (ap (λ (o : Outcome None None). o.answer) (two.exact.frames.checked final-frame check_right));
    refuses_reading = λ w. w _ (final-read (zeros 16) (zeros 529) (zeros 720) (zeros 16) refl refl (zeros-small 16) refl refl).0;
    refuses_scrambler_starts = λ w. w 0 (ap (λ (o : Outcome None ℕ). o.answer) (two.exact.scrambling.started 0 refl));
    refuses_bits = λ way w. w bit-one (bit-taken way);
    refuses_runs = λ way w. w six-ones (scrambled way).0;
    refuses_frames = λ w. w over-one framed.0;
    refuses_activation = λ w. w 0 (ap (λ (o : Outcome ℤ None). o.answer) (two.exact.symbols.activation 0 refl));
    refuses_levels = λ w. w 0 (ap (λ (o : Outcome ℤ None). o.answer) (two.exact.symbols.level 0 refl));
    refuses_codes = λ w. w _ (ap (λ (o : Outcome ℕ None). o.answer) (two.exact.symbols.code 0 (lit≤ tt)));
    refuses_encoder_starts = λ w. let c : WordsCall = record { a = 0; b = 0 } in
        w c (ap (λ (o : Outcome None ℕ). o.answer) (two.exact.symbols.started c refl));
    refuses_encoding = λ w. let c : EncodeCall = record { a = 0; b = 0; register = 0; symbol = 0 } in
        w c (ap (λ (o : Outcome Symbol ℕ). o.answer) (two.exact.symbols.encode c refl));
    refuses_encoder_runs = λ w. w one_code (ap (λ (r : Outcome None Codes). r.answer) encoded);
    refuses_history_starts = λ w. w (zeros 720) (ap (λ (o : Outcome None (List ℕ)). o.answer) (two.exact.precoding.started (zeros 720) refl));
    refuses_precoding = λ w. w one_symbol precoded.0;
    refuses_decoding = λ w. w _ (ap (λ (r : Outcome None Signal). r.answer) decoded);
    refuses_shaping = λ w. w (pos 0) (two.exact.precoding.shaped (pos 0) refl).0;
    one_frame = one-frame-refuted;
    sends_plain = plain-refuted;
    plain_once = once-refuted;
    state_kept = kept-refuted;
    frame_unwritten = frame-refuted;
    coefficients_unwritten = coefficients-refuted;
    vendor_unwritten = vendor-refuted;
    run_unwritten = run-refuted;
    whole_unwritten = whole-refuted;
    history_unwritten = history-refuted;
    codes_unwritten = codes-refuted;
    precoded_unwritten = precoded-refuted;
    decoded_unwritten = decoded-refuted;
    copies_the_rest = copies-refuted;
    turns_a = turned-refuted.0;
    turns_b = turned-refuted.1;
  }
