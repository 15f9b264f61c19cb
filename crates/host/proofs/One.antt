-- One result per call, and the order of the checks. Assumes nothing.
use mathlib.Core.Path.{◌≡◌, refl, sym, ap, ◌∙◌}
use mathlib.Core.Bool.{true}
use mathlib.Core.List.{List, [], ◌∷◌}
use Prim.Native.Nat.{ℕ}
use lib.IntN.{ℤ, pos}
use Rattle.answer.specs.Answer.{wrong_length, held, in_order}
use Rattle.numbers.specs.Promises.{numbers_of, number_octets}
use Rattle.sender.specs.Promises.{frame_octets}
use Rattle.samples.specs.Samples.{at_start}
use Rattle.samples.proofs.Exact.{exact-unique}
use Rattle.precoder.specs.Runs.{PrecodesRun, DecodesRun}
use Rattle.precoder.proofs.One.{precode-number-one, decode-number-one}
use Rattle.host.specs.declared.frames.FrameFields.{FrameFields}
use Rattle.host.specs.declared.symbols.Level.{Level}
use Rattle.host.specs.declared.symbols.Code.{Code}
use Rattle.host.specs.declared.symbols.Encoded.{Encoded}
use Rattle.host.specs.declared.symbols.EncodedRun.{EncodedRun}
use Rattle.host.specs.declared.symbols.Shaped.{Shaped}
use Rattle.host.specs.declared.supervising.Supervisor.{Supervisor}
use Rattle.host.specs.declared.supervising.Stepped.{Stepped}
use Rattle.host.specs.declared.supervising.Run.{Run}
use Rattle.host.specs.Frames.{FrameRead, frame_read_refusals}
use Rattle.host.specs.Symbols.{ActivationLevelGiven, DataLevelGiven, CodeGiven, EncoderStarted, SymbolEncoded, SymbolsEncoded}
use Rattle.host.specs.Symbols.{HistoryStarted, SampleShaped}
use Rattle.host.specs.Supervising.{Started, StateStepped, CodesRun}
use Rattle.octets.specs.Bits.{laid}
use Rattle.recurrence.specs.Run.{run_of, after_of}
use Rattle.recurrence.specs.declared.Way.{Way}
use Rattle.recurrence.specs.declared.Way.TheVariants.{Scramble as scramble, Descramble as descramble}
use Rattle.scrambler.specs.Ends.{tap_of}
use Rattle.scrambler.specs.Promises.{given, clocked, frame_out}
use Rattle.host.specs.Sending.{frame_send_refusals, FrameSent}
use Rattle.host.specs.declared.scrambling.Scrambled.{Scrambled}
use Rattle.host.specs.declared.scrambling.ScrambledBit.{ScrambledBit}
use Rattle.host.specs.Scrambling.{scrambler_in, ScramblerStarted, BitScrambled, ScrambledRun, FrameDescrambled}

module _ (end state kind count : ℕ) (os : List ℕ) (a b : ℕ) (vendor frame : List ℕ) where
  pub sdsl-frame-send-one : (r r' : Scrambled) (t t' : List ℕ) → FrameSent end state kind count os a b vendor frame r t
      → FrameSent end state kind count os a b vendor frame r' t' → (r ≡ r') × (t ≡ t')
  sdsl-frame-send-one r r' t t' p q =
      let F = frame_octets kind count (numbers_of os) a b vendor in
      let e : r.answer ≡ r'.answer = p.answered ∙ sym q.answered in
      let n : r.state ≡ r'.state = p.next ∙ ap (λ (k : ℕ). held k state (after_of scramble (tap_of end) state (clocked F))) e ∙ sym q.next in (
        λ i. record { answer = e i; state = n i },
        p.left ∙ ap (λ (k : ℕ). held k frame (frame_out scramble (record { end = end; state = state }) F)) e ∙ sym q.left,
      )

  pub frame-send-order : in_order 1 (frame_send_refusals end state kind count os a b vendor frame) ≡ true
  unfolding in_order
  frame-send-order = refl

module _ (frame os vendor reserved : List ℕ) where
  pub sdsl-frame-read-one : (r r' : FrameFields) (d d' v v' s s' : List ℕ) → FrameRead frame os vendor reserved r d v s
      → FrameRead frame os vendor reserved r' d' v' s' → (r ≡ r') × (d ≡ d') × (v ≡ v') × (s ≡ s')
  sdsl-frame-read-one r r' d d' v v' s s' p q = (
    p.found ∙ sym q.found,
    p.coefficients_held ∙ sym q.coefficients_held,
    p.vendor_held ∙ sym q.vendor_held,
    p.reserved_held ∙ sym q.reserved_held,
  )

  pub frame-read-order : in_order 1 (frame_read_refusals frame os vendor reserved) ≡ true
  unfolding in_order
  frame-read-order = refl

pub sdsl-activation-level-one : (bit : ℕ) (r r' : Level) → ActivationLevelGiven bit r → ActivationLevelGiven bit r' → r ≡ r'
sdsl-activation-level-one bit r r' p q =
    let e = p.answered ∙ sym q.answered in
    λ i. record { answer = e i; sixteenths = ((rw e at p.level) ∙ sym q.level) i }

pub sdsl-data-level-one : (code : ℕ) (r r' : Level) → DataLevelGiven code r → DataLevelGiven code r' → r ≡ r'
sdsl-data-level-one code r r' p q =
    let e = p.answered ∙ sym q.answered in
    λ i. record { answer = e i; sixteenths = ((rw e at p.level) ∙ sym q.level) i }

pub sdsl-level-code-one : (level : ℤ) (r r' : Code) → CodeGiven level r → CodeGiven level r' → r ≡ r'
sdsl-level-code-one level r r' p q =
    let e = p.answered ∙ sym q.answered in
    λ i. record { answer = e i; code = ((rw e at p.code) ∙ sym q.code) i }

pub sdsl-encoder-start-one : (a b : ℕ) (r r' : EncodedRun) → EncoderStarted a b r → EncoderStarted a b r' → r ≡ r'
sdsl-encoder-start-one a b r r' p q = λ i. record { answer = (p.answered ∙ sym q.answered) i; register = ((p.next ∙ sym q.next) i).register }

module _ (a b register : ℕ) where
  pub sdsl-encode-one : (symbol : ℕ) (r r' : Encoded) → SymbolEncoded a b register symbol r → SymbolEncoded a b register symbol r' → r ≡ r'
  sdsl-encode-one symbol r r' p q =
      let e = p.answered ∙ sym q.answered in
      λ i. record {
        answer = e i;
        code = ((rw e at p.code) ∙ sym q.code) i;
        sixteenths = ((rw e at p.level) ∙ sym q.level) i;
        register = (((rw e at p.next) ∙ sym q.next) i).register;
      }

  pub sdsl-encode-run-one : (symbols codes : List ℕ) (r r' : EncodedRun) (d d' : List ℕ)
      → SymbolsEncoded a b register symbols codes r d → SymbolsEncoded a b register symbols codes r' d' → (r ≡ r') × (d ≡ d')
  sdsl-encode-run-one symbols codes r r' d d' p q =
      let e = p.answered ∙ sym q.answered in
      (λ i. record { answer = e i; register = (((rw e at p.next) ∙ sym q.next) i).register }, ((rw e at p.written) ∙ sym q.written))

module _ (history : List ℕ) where
  pub sdsl-history-start-one : (r r' : ℕ) (h h' : List ℕ) → HistoryStarted history r h → HistoryStarted history r' h' → (r ≡ r') × (h ≡ h')
  sdsl-history-start-one r r' h h' p q =
      let e : r ≡ r' = p.answered ∙ sym q.answered in
      (e, p.left ∙ ap (λ (n : ℕ). held n history (number_octets at_start)) e ∙ sym q.left)

  pub history-start-order : in_order 1 (wrong_length history 720 ∷ []) ≡ true
  unfolding in_order
  history-start-order = refl

pub sdsl-precode-one : (coefficients history xs ys : List ℕ) (r r' : ℕ) (h h' d d' : List ℕ)
    → PrecodesRun coefficients history xs ys r h d → PrecodesRun coefficients history xs ys r' h' d' → (r ≡ r') × (h ≡ h') × (d ≡ d')
sdsl-precode-one = precode-number-one

pub sdsl-unprecode-one : (coefficients history ys xs : List ℕ) (r r' : ℕ) (h h' d d' : List ℕ)
    → DecodesRun coefficients history ys xs r h d → DecodesRun coefficients history ys xs r' h' d' → (r ≡ r') × (h ≡ h') × (d ≡ d')
sdsl-unprecode-one = decode-number-one

pub sdsl-shaper-one : (y : ℤ) (r r' : Shaped) → SampleShaped y r → SampleShaped y r' → r ≡ r'
sdsl-shaper-one y r r' p q =
    let e = p.answered ∙ sym q.answered in
    let v = exact-unique r.value r'.value (held r'.answer (pos 0) y) (rw e at p.value) q.value in
    λ i. record { answer = e i; value = v i }

pub sdsl-start-one : (end silence : ℕ) (r r' : Stepped) → Started end silence r → Started end silence r' → r ≡ r'
sdsl-start-one end silence r r' p q = p ∙ sym q

pub sdsl-step-one : (s : Supervisor) (code : ℕ) (r r' : Stepped) → StateStepped s code r → StateStepped s code r' → r ≡ r'
sdsl-step-one s code r r' p q = p ∙ sym q

pub sdsl-run-codes-one : (s : Supervisor) (codes : List ℕ) (r r' : Run) → CodesRun s codes r → CodesRun s codes r' → r ≡ r'
sdsl-run-codes-one s codes r r' p q = p ∙ sym q

pub sdsl-scrambler-start-one : (end : ℕ) (r r' : Scrambled) → ScramblerStarted end r → ScramblerStarted end r' → r ≡ r'
sdsl-scrambler-start-one end r r' p q = p ∙ sym q

-- sdsl_scramble_bit and sdsl_descramble_bit
pub sdsl-scramble-bit-one : (way : Way) (end state bit : ℕ) (r r' : ScrambledBit)
    → BitScrambled way end state bit r → BitScrambled way end state bit r' → r ≡ r'
sdsl-scramble-bit-one way end state bit r r' p q = p ∙ sym q

-- sdsl_scramble and sdsl_descramble
pub sdsl-scramble-one : (way : Way) (end state : ℕ) (input : List ℕ) (bits : ℕ) (output : List ℕ) (r r' : Scrambled) (t t' : List ℕ)
    → ScrambledRun way end state input bits output r t → ScrambledRun way end state input bits output r' t' → (r ≡ r') × (t ≡ t')
sdsl-scramble-one way end state input bits output r r' t t' p q =
    let F = given input bits in
    let e : r.answer ≡ r'.answer = p.answered ∙ sym q.answered in
    let n : r.state ≡ r'.state = p.next ∙ ap (λ (k : ℕ). held k state (after_of way (tap_of end) state F)) e ∙ sym q.next in
    (λ i. record { answer = e i; state = n i }, p.left ∙ ap (λ (k : ℕ). held k output (laid output 0 (run_of way (tap_of end) state F))) e ∙ sym q.left)

pub sdsl-descramble-frame-one : (end state : ℕ) (frame output : List ℕ) (r r' : Scrambled) (t t' : List ℕ)
    → FrameDescrambled end state frame output r t → FrameDescrambled end state frame output r' t' → (r ≡ r') × (t ≡ t')
sdsl-descramble-frame-one end state frame output r r' t t' p q =
    let e : r.answer ≡ r'.answer = p.answered ∙ sym q.answered in
    let n : r.state ≡ r'.state = p.next ∙ ap (λ (k : ℕ). held k state (after_of descramble (tap_of end) state (clocked frame))) e ∙ sym q.next in
    (λ i. record { answer = e i; state = n i }, p.left ∙ ap (λ (k : ℕ). held k output (frame_out descramble (scrambler_in end state) frame)) e ∙ sym q.left)
