-- What one card writes or scrambles, the other gets back: for libraries of any two makes that are exact to the paper. Assumes nothing.
use mathlib.Core.Path.{◌≡◌, refl, sym, ap, ap₂, ◌∙◌, subst}
use mathlib.Core.Bool.{true, false, cond, not}
use mathlib.Core.Logic.{⊎_elim}
use mathlib.Core.List.{List, [], ◌∷◌, ◌++◌, reverse}
use Prim.Native.Nat.{ℕ, ◌+◌, ◌*◌, ◌≤◌, ◌<◌, ◌^◌}
use native.Mathlib.Omega.{arith}
use borrow.Author.Tests.{eq-eqb, eqb-true, ltb-false, leb-false, le-ltb, not-false}
use lib.Dec.{eqb, ltb, leb}
use lib.IntN.{ℤ}
use lib.ListN.{length, get_or, take, drop, replicate}
use lib.Seq.{sets-eq, take_at, length-take-le}
use Rattle.answer.specs.Answer.{answer}
use Rattle.answer.proofs.Laws.{none as none-applies, passed, given as held-given}
use Rattle.octets.specs.Bits.{digits_of, value_of, bits_of, octets_of, part, laid}
use Rattle.octets.proofs.Digits.{Bits, nil-bits, cons-bits, take-bits, drop_bits}
use Rattle.octets.proofs.Laws.{bits-bits, bits-length, octets-length, laid-length, laid-bits}
use Rattle.layout.specs.Places.{a_field, b_field, vendor_field, reserved_field}
use Rattle.layout.specs.Frame.{used, training_bits, final_bits, field_of, coefficients_of}
use Rattle.layout.specs.Refusals.{bit_refusals, has_sync}
use Rattle.layout.proofs.RoundTrip.{training-laid, training-answers, a_back, b-back, used-back, vendor-back, reserved-back, final-laid, final-answers, final-vendor}
use Rattle.layout.proofs.Reserved.{zeros-octets}
use Rattle.numbers.specs.Promises.{numbers_of, number_octets}
use Rattle.recurrence.specs.Line.{newest}
use Rattle.scrambler.specs.Ends.{tap_of}
use Rattle.recurrence.specs.Run.{run_of, after_of}
use Rattle.recurrence.specs.declared.Way.TheVariants.{Scramble as scramble, Descramble as descramble}
use Rattle.scrambler.specs.Promises.{given, clocked, around, frame_out}
use Rattle.scrambler.specs.declared.Scrambler.{Scrambler}
use Rattle.recurrence.proofs.Laws.{run-bits}
use Rattle.scrambler.proofs.Laws.{tap-range}
use Rattle.recurrence.proofs.Exactly.{scrambles-run, descrambles-run, scrambled-state, back as comes_back}
use Rattle.scrambler.proofs.Frames.{received, pad-out, frame_back}
use Rattle.precoder.specs.Runs.{past_after_all, PrecodesRun}
use Rattle.precoder.proofs.Recipe.{outputs_of, inputs_of}
use Rattle.precoder.proofs.Back.{outputs-sent, sent-unique, inputs_are, outputs-length, run-done, runs, run-back as run-back-of}
use Rattle.precoder.proofs.Turns.{lengths-are}
use Rattle.numbers.proofs.Laws.{octets-many, octets-kept}
use Rattle.demands.specs.Handed.{Outcome, None, none, SendCall, ReadCall, BitCall, RunCall, FrameCall, Line, PrecodeCall, Signal}
use Rattle.demands.specs.Library.{Library}
use Rattle.demands.specs.Checks.{frame_of, send_checks, write_checks, scramble_checks, read_checks, bit_checks, run_checks, frame_checks, precode_checks}
use Rattle.demands.specs.Frames.{Right, Octets, done, SendsAs, Frames, Scrambling}
use Rattle.demands.specs.Back.{heard_from, going_on, Hop, heard_in_turn, sent_in_turn, AllSent, no_frame, one_frame, Back}
use Rattle.demands.specs.Symbols.{Precoding}
use Rattle.demands.specs.Two.{Exact}
use Rattle.demands.proofs.DataTwo.{data-interwork}
use Rattle.demands.specs.Receiving.{Receives}
use Rattle.demands.specs.ReceivingBack.{ReceivedBack}
use Rattle.demands.proofs.EocTwo.{messages-interwork}
use Rattle.demands.proofs.LineTwo.{one-frame-given}
use Rattle.demands.proofs.Fit.{many, both_right, written-good, written_small, written-clear, written-length, lengths-fit, training-fit, kind-fit, read_right, bit-fit}

-- ---- frames that were sent, read

module _ (y : Library) (ey : Frames y) (c : SendCall) (coefficients v s : List ℕ) (h : Right (write_checks c)) (o : Octets c.vendor)
    (lr : length coefficients ≡ 720) (lv : length v ≡ 16) (ls : length s ≡ 9) where
  abbrev call : List ℕ → ReadCall
  call frame = record { frame = frame; coefficients = coefficients; vendor = v; reserved = s }

  -- the octets of a kind
  abbrev written : ℕ → List ℕ
  written n = octets_of 529 (cond (eqb n 0) (training_bits c.count (numbers_of c.coefficients) c.a c.b c.vendor) (final_bits c.vendor))

  training-back : c.kind ≡ 0 → y.read (call (frame_of c)) ≡ done (record { kind = 0; a = c.a; b = c.b })
      (record { coefficients = number_octets (used c.count (numbers_of c.coefficients)); vendor = c.vendor; reserved = replicate 9 0 })
  training-back e =
      let f = training-fit c h e in
      let cs = numbers_of c.coefficients in
      let n = many c.coefficients f.coefficients in
      let T = training_bits c.count cs c.a c.b c.vendor in
      let F = octets_of 529 T in
      let B : bits_of F ≡ T = training-laid c.count cs c.a c.b c.vendor f.count n f.vendor in
      let t = training-answers c.count cs c.a c.b c.vendor f.count n f.vendor in
      let r : Right (read_checks (call F)) = read_right (call F) lr (octets-length 529 T) lv ls (ap (λ (b : List ℕ). answer (bit_refusals b)) B ∙ t.0) in
      let none-set : octets_of 9 (field_of reserved_field T) ≡ replicate 9 0 =
      ap (octets_of 9) (reserved-back c.count cs c.a c.b c.vendor f.count n f.vendor) ∙ zeros-octets 9 67 in
      ap (λ (n : ℕ). y.read (call (written n))) e
      ∙ ey.read_training (call F) r (ap (has_sync _) B ∙ t.1)
      ∙ ap (λ (b : List ℕ). done (record { kind = 0; a = value_of (field_of a_field b); b = value_of (field_of b_field b) })
      (record { coefficients = number_octets (coefficients_of b); vendor = octets_of 16 (field_of vendor_field b); reserved = octets_of 9 (field_of reserved_field b) })) B
      ∙ ap₂ (λ (p q : ℕ). done (record { kind = 0; a = p; b = q })
      (record { coefficients = number_octets (coefficients_of T); vendor = octets_of 16 (field_of vendor_field T); reserved = octets_of 9 (field_of reserved_field T) }))
      (a_back c.count cs c.a c.b c.vendor f.count n f.vendor f.a) (b-back c.count cs c.a c.b c.vendor f.count n f.vendor f.b)
      ∙ ap₂ (λ (p : List ℤ) (q : List ℕ). done (record { kind = 0; a = c.a; b = c.b })
      (record { coefficients = number_octets p; vendor = q; reserved = octets_of 9 (field_of reserved_field T) }))
      (used-back c.count cs c.a c.b c.vendor f.count n f.vendor f.range) (vendor-back c.count cs c.a c.b c.vendor f.count n f.vendor o)
      ∙ ap (λ (q : List ℕ). done (record { kind = 0; a = c.a; b = c.b })
      (record { coefficients = number_octets (used c.count cs); vendor = c.vendor; reserved = q })) none-set

  final-back : c.kind ≡ 1
      → y.read (call (frame_of c)) ≡ done (record { kind = 1; a = 0; b = 0 }) (record { coefficients = coefficients; vendor = c.vendor; reserved = s })
  final-back e =
      let l = (lengths-fit c h).1 in
      let T = final_bits c.vendor in
      let F = octets_of 529 T in
      let B : bits_of F ≡ T = final-laid c.vendor l in
      let t = final-answers c.vendor l in
      let r : Right (read_checks (call F)) = read_right (call F) lr (octets-length 529 T) lv ls (ap (λ (b : List ℕ). answer (bit_refusals b)) B ∙ t.0) in
      ap (λ (n : ℕ). y.read (call (written n))) e
      ∙ ey.read_final (call F) r (ap (has_sync _) B ∙ t.1)
      ∙ ap (λ (b : List ℕ). done (record { kind = 1; a = 0; b = 0 }) (record { coefficients = coefficients; vendor = octets_of 16 (field_of vendor_field b); reserved = s })) B
      ∙ ap (λ (q : List ℕ). done (record { kind = 1; a = 0; b = 0 }) (record { coefficients = coefficients; vendor = q; reserved = s })) (final-vendor c.vendor l o)

-- ---- scrambling

-- bits laid over octets from the start stand there
pub laid-there : (s bs : List ℕ) (n : ℕ) → Bits bs → length bs ≡ n → n ≤ 8 * length s → part 0 n (bits_of (laid s 0 bs)) ≡ bs
laid-there s bs n h l m =
    ap (part 0 n) (laid-bits s 0 bs h ∙ sets-eq bs (bits_of s) 0 (omega (arith, bits-length s)))
    ∙ take_at bs (drop (0 + length bs) (bits_of s)) n l

-- the checks of a run that passed, for another input and output of the same length
pub run-right : (c : RunCall) (input output : List ℕ) → Right (run_checks c) → length input ≡ length c.output → length output ≡ length c.output
    → (length c.input ≡ length c.output) × (c.bits ≤ 8 * length c.output) × Right
    (run_checks (record { end = c.end; state = c.state; input = input; bits = c.bits; output = output }))
run-right c input output h l m =
    let R = run_checks c in
    let R' = run_checks (record { end = c.end; state = c.state; input = input; bits = c.bits; output = output }) in
    let one = none-applies 0 (ltb (8 * length c.input) c.bits) (drop 1 R) h in
    let two = none-applies 0 (not (eqb (length c.input) (length c.output))) (drop 2 R) one.1 in
    let e : length c.input ≡ length c.output = eqb-true _ _ (not-false _ two.0) in (
      e,
      subst (λ (n : ℕ). c.bits ≤ 8 * n) e (ltb-false _ _ one.0),
      passed 1 (drop 1 R') (ap (λ (n : ℕ). ltb (8 * n) c.bits) (l ∙ sym e) ∙ one.0)
          ∙ passed 1 (drop 2 R') (ap not (eq-eqb _ _ (l ∙ sym m))) ∙ two.1,
    )

module _ (x y : Library) (ex : Scrambling x) (ey : Scrambling y) where
  bit-back : (c : BitCall) → Right (bit_checks c)
      → y.bit descramble (record { end = c.end; state = c.state; bit = (x.bit scramble c).numbers }) ≡ done c.bit (x.bit scramble c).memory
  bit-back c h =
      let tap = tap_of c.end in
      let t = tap-range c.end in
      let fit = bit-fit c h in
      let w = ex.bit_scrambled c h in
      let s = w.0 in
      let call : ℕ → BitCall = λ b. record { end = c.end; state = c.state; bit = b } in
      let is : s ∷ [] ≡ run_of scramble tap c.state (c.bit ∷ []) = scrambles-run tap t.0 t.1 c.state (c.bit ∷ []) (s ∷ []) w.1 in
      let S : Bits (s ∷ []) = subst Bits (sym is) (run-bits scramble tap c.state (c.bit ∷ [])) in
      let lt : s < 2 = S 0 in
      let R = bit_checks (call s) in
      let r : Right R = passed 2 (drop 1 R) fit.0 ∙ passed 4 (drop 2 R) fit.1 ∙ passed 4 [] (le-ltb 1 s (omega arith)) in
      let v = ey.bit_descrambled (call s) r in
      let f : v.0 ∷ [] ≡ c.bit ∷ [] =
      descrambles-run tap t.0 t.1 c.state (s ∷ []) (v.0 ∷ []) S v.1
      ∙ ap (run_of descramble tap c.state) is ∙ (comes_back tap c.state (c.bit ∷ []) (cons-bits c.bit [] fit.2 nil-bits)).0 in
      ap (λ (m : Outcome ℕ ℕ). y.bit descramble (call m.numbers)) w.2 ∙ v.2
      ∙ ap (λ (l : List ℕ). done (get_or l 0 0) (newest c.state (s ∷ []))) f
      ∙ ap (λ (m : Outcome ℕ ℕ). done c.bit m.memory) (sym w.2)

  run-back : (c : RunCall) (room : List ℕ) → Right (run_checks c) → length room ≡ length c.output
      → y.run descramble (record { end = c.end; state = c.state; input = (x.run scramble c).memory.output; bits = c.bits; output = room })
      ≡ done none (record { state = (x.run scramble c).memory.state; output = laid room 0 (given c.input c.bits) })
  run-back c room h l =
      let tap = tap_of c.end in
      let t = tap-range c.end in
      let w = ex.scrambled c h in
      let s = w.0 in
      let call : List ℕ → RunCall = λ o. record { end = c.end; state = c.state; input = o; bits = c.bits; output = room } in
      let F : Bits (given c.input c.bits) = take-bits c.bits (bits_of c.input) (bits-bits c.input) in
      let is : s ≡ run_of scramble tap c.state (given c.input c.bits) = scrambles-run tap t.0 t.1 c.state (given c.input c.bits) s w.1 in
      let S : Bits s = subst Bits (sym is) (run-bits scramble tap c.state (given c.input c.bits)) in
      let O = laid c.output 0 s in
      let r = run-right c O room h (laid-length c.output 0 s) l in
      let n : length s ≡ c.bits = w.1.size ∙ length-take-le c.bits (bits_of c.input) (omega (arith, bits-length c.input, r.0, r.1)) in
      let there : given O c.bits ≡ s = laid-there c.output s c.bits S n r.1 in
      let v = ey.descrambled (call O) r.2 in
      let f : v.0 ≡ given c.input c.bits =
      descrambles-run tap t.0 t.1 c.state (given O c.bits) v.0 (take-bits c.bits (bits_of O) (bits-bits O)) v.1
      ∙ ap (run_of descramble tap c.state) (there ∙ is) ∙ (comes_back tap c.state (given c.input c.bits) F).0 in
      ap (λ (m : Outcome None Line). y.run descramble (call m.memory.output)) w.2 ∙ v.2
      ∙ ap₂ (λ (a b : List ℕ). done none (record { state = newest c.state a; output = laid room 0 b })) there f
      ∙ ap (λ (m : Outcome None Line). done none (record { state = m.memory.state; output = laid room 0 (given c.input c.bits) })) (sym w.2)

-- ---- precoding

module _ (x y : Library) (ex : Precoding x) (ey : Precoding y) where
  precoded-back : (c : PrecodeCall) (room : List ℕ) → Right (precode_checks c) → Octets c.symbols → length room ≡ length c.symbols
      → y.decode (record { coefficients = c.coefficients; history = c.history; symbols = (x.precode c).memory.room; room = room })
      ≡ done none (record { history = (x.precode c).memory.history; room = c.symbols })
  precoded-back c room h o l =
      let cs = numbers_of c.coefficients in
      let past = numbers_of c.history in
      let xs = numbers_of c.symbols in
      let ys = outputs_of cs past xs in
      let w = ex.precoded c h in
      let is : w.0 ≡ ys = sent-unique cs past xs w.0 ys w.1 (outputs-sent cs past xs) in
      let call : List ℕ → PrecodeCall = λ s. record { coefficients = c.coefficients; history = c.history; symbols = s; room = room } in
      let Y = number_octets ys in
      let n = answer (precode_checks (call Y)) in
      let p : PrecodesRun c.coefficients c.history c.symbols c.room 0 (number_octets (past_after_all past ys)) Y =
      record { answered = sym h; out = ys; turns = λ z. outputs-sent cs past xs; written = refl; past = refl } in
      let q = runs true c.coefficients c.history Y room in
      let d = run-done c.coefficients c.history c.symbols c.room h in
      let again : number_octets xs ≡ c.symbols = octets-kept c.symbols o (lengths-are c.coefficients c.history c.symbols c.room d.0).2 in
      let m : length room ≡ length Y = omega (arith, l, ap length again, octets-many xs, octets-many ys, outputs-length cs past xs) in
      let b = run-back-of c.coefficients c.history c.symbols c.room room 0 n _ Y _ _ o p refl q m in
      let v = ey.decoded (call Y) b.0 in
      let f : v.0 ≡ inputs_of cs past (numbers_of Y) = inputs_are cs past (numbers_of Y) v.0 (record { signals = v.2; sends = v.1 }) in
      let room-is : number_octets v.0 ≡ c.symbols = ap number_octets f ∙ sym (held-given n room (number_octets (inputs_of cs past (numbers_of Y))) b.0) ∙ b.1 in
      let past_is : number_octets (past_after_all past (numbers_of Y)) ≡ number_octets (past_after_all past ys) = sym (held-given n c.history (number_octets (past_after_all past (numbers_of Y))) b.0) ∙ b.2 in
      ap (λ (m : Outcome None Signal). y.decode (call m.memory.room)) w.2 ∙ ap (λ (z : List ℤ). y.decode (call (number_octets z))) is ∙ v.3
      ∙ ap₂ (λ (a b : List ℕ). done none (record { history = a; room = b })) past_is room-is
      ∙ ap (λ (z : List ℤ). done none (record { history = number_octets (past_after_all past z); room = c.symbols })) (sym is)
      ∙ ap (λ (m : Outcome None Signal). done none (record { history = m.memory.history; room = c.symbols })) (sym w.2)

-- ---- a frame that was sent, descrambled

-- a frame goes out as the frame of its fields, scrambled
sent-as : (x : Library) → Frames x → (c : SendCall) → Right (send_checks c) → SendsAs x c (frame_of c)
sent-as x ex c h =
    ⊎_elim (λ (e : c.kind ≡ 0). subst (SendsAs x c) (sym (ap written e)) (ex.training c e h))
    (λ (e : c.kind ≡ 1). subst (SendsAs x c) (sym (ap written e)) (ex.final c e h)) (kind-fit c (both_right c h).0)
  where
    written : ℕ → List ℕ
    written n = octets_of 529 (cond (eqb n 0) (training_bits c.count (numbers_of c.coefficients) c.a c.b c.vendor) (final_bits c.vendor))

module _ (x : Library) (ex : Frames x) (c : SendCall) (h : Right (send_checks c)) where
  abbrev X : Scrambler
  X = record { end = c.end; state = c.state }

  -- the scrambled bits are those of the definition
  sent-run : (sent-as x ex c h).0 ≡ run_of scramble (tap_of c.end) c.state (clocked (frame_of c))
  sent-run =
      let t = tap-range c.end in
      let w = sent-as x ex c h in
      scrambles-run (tap_of c.end) t.0 t.1 c.state (clocked (frame_of c)) w.0 w.1

  pub sent-out : (x.send c).memory.output ≡ frame_out scramble X (frame_of c)
  sent-out = ap (λ (m : Outcome None Line). m.memory.output) (sent-as x ex c h).2 ∙ ap (around (frame_of c)) sent-run

  -- the end is known, and the state is one
  pub ends-fit : (ltb 1 c.end ≡ false) × (leb (2 ^ 23) c.state ≡ false)
  ends-fit =
      let R = scramble_checks c in
      let one = none-applies 0 (not (eqb (length (frame_of c)) 529)) (drop 1 R) (both_right c h).1 in
      let two = none-applies 0 (not (eqb (length c.output) 529)) (drop 2 R) one.1 in
      let three = none-applies 1 (ltb 1 c.end) (drop 3 R) two.1 in
      (three.0, (none-applies 3 (leb (2 ^ 23) c.state) (drop 4 R) three.1).0)

  pub sent-state : (x.send c).memory.state ≡ after_of scramble (tap_of c.end) c.state (clocked (frame_of c))
  sent-state =
      ap (λ (m : Outcome None Line). m.memory.state) (sent-as x ex c h).2 ∙ ap (newest c.state) sent-run
      ∙ sym (scrambled-state (tap_of c.end) c.state (clocked (frame_of c)) (leb-false _ _ ends-fit.1))

  frame-comes-back : (y : Library) → Scrambling y → (room : List ℕ) → length room ≡ 529
      → heard_from x y c room ≡ done none (record { state = (x.send c).memory.state; output = frame_of c })
  frame-comes-back y ey room l =
      let tap = tap_of c.end in
      let t = tap-range c.end in
      let F = frame_of c in
      let lF = written-length c h in
      let o = written_small c h in
      let p = written-clear c h in
      let w = sent-as x ex c h in
      let call : List ℕ → FrameCall = λ f. record { end = c.end; state = c.state; frame = f; output = room } in
      let O = frame_out scramble X F in
      let R = frame_checks (call O) in
      let r : Right R =
      passed 1 (drop 1 R) (ap not (eq-eqb _ _ (octets-length 529 _))) ∙ passed 1 (drop 2 R) (ap not (eq-eqb _ _ l))
      ∙ passed 2 (drop 3 R) ends-fit.0 ∙ passed 4 (drop 4 R) ends-fit.1 ∙ passed 6 [] (ap not (eq-eqb _ _ (pad-out X F lF o p))) in
      let v = ey.frame_descrambled (call O) r in
      let f : v.0 ≡ run_of descramble tap c.state (clocked O) =
      descrambles-run tap t.0 t.1 c.state (clocked O) v.0 (take-bits 4213 (drop 14 (bits_of O)) (drop_bits 14 (bits_of O) (bits-bits O))) v.1 in
      ap (λ (m : List ℕ). y.descramble_frame (call m)) sent-out ∙ v.2
      ∙ ap₂ (λ (a b : List ℕ). done none (record { state = newest c.state a; output = b }))
      (received X F lF o p ∙ sym sent-run) (ap (around O) f ∙ frame_back X F lF o p)
      ∙ ap (λ (m : Outcome None Line). done none (record { state = m.memory.state; output = F })) (sym w.2)

-- and any number of them, one after the other
in_turn : (x y : Library) → Frames x → Scrambling y → (state : ℕ) (hs : List Hop) → AllSent x state hs → heard_in_turn x y state state hs ≡ sent_in_turn x state hs
unfolding heard_in_turn sent_in_turn
in_turn x y ex ey state [] (no_frame _) = refl
in_turn x y ex ey state (h ∷ hs) (one_frame _ _ _ r l rest) =
    let c = going_on h.call state in
    let e = frame-comes-back x ex c r y ey h.room l in
    let next = (x.send c).memory.state in
    ap₂ ◌∷◌ e (ap (λ (m : Outcome None Line). heard_in_turn x y next m.memory.state hs) e ∙ in_turn x y ex ey next hs rest)

-- ---- over the line

module _ (x y : Library) (ef : Frames x) (ry : Receives y) where
  received-back : ReceivedBack x y
  received-back c line ls h ll j n =
      let F = frame_of c in
      let f = ends-fit x ef c h in
      one-frame-given y ry c.end c.state F line ls (ltb-false 1 c.end f.0) (leb-false (2 ^ 23) c.state f.1) (written_small c h)
      (passed 1 (bit_refusals (bits_of F)) (ap not (eq-eqb _ _ (written-length c h))) ∙ written-good c h) ll
      (j ∙ ap (λ (s : List ℕ). reverse (digits_of 23 c.state) ++ take 4227 (bits_of s)) (sent-out x ef c h)) n

-- ---- the two sentences

pub interwork : (x y : Library) → Exact x → Exact y → Back x y
interwork x y ex ey =
    record {
      frame = λ c room h l. back c room h l;
      in_turn = in_turn x y ex.frames ey.scrambling;
      training = λ c room cs v s e h o l lc lv ls.
          ap (λ (m : Outcome None Line). y.read (record { frame = m.memory.output; coefficients = cs; vendor = v; reserved = s })) (back c room h l)
          ∙ training-back y ey.frames c cs v s (both_right c h).0 o lc lv ls e;
      final = λ c room cs v s e h o l lc lv ls.
          ap (λ (m : Outcome None Line). y.read (record { frame = m.memory.output; coefficients = cs; vendor = v; reserved = s })) (back c room h l)
          ∙ final-back y ey.frames c cs v s (both_right c h).0 o lc lv ls e;
      data_frames = data-interwork x y ex.data_frames ey.data_frames;
      messages = messages-interwork x y ex.messages ey.messages;
      bit = bit-back x y ex.scrambling ey.scrambling;
      run = run-back x y ex.scrambling ey.scrambling;
      received = received-back x y ex.frames ey.receiving;
      precoded = precoded-back x y ex.precoding ey.precoding;
    }
  where
    back : (c : SendCall) (room : List ℕ) → Right (send_checks c) → length room ≡ 529
        → heard_from x y c room ≡ done none (record { state = (x.send c).memory.state; output = frame_of c })
    back c room h l = frame-comes-back x ex.frames c h y ey.scrambling room l
