-- The first sentence of demand 2 holds of every library that keeps our contracts. Assumes nothing.
use mathlib.Core.Path.{◌≡◌, refl, sym, ap, ◌∙◌, subst}
use mathlib.Core.Bool.{Bool, cond}
use mathlib.Core.List.{List, [], ◌∷◌}
use Prim.Native.Nat.{ℕ, ◌^◌, ◌≤◌, ◌<◌}
use borrow.Author.Tests.{le-ltb, leb-false}
use lib.Dec.{eqb, ltb}
use lib.ListN.{drop}
use Rattle.answer.proofs.Laws.{given as held-given, passed}
use Rattle.octets.specs.Bits.{value_of, bits_of, octets_of, part, laid}
use Rattle.octets.proofs.Digits.{Bits, nil-bits, cons-bits, take-bits, drop_bits}
use Rattle.octets.proofs.Laws.{bits-bits}
use Rattle.layout.specs.Places.{a_field, b_field}
use Rattle.layout.specs.Frame.{training_bits, final_bits, field_of, coefficients_of}
use Rattle.numbers.specs.Promises.{numbers_of, number_octets}
use Rattle.scrambler.specs.Ends.{tap_of}
use Rattle.scrambler.specs.Promises.{given, clocked, around, frame_out}
use Rattle.recurrence.specs.Line.{Scrambles, Descrambles, newest}
use Rattle.recurrence.specs.Run.{out_of, next_of, run_of, after_of}
use Rattle.recurrence.specs.declared.Way.{Way}
use Rattle.recurrence.specs.declared.Way.TheVariants.{Scramble as scramble, Descramble as descramble}
use Rattle.scrambler.specs.declared.Scrambler.{Scrambler}
use Rattle.scrambler.proofs.Laws.{tap-range, run_sound, frame-sound}
use Rattle.scrambler.proofs.Frames.{frame_back}
use Rattle.layout.specs.Refusals.{RightCheck}
use Rattle.recurrence.proofs.Exactly.{run-scrambles, run-descrambles, scrambled-state, descrambled-state}
use Rattle.symbol.specs.declared.Encoder.{Encoder}
use Rattle.symbol.specs.Levels.{data_levels, level_at}
use Rattle.symbol.proofs.Levels.{code-of-level}
use Rattle.samples.specs.Shaper.{Exactly}
use Rattle.host.specs.declared.scrambling.Scrambled.{Scrambled}
use Rattle.host.specs.declared.scrambling.ScrambledBit.{ScrambledBit}
use Rattle.host.specs.declared.frames.FrameFields.{FrameFields}
use Rattle.host.specs.Frames.{found_of, coefficient_octets}
use Rattle.reader.specs.Promises.{vendor_octets, reserved_octets, reserved_left}
use Rattle.demands.specs.Handed.{Outcome, None, none, SendCall, ReadCall, Fields, Rooms, BitCall, RunCall, FrameCall, Line}
use Rattle.demands.specs.Library.{Library}
use Rattle.demands.specs.Contracts.{Keeps}
use Rattle.demands.specs.Checks.{frame_of, send_checks, read_checks, bit_checks, run_checks, frame_checks}
use Rattle.demands.specs.Frames.{Right, done, SendsAs, Frames, Scrambling}
use Rattle.demands.specs.Symbols.{Symbols, Precoding}
use Rattle.demands.specs.Two.{Exact}
use Rattle.demands.proofs.One.{only, same, nothing-sent, found-answer}
use Rattle.demands.proofs.DataTwo.{data-exact}
use Rattle.demands.proofs.EocTwo.{messages-exact}
use Rattle.demands.proofs.LineTwo.{receives}
use Rattle.demands.proofs.Fit.{both_right, written-length, written_small, written-clear, bit-fit}

-- ---- frames

-- what reading gives, by whether the frame is a training frame
abbrev read_as : Bool → List ℕ → List ℕ → List ℕ → Outcome Fields Rooms
read_as s bits old reserved =
    let f : FrameFields = cond s (record { answer = 0; kind = 0; a = value_of (field_of a_field bits); b = value_of (field_of b_field bits) }) (record { answer = 0; kind = 1; a = 0; b = 0 }) in
    done (record { kind = f.kind; a = f.a; b = f.b })
    (record { coefficients = cond s (number_octets (coefficients_of bits)) old; vendor = vendor_octets bits; reserved = cond s (reserved_octets bits) reserved })

-- bits of octets
part-of-bits : (s : List ℕ) (at n : ℕ) → Bits (part at n (bits_of s))
part-of-bits s at n = take-bits n (drop at (bits_of s)) (drop_bits at (bits_of s) (bits-bits s))

-- one bit is a run of one
module _ (tap state b : ℕ) (h : 1 ≤ tap) (l : tap ≤ 23) (lt : state < 2 ^ 23) (hb : b < 2) where
  bit-scrambles : Scrambles tap state (b ∷ []) (out_of tap state b ∷ []) × (next_of scramble tap state b ≡ newest state (out_of tap state b ∷ []))
  unfolding run_of after_of
  bit-scrambles = (run-scrambles tap h l state (b ∷ []) (cons-bits b [] hb nil-bits), scrambled-state tap state (b ∷ []) lt)

  bit-descrambles : Descrambles tap state (b ∷ []) (out_of tap state b ∷ []) × (next_of descramble tap state b ≡ newest state (b ∷ []))
  unfolding run_of after_of
  bit-descrambles =
      let B = cons-bits b [] hb nil-bits in
      (run-descrambles tap h l state (b ∷ []) B, descrambled-state tap state (b ∷ []) lt B)

module _ (x : Library) (k : Keeps x) where
  send-is : (c : SendCall) → Right (send_checks c) → x.send c ≡ done none
      (record {
        state = after_of scramble (tap_of c.end) c.state (clocked (frame_of c));
        output = around (frame_of c) (run_of scramble (tap_of c.end) c.state (clocked (frame_of c)));
      })
  send-is c h =
      let z : (x.send c).answer ≡ 0 = (k.send c refl).answered ∙ h in
      let s = (k.send c refl).next ∙ held-given _ _ _ z in
      let o = (k.send c refl).left ∙ held-given _ _ _ z in
      same z (only _) (λ i. record { state = s i; output = o i })

  sends : (c : SendCall) → Right (send_checks c) → SendsAs x c (frame_of c)
  sends c h =
      let t = tap-range c.end in
      let b = part-of-bits (frame_of c) 14 4213 in
      let lt = (frame-sound (record { end = c.end; state = c.state }) (frame_of c) c.output (both_right c h).1).2 in (
        run_of scramble (tap_of c.end) c.state (clocked (frame_of c)),
        run-scrambles (tap_of c.end) t.0 t.1 c.state (clocked (frame_of c)) b,
        send-is c h ∙ ap (λ (n : ℕ). done none (record {
          state =
              n;
          output = around (frame_of c) (run_of scramble (tap_of c.end) c.state (clocked (frame_of c)));
        }))
            (scrambled-state (tap_of c.end) c.state (clocked (frame_of c)) lt),
      )

  -- the frame by its kind
  of-kind : (c : SendCall) (n : ℕ) → c.kind ≡ n
      → frame_of c ≡ octets_of 529 (cond (eqb n 0) (training_bits c.count (numbers_of c.coefficients) c.a c.b c.vendor) (final_bits c.vendor))
  of-kind c n e =
      ap (λ (m : ℕ). octets_of 529 (cond (eqb m 0) (training_bits c.count (numbers_of c.coefficients) c.a c.b c.vendor) (final_bits c.vendor))) e

  -- what was sent is the frame, once it is descrambled
  under : (c : SendCall) (h : Right (send_checks c)) → frame_out descramble (record { end = c.end; state = c.state }) (x.send c).memory.output ≡ frame_of c
  under c h =
      let X : Scrambler = record { end = c.end; state = c.state } in
      ap (λ (o : Outcome None Line). frame_out descramble X o.memory.output) (send-is c h)
      ∙ frame_back X (frame_of c) (written-length c h) (written_small c h) (written-clear c h)

  read_done : (c : ReadCall) → Right (read_checks c) → x.read c ≡ done
      (record { kind = (found_of 0 (bits_of c.frame)).kind; a = (found_of 0 (bits_of c.frame)).a; b = (found_of 0 (bits_of c.frame)).b })
      (record {
        coefficients = coefficient_octets (bits_of c.frame) c.coefficients;
        vendor = vendor_octets (bits_of c.frame);
        reserved = reserved_left (bits_of c.frame) c.reserved;
      })
  read_done c h =
      let e = (k.read c refl).found ∙ ap (λ (n : ℕ). found_of n (bits_of c.frame)) h in
      let m = (k.read c refl).coefficients_held ∙ held-given _ _ _ h in
      let v = (k.read c refl).vendor_held ∙ held-given _ _ _ h in
      let s = (k.read c refl).reserved_held ∙ held-given _ _ _ h in
      same (ap (λ (f : FrameFields). f.answer) e ∙ found-answer 0 (bits_of c.frame)) (λ i. record {
        kind =
            (e i).kind;
        a = (e i).a;
        b = (e i).b;
      }) (λ i. record { coefficients = m i; vendor = v i; reserved = s i })

  pub frames : Frames x
  frames = record {
    training = λ c e h. subst (SendsAs x c) (of-kind c 0 e) (sends c h);
    final = λ c e h. subst (SendsAs x c) (of-kind c 1 e) (sends c h);
    check_bits_right = λ c h. subst (λ (f : List ℕ). RightCheck (bits_of f)) (sym (under c h)) ((k.send c refl).check_right ((k.send c refl).answered ∙ h));
    checked = λ f h. same ((k.check f refl).answered ∙ h) (only _) (only _);
    read_training = λ c h t. read_done c h ∙ ap (λ (s : Bool). read_as s (bits_of c.frame) c.coefficients c.reserved) t;
    read_final = λ c h t. read_done c h ∙ ap (λ (s : Bool). read_as s (bits_of c.frame) c.coefficients c.reserved) t;
  }

  -- ---- scrambling

  bit_is : (way : Way) (c : BitCall) → Right (bit_checks c)
      → x.bit way c ≡ done (out_of (tap_of c.end) c.state c.bit) (next_of way (tap_of c.end) c.state c.bit)
  bit_is way c h =
      let e = k.bit way c refl in
      same (ap (λ (r : ScrambledBit). r.answer) e ∙ h) (ap (λ (r : ScrambledBit). r.bit) e ∙ held-given _ _ _ h)
      (ap (λ (r : ScrambledBit). r.state) e ∙ held-given _ _ _ h)

  run_is : (way : Way) (c : RunCall) → Right (run_checks c) → x.run way c ≡ done none
      (record {
        state = after_of way (tap_of c.end) c.state (given c.input c.bits);
        output = laid c.output 0
            (run_of way (tap_of c.end) c.state (given c.input c.bits));
      })
  run_is way c h =
      let w = k.run way c refl in
      let z = w.answered ∙ h in
      let s = w.next ∙ held-given _ _ _ z in
      let o = w.left ∙ held-given _ _ _ z in
      same z (only _) (λ i. record { state = s i; output = o i })

  frame_is : (c : FrameCall) → Right (frame_checks c) → x.descramble_frame c ≡ done none
      (record {
        state = after_of descramble (tap_of c.end) c.state (clocked c.frame);
        output = around c.frame (run_of descramble (tap_of c.end) c.state (clocked c.frame));
      })
  frame_is c h =
      let w = k.descramble_frame c refl in
      let z = w.answered ∙ h in
      let s = w.next ∙ held-given _ _ _ z in
      let o = w.left ∙ held-given _ _ _ z in
      same z (only _) (λ i. record { state = s i; output = o i })

  pub scrambling : Scrambling x
  scrambling = record {
    started = λ end h.
        let e = k.scrambler_start end refl in
        same (ap (λ (r : Scrambled). r.answer) e ∙ h) (only _) (ap (λ (r : Scrambled). r.state) e);
    bit_scrambled = λ c h.
        let t = tap-range c.end in
        let f = bit-fit c h in
        let s = out_of (tap_of c.end) c.state c.bit in
        let w = bit-scrambles (tap_of c.end) c.state c.bit t.0 t.1 (leb-false _ _ f.1) f.2 in
        (s, w.0, bit_is scramble c h ∙ ap (λ (n : ℕ). done s n) w.1);
    bit_descrambled = λ c h.
        let t = tap-range c.end in
        let f = bit-fit c h in
        let g = out_of (tap_of c.end) c.state c.bit in
        let w = bit-descrambles (tap_of c.end) c.state c.bit t.0 t.1 (leb-false _ _ f.1) f.2 in
        (g, w.0, bit_is descramble c h ∙ ap (λ (n : ℕ). done g n) w.1);
    scrambled = λ c h.
        let t = tap-range c.end in
        let b = part-of-bits c.input 0 c.bits in
        let lt = (run_sound (record { end = c.end; state = c.state }) c.input c.bits c.output h).1 in (
          run_of scramble (tap_of c.end) c.state (given c.input c.bits),
          run-scrambles (tap_of c.end) t.0 t.1 c.state (given c.input c.bits) b,
          run_is scramble c h ∙ ap (λ (n : ℕ). done none (record {
            state =
                n;
            output = laid c.output 0 (run_of scramble (tap_of c.end) c.state (given c.input c.bits));
          }))
              (scrambled-state (tap_of c.end) c.state (given c.input c.bits) lt),
        );
    descrambled = λ c h.
        let t = tap-range c.end in
        let b = part-of-bits c.input 0 c.bits in
        let lt = (run_sound (record { end = c.end; state = c.state }) c.input c.bits c.output h).1 in (
          run_of descramble (tap_of c.end) c.state (given c.input c.bits),
          run-descrambles (tap_of c.end) t.0 t.1 c.state (given c.input c.bits) b,
          run_is descramble c h ∙ ap (λ (n : ℕ). done none (record {
            state =
                n;
            output = laid c.output 0 (run_of descramble (tap_of c.end) c.state (given c.input c.bits));
          }))
              (descrambled-state (tap_of c.end) c.state (given c.input c.bits) lt b),
        );
    frame_descrambled = λ c h.
        let t = tap-range c.end in
        let b = part-of-bits c.frame 14 4213 in
        let lt = (frame-sound (record { end = c.end; state = c.state }) c.frame c.output h).2 in (
          run_of descramble (tap_of c.end) c.state (clocked c.frame),
          run-descrambles (tap_of c.end) t.0 t.1 c.state (clocked c.frame) b,
          frame_is c h ∙ ap (λ (n : ℕ). done none (record {
            state =
                n;
            output = around c.frame (run_of descramble (tap_of c.end) c.state (clocked c.frame));
          }))
              (descrambled-state (tap_of c.end) c.state (clocked c.frame) lt b),
        );
  }

  -- ---- symbols

  pub symbols : Symbols x
  symbols = record {
    activation = λ b h. let z = (k.activation b refl).answered ∙ h in same z ((k.activation b refl).level ∙ held-given _ _ _ z) (only _);
    level = λ b h. let z = (k.level b refl).answered ∙ h in same z ((k.level b refl).level ∙ held-given _ _ _ z) (only _);
    code = λ b l.
        let p = code-of-level b l in
        let z = (k.code (level_at data_levels b) refl).answered ∙ passed 4 [] (ap (ltb 15) p ∙ le-ltb 15 b l) in
        same z ((k.code (level_at data_levels b) refl).code ∙ held-given _ _ _ z ∙ p) (only _);
    started = λ c h.
        same ((k.encoder_start c refl).answered ∙ h) (only _) (ap (λ (e : Encoder). e.register) (k.encoder_start c refl).next ∙ nothing-sent);
    encode = λ c h.
        let z = (k.encode c refl).answered ∙ h in
        let y = (k.encode c refl).code ∙ held-given _ _ _ z in
        let l = (k.encode c refl).level ∙ held-given _ _ _ z in
        same z (λ i. record { code = y i; sixteenths = l i }) (ap (λ (e : Encoder). e.register) ((k.encode c refl).next ∙ held-given _ _ _ z));
    encode_run = λ c h.
        let z = (k.encode_run c refl).answered ∙ h in
        let n = (k.encode_run c refl).next ∙ held-given _ _ _ z in
        let w = (k.encode_run c refl).written ∙ held-given _ _ _ z in
        same z (only _) (λ i. record { register = (n i).register; codes = w i });
  }

  -- ---- precoding

  pub precoding : Precoding x
  precoding = record {
    started = λ s h. let z = (k.history_start s refl).answered ∙ h in same z (only _) ((k.history_start s refl).left ∙ held-given _ _ _ z);
    precoded = λ c h.
        let p = k.precode c refl in
        let z = p.answered ∙ h in
        let m = p.past ∙ held-given _ _ _ z in
        let w = p.written ∙ held-given _ _ _ z in
        (p.out, p.turns z, same z (only _) (λ i. record { history = m i; room = w i }));
    decoded = λ c h.
        let p = k.decode c refl in
        let z = p.answered ∙ h in
        let m = p.past ∙ held-given _ _ _ z in
        let w = p.written ∙ held-given _ _ _ z in
        (p.out, (p.turns z).sends, (p.turns z).signals, same z (only _) (λ i. record { history = m i; room = w i }));
    shaped = λ y h. let z = (k.shape y refl).answered ∙ h in (z, subst (Exactly (x.shape y).numbers) (held-given _ _ _ z) (k.shape y refl).value);
  }

  pub exact : Exact x
  exact = record { frames = frames; data_frames = data-exact x k; messages = messages-exact x k; scrambling = scrambling; receiving = receives x k; symbols = symbols; precoding = precoding }
