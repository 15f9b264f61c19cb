-- What follows from the demands, for a library of any make that meets them. Assumes nothing.
use mathlib.Core.Path.{◌≡◌, refl, sym, ap, ap₂, ◌∙◌}
use mathlib.Core.Bool.{Bool, true, false, cond, not, ◌&&◌, true≢false}
use mathlib.Core.Logic.{◌⊎◌, ⊎_elim}
use mathlib.Core.List.{List, [], ◌∷◌}
use Prim.Native.Nat.{ℕ, zero, suc, ◌*◌, ◌^◌, ◌≤◌, ◌<◌}
use native.Mathlib.Omega.{arith}
use borrow.Author.Tests.{eq-eqb, eqb-true, le-leb, lt-leb, le-ltb, not-false}
use lib.Dec.{eqb, lit≤}
use lib.IntN.{ℤ}
use lib.ListN.{length, drop, take, replicate, length-replicate}
use lib.Seq.{take_all}
use Rattle.answer.specs.Answer.{Refusal, refuse, answer}
use Rattle.answer.proofs.Laws.{none, passed}
use Rattle.answer.proofs.Order.{eight-unused as eight-unused-in-table}
use Rattle.octets.specs.Bits.{value_of, bits_of, octets_of, part}
use Rattle.octets.specs.Signed.{signed_of, numbers_in}
use Rattle.ranges.specs.Ranges.{is_coefficient, every}
use Rattle.ranges.proofs.Laws.{mag-range, mag-at}
use Rattle.octets.proofs.Complement.{signed_range}
use Rattle.octets.proofs.Digits.{Bits, drop_bits, value-part}
use Rattle.octets.proofs.Laws.{octets-length, bits-length, bits-bits, octets-bits}
use Rattle.octets.proofs.Numbers.{numbers-length}
use Rattle.remainder.specs.Errors.{flipped}
use Rattle.layout.specs.Places.{coefficients_field, a_field, b_field, vendor_field}
use Rattle.layout.specs.Frame.{training_sync, sync_word, training_bits, final_bits, frame_bits, field_of, coefficients_of}
use Rattle.layout.specs.Refusals.{has_sync, bit_refusals}
use Rattle.checker.proofs.Laws.{checked}
use Rattle.layout.proofs.RoundTrip.{training-laid, training-answers, final-laid, final-answers, final-vendor, a_back, b-back, used-back, vendor-back, sound, field-bits, free, free-laid, training-again, only-clear-again}
use Rattle.layout.proofs.OneBit.{one_bit}
use Rattle.reader.specs.Promises.{reserved_octets}
use Rattle.layout.proofs.Reserved.{reserved-bits, reserved-tell, clear-octets, octets-clear}
use Rattle.distance.specs.Errors.{Few, Burst}
use Rattle.distance.proofs.Frames.{changed-checked}
use Rattle.numbers.specs.Promises.{numbers_of, number_octets}
use Rattle.numbers.proofs.Laws.{octets-many, numbers-kept}
use Rattle.sender.specs.Promises.{least_of}
use Rattle.sender.proofs.Together.{least-one, together}
use Rattle.demands.specs.Handed.{Outcome, None, SendCall, ReadCall, Fields, Rooms, FrameCall, Line}
use Rattle.demands.specs.Library.{Library}
use Rattle.demands.specs.One.{Answers, One}
use Rattle.demands.specs.Checks.{frame_of, send_checks, write_checks, scramble_checks}
use Rattle.demands.specs.Frames.{Right, Octets, Trains}
use Rattle.demands.specs.Two.{Two}
use Rattle.demands.specs.Unused.{NeverEight, EightUnused}
use Rattle.demands.specs.Follow.{SameFields, BothTogether, sent_again, SentAgain, HandsReserved}
use Rattle.demands.specs.Back.{heard_from}
use Rattle.demands.proofs.Fit.{many, both_right, lengths-fit, training-fit, kind-fit, read-fit, read_right}

-- ---- what sending refuses

pub both-together : (x : Library) → One x → BothTogether x
both-together x one c = one.send.first c ∙ pick (not (eqb (length c.coefficients) 720))
  where
    pick : (t : Bool) → answer (refuse 1 t ∷ drop 1 (send_checks c)) ≡ least_of (answer (refuse 1 t ∷ drop 1 (write_checks c))) (answer (scramble_checks c))
    pick true = least-one (answer (scramble_checks c))
    pick false =
        together (record { end = c.end; state = c.state }) c.kind c.count (numbers_of c.coefficients) c.a c.b c.vendor c.output

-- ---- nothing is lost

-- a frame's octets by its kind
abbrev written : SendCall → ℕ → List ℕ
written c n = octets_of 529 (cond (eqb n 0) (training_bits c.count (numbers_of c.coefficients) c.a c.b c.vendor) (final_bits c.vendor))

-- its bits, and whether it begins as a training frame does
module _ (c : SendCall) (h : Right (write_checks c)) where
  training-bits-of : c.kind ≡ 0
      → (bits_of (frame_of c) ≡ training_bits c.count (numbers_of c.coefficients) c.a c.b c.vendor) × (has_sync training_sync (bits_of (frame_of c)) ≡ true)
  training-bits-of e =
      let f = training-fit c h e in
      let n = many c.coefficients f.coefficients in
      let b = ap (λ (k : ℕ). bits_of (written c k)) e ∙ training-laid c.count (numbers_of c.coefficients) c.a c.b c.vendor f.count n f.vendor in
      (b, ap (has_sync training_sync) b ∙ (training-answers c.count (numbers_of c.coefficients) c.a c.b c.vendor f.count n f.vendor).1)

  final-bits-of : c.kind ≡ 1 → (bits_of (frame_of c) ≡ final_bits c.vendor) × (has_sync training_sync (bits_of (frame_of c)) ≡ false)
  final-bits-of e =
      let l = (lengths-fit c h).1 in
      let b = ap (λ (k : ℕ). bits_of (written c k)) e ∙ final-laid c.vendor l in
      (b, ap (has_sync training_sync) b ∙ (final-answers c.vendor l).1)

-- two frames that are the same were made of the same fields
module _ (c d : SendCall) (hc : Right (write_checks c)) (hd : Right (write_checks d)) (oc : Octets c.vendor) (od : Octets d.vendor)
    (e : frame_of c ≡ frame_of d) where
  abbrev p : List ℤ
  p = numbers_of c.coefficients

  abbrev q : List ℤ
  q = numbers_of d.coefficients

  same-training : c.kind ≡ 0 → d.kind ≡ 0 → SameFields c d
  same-training ec ed =
      let f = training-fit c hc ec in
      let g = training-fit d hd ed in
      let l = many c.coefficients f.coefficients in
      let m = many d.coefficients g.coefficients in
      let t : training_bits c.count p c.a c.b c.vendor ≡ training_bits d.count q d.a d.b d.vendor =
      sym (training-bits-of c hc ec).0 ∙ ap bits_of e ∙ (training-bits-of d hd ed).0 in
      record {
        same_kind = ec ∙ sym ed;
        same_vendor = sym (vendor-back c.count p c.a c.b c.vendor f.count l f.vendor oc) ∙ ap (λ (b : List ℕ). octets_of 16 (field_of vendor_field b)) t
            ∙ vendor-back d.count q d.a d.b d.vendor g.count m g.vendor od;
        same_a = λ k. sym (a_back c.count p c.a c.b c.vendor f.count l f.vendor f.a) ∙ ap (λ (b : List ℕ). value_of (field_of a_field b)) t
            ∙ a_back d.count q d.a d.b d.vendor g.count m g.vendor g.a;
        same_b = λ k. sym (b-back c.count p c.a c.b c.vendor f.count l f.vendor f.b) ∙ ap (λ (b : List ℕ). value_of (field_of b_field b)) t
            ∙ b-back d.count q d.a d.b d.vendor g.count m g.vendor g.b;
        same_coefficients = λ k. sym (used-back c.count p c.a c.b c.vendor f.count l f.vendor f.range) ∙ ap coefficients_of t
            ∙ used-back d.count q d.a d.b d.vendor g.count m g.vendor g.range;
      }

  same-final : c.kind ≡ 1 → d.kind ≡ 1 → SameFields c d
  same-final ec ed =
      let t : final_bits c.vendor ≡ final_bits d.vendor = sym (final-bits-of c hc ec).0 ∙ ap bits_of e ∙ (final-bits-of d hd ed).0 in
      record {
        same_kind = ec ∙ sym ed;
        same_vendor = sym (final-vendor c.vendor (lengths-fit c hc).1 oc) ∙ ap (λ (b : List ℕ). octets_of 16 (field_of vendor_field b)) t
            ∙ final-vendor d.vendor (lengths-fit d hd).1 od;
        same_a = λ k. absurd (omega arith);
        same_b = λ k. absurd (omega arith);
        same_coefficients = λ k. absurd (omega arith);
      }

  same-fields : SameFields c d
  same-fields =
      ⊎_elim
      (λ (ec : c.kind ≡ 0). ⊎_elim (λ (ed : d.kind ≡ 0). same-training ec ed) (λ (ed : d.kind ≡ 1).
      absurd (true≢false (sym (training-bits-of c hc ec).1 ∙ ap (λ (f : List ℕ). has_sync training_sync (bits_of f)) e ∙ (final-bits-of d hd ed).1))) (kind-fit d hd))
      (λ (ec : c.kind ≡ 1). ⊎_elim (λ (ed : d.kind ≡ 0).
      absurd (true≢false (sym (training-bits-of d hd ed).1 ∙ ap (λ (f : List ℕ). has_sync training_sync (bits_of f)) (sym e) ∙ (final-bits-of c hc ec).1)))
      (λ (ed : d.kind ≡ 1). same-final ec ed) (kind-fit d hd))
      (kind-fit c hc)

-- two sends with the same end and state that leave the same frame on the line were given the same fields
pub nothing-lost : (x : Library) → Two x → (c d : SendCall) → c.end ≡ d.end → c.state ≡ d.state → Right (send_checks c) → Right (send_checks d)
    → Octets c.vendor → Octets d.vendor → (x.send c).memory.output ≡ (x.send d).memory.output → SameFields c d
nothing-lost x two c d ee es hc hd oc od e =
    let room : List ℕ = replicate 529 0 in
    let heard : SendCall → Outcome None Line = λ k. heard_from x x k room in
    let call : ℕ → ℕ → List ℕ → FrameCall = λ end state f. record { end = end; state = state; frame = f; output = room } in
    let same : heard c ≡ heard d =
    ap₂ (λ (m n : ℕ). x.descramble_frame (call m n (x.send c).memory.output)) ee es
    ∙ ap (λ (f : List ℕ). x.descramble_frame (call d.end d.state f)) e in
    same-fields c d (both_right c hc).0 (both_right d hd).0 oc od
    (sym (ap (λ (m : Outcome None Line). m.memory.output) (two.back.frame c room hc (length-replicate {A = ℕ} 529 0)))
    ∙ ap (λ (m : Outcome None Line). m.memory.output) same
    ∙ ap (λ (m : Outcome None Line). m.memory.output) (two.back.frame d room hd (length-replicate {A = ℕ} 529 0)))

-- ---- a frame that was read is sent again

-- 22 bits of two's complement are in range
numbers-range : (n : ℕ) (bits : List ℕ) → Bits bits → every is_coefficient (numbers_in 22 n bits) ≡ true
unfolding numbers_in every
numbers-range zero bits h = refl
numbers-range (suc n) bits h =
    rw (mag-range 2097151 (signed_of 22 (value_of (take 22 bits))) (omega (arith, signed_range 22 (value_of (take 22 bits)) (lit≤ tt) (value-part 22 bits h))))
    (numbers-range n (drop 22 bits) (drop_bits 22 bits h))

module _ (x : Library) (two : Two x) (c : ReadCall) (end state : ℕ) (line room : List ℕ) (o : Octets c.frame) (trains : Trains c) (he : end ≤ 1)
    (hs : state < 2 ^ 23) (ll : length line ≡ 529) (lr : length room ≡ 529) where
  abbrev B : List ℕ
  B = bits_of c.frame

  abbrev T : List ℕ
  T = training_bits 180 (coefficients_of B) (value_of (field_of a_field B)) (value_of (field_of b_field B)) (octets_of 16 (field_of vendor_field B))

  frame-length : length c.frame ≡ 529
  frame-length = (read-fit c trains.0).1

  bits-many : length B ≡ 4232
  bits-many = bits-length c.frame ∙ ap (λ (k : ℕ). 8 * k) frame-length

  many-coefficients : length (coefficients_of B) ≡ 180
  many-coefficients = numbers-length 22 180 (field_of coefficients_field B)

  -- what is sent again is a training frame of the fields that were read
  resent : sent_again x c end state line room ≡ octets_of 529 T
  resent =
      let hB = bits-bits c.frame in
      let cs = coefficients_of B in
      let l = many-coefficients in
      let all : every is_coefficient cs ≡ true = numbers-range 180 (field_of coefficients_field B) (field-bits B bits-many hB 14 3960) in
      let w : SendCall = record {
        end = end;
        state = state;
        kind = 0;
        count = 180;
        coefficients = number_octets cs;
        a = value_of (field_of a_field B);
        b = value_of (field_of b_field B);
        vendor = octets_of 16 (field_of vendor_field B);
        output = line;
      } in
      let n : numbers_of (number_octets cs) ≡ cs = numbers-kept cs (λ i. omega (arith, mag-at 2097151 cs i all)) in
      let R = drop 1 (send_checks w) in
      let word : (at : ℕ) → value_of (part at 21 B) ≤ 2097151 = λ at. omega (arith, value-part 21 (drop at B) (drop_bits at B hB)) in
      let right : Right (send_checks w) =
      passed 1 R (ap not (eq-eqb _ _ (octets-many cs ∙ ap (λ (k : ℕ). 4 * k) l)))
      ∙ passed 1 (drop 1 R) (ap not (eq-eqb _ _ (ap length n ∙ l)))
      ∙ passed 1 (drop 2 R) (ap not (eq-eqb _ _ (octets-length 16 (field_of vendor_field B))))
      ∙ passed 1 (drop 3 R) (ap not (eq-eqb _ _ ll))
      ∙ passed 2 (drop 5 R) (le-ltb 1 end he)
      ∙ passed 4 (drop 7 R) (ap (λ (zs : List ℤ). not (every is_coefficient (take 180 zs))) n
      ∙ ap (λ (zs : List ℤ). not (every is_coefficient zs)) (take_all 180 cs (omega arith)) ∙ ap not all)
      ∙ passed 4 (drop 8 R) (ap not (ap₂ ◌&&◌ (le-leb w.a 2097151 (word 3974)) (le-leb w.b 2097151 (word 3995))))
      ∙ passed 4 [] (lt-leb (2 ^ 23) state hs) in
      let call : Outcome Fields Rooms → SendCall = λ r. record {
        end = end;
        state = state;
        kind = 0;
        count = 180;
        coefficients = r.memory.coefficients;
        a = r.numbers.a;
        b = r.numbers.b;
        vendor = r.memory.vendor;
        output = line;
      } in
      ap (λ (r : Outcome Fields Rooms). (heard_from x x (call r) room).memory.output) (two.exact.frames.read_training c trains.0 trains.1)
      ∙ ap (λ (m : Outcome None Line). m.memory.output) (two.back.frame w room right lr)
      ∙ ap (λ (zs : List ℤ). octets_of 529 (training_bits 180 zs w.a w.b w.vendor)) n

  -- a training frame that reads with answer 0 is, octet for octet, what comes back of its fields sent with count 180, exactly where no reserved bit is set
  pub sent-again : SentAgain x c end state line room
  sent-again =
      let handed = ap (λ (r : Outcome Fields Rooms). r.memory.reserved) (two.exact.frames.read_training c trains.0 trains.1) in
      let hB = bits-bits c.frame in
      let laid = training-laid 180 (coefficients_of B) (value_of (field_of a_field B)) (value_of (field_of b_field B)) (octets_of 16 (field_of vendor_field B)) (lit≤ tt)
      many-coefficients (octets-length 16 (field_of vendor_field B)) in
      record {
        same = λ z.
            resent
            ∙ ap (octets_of 529) (sym (training-again B bits-many hB (sound B (read-fit c trains.0).3) trains.1
            (octets-clear c.frame frame-length (sym handed ∙ z))))
            ∙ ap (λ (k : ℕ). octets_of k B) (sym frame-length) ∙ octets-bits c.frame o;
        only = λ e.
            handed ∙ clear-octets c.frame frame-length (only-clear-again B bits-many hB (ap bits_of (sym e ∙ resent) ∙ laid));
      }

-- ---- the reserved bits that are handed back

module _ (x : Library) (two : Two x) where
  handed-back : (c : ReadCall) → Trains c → (x.read c).memory.reserved ≡ reserved_octets (bits_of c.frame)
  handed-back c t = ap (λ (r : Outcome Fields Rooms). r.memory.reserved) (two.exact.frames.read_training c t.0 t.1)

  pub hands-reserved : HandsReserved x
  hands-reserved = record {
    bits = λ c t. ap bits_of (handed-back c t) ∙ reserved-bits c.frame (read-fit c t.0).1;
    tell = λ c d t u e.
        reserved-tell c.frame (read-fit c t.0).1 d.frame (read-fit d u.0).1 (sym (handed-back c t) ∙ e ∙ handed-back d u);
  }

-- ---- check

module _ (x : Library) (one : One x) where
  -- a frame with any one of its bits changed no longer answers 0
  pub changed-refused : (frame frame' : List ℕ) (i : ℕ) → i < 4232 → bits_of frame' ≡ flipped (bits_of frame) i → (x.check frame).answer ≡ 0 → (x.check frame').answer ≡ 0 → ⊥
  changed-refused frame frame' i h e c c' =
      let a = none 0 (not (eqb (length frame) 529)) (bit_refusals (bits_of frame)) (sym (one.check.first frame) ∙ c) in
      let b = none 0 (not (eqb (length frame') 529)) (bit_refusals (bits_of frame')) (sym (one.check.first frame') ∙ c') in
      one_bit (bits_of frame) i (bits-length frame ∙ ap (λ (k : ℕ). 8 * k) (eqb-true _ _ (not-false _ a.0))) (bits-bits frame) h a.1
      (sym (ap (λ (s : List ℕ). answer (bit_refusals s)) e) ∙ b.1)

  -- one, two or three wrong bits, and a burst of up to 16, in bits 15 to 4,227 of a frame that answers 0 make it answer 7
  pub wrong-bits-seen : (frame frame' : List ℕ) → length frame' ≡ 529 → Few (bits_of frame) (bits_of frame') ⊎ Burst (bits_of frame) (bits_of frame')
      → (x.check frame).answer ≡ 0 → (x.check frame').answer ≡ 7
  wrong-bits-seen frame frame' l f c =
      changed-checked frame frame' l f (checked (sym c ∙ one.check.first frame)) (x.check frame').answer (checked (one.check.first frame'))

  -- any message under its own check bits answers 0, behind either sync word: reserved bits may be any, and so may all of a final frame's payload
  pub free-payload : (training : Bool) (m : List ℕ) → length m ≡ 4197 → Bits m → (x.check (octets_of 529 (frame_bits (sync_word training) m))).answer ≡ 0
  free-payload t m l h =
      let F = octets_of 529 (frame_bits (sync_word t) m) in
      one.check.first F
      ∙ passed 1 (bit_refusals (bits_of F)) (ap not (eq-eqb _ _ (octets-length 529 (frame_bits (sync_word t) m))))
      ∙ ap (λ (b : List ℕ). answer (bit_refusals b)) (free-laid t m l h) ∙ (free t m l h).0

  -- and is read
  pub free-read : (training : Bool) (m cs v s : List ℕ) → length m ≡ 4197 → Bits m → length cs ≡ 720 → length v ≡ 16 → length s ≡ 9
      → (x.read (record { frame = octets_of 529 (frame_bits (sync_word training) m); coefficients = cs; vendor = v; reserved = s })).answer ≡ 0
  free-read t m cs v s l h lc lv ls =
      let c : ReadCall = record { frame = octets_of 529 (frame_bits (sync_word t) m); coefficients = cs; vendor = v; reserved = s } in
      one.read.first c
      ∙ read_right c lc (octets-length 529 (frame_bits (sync_word t) m)) lv ls
      (ap (λ (b : List ℕ). answer (bit_refusals b)) (free-laid t m l h) ∙ (free t m l h).0)

  -- 8 is not used
  never : {C N M : Type 0} {f : C → Outcome N M} {checks : C → List Refusal} {before : C → M} {nothing : N} → Answers f checks before nothing → NeverEight f
  never {f = f} a c e = eight-unused-in-table (f c).answer (a.in_the_table c) e

  pub eight-unused : EightUnused x
  eight-unused = record {
    send = never one.send;
    check = never one.check;
    read = never one.read;
    data_write = never one.data_write;
    data_crc = never one.data_crc;
    data_check = never one.data_check;
    data_read = never one.data_read;
    eoc_write = never one.eoc_write;
    eoc_read = never one.eoc_read;
    eoc_hand_up = never one.eoc_hand_up;
    scrambler_start = never one.scrambler_start;
    bit = λ way. never (one.bit way);
    run = λ way. never (one.run way);
    descramble_frame = never one.descramble_frame;
    receive_start = never one.receive_start;
    receive = never one.receive;
    activation = never one.activation;
    level = never one.level;
    code = never one.code;
    encoder_start = never one.encoder_start;
    encode = never one.encode;
    encode_run = never one.encode_run;
    history_start = never one.history_start;
    precode = never one.precode;
    decode = never one.decode;
    shape = never one.shape;
    start = never one.start;
    step = never one.step;
    run_codes = never one.run_codes;
  }
