-- What a call to which no check applies was handed. Assumes nothing.
use mathlib.Core.Path.{◌≡◌, refl, sym, ap, ◌∙◌}
use mathlib.Core.Bool.{Bool, true, false, not, ◌&&◌, ◌||◌, true≢false}
use mathlib.Core.Logic.{◌⊎◌, inl, inr}
use mathlib.Core.List.{List, []}
use Prim.Native.Nat.{ℕ, zero, suc, ◌/◌, ◌^◌, ◌≤◌, ◌<◌}
use native.Mathlib.Omega.{arith}
use borrow.Author.Tests.{eq-eqb, eqb-true, leb-true, ltb-false, not-false}
use lib.Dec.{eqb, ltb, leb}
use lib.ListN.{length, drop, take}
use Rattle.answer.specs.Answer.{answer}
use Rattle.answer.proofs.Laws.{none, passed}
use Rattle.octets.specs.Bits.{value_of, bits_of}
use Rattle.octets.proofs.Laws.{octets-length}
use Rattle.layout.specs.Places.{pad_field}
use Rattle.layout.specs.Frame.{field_of}
use Rattle.layout.specs.Refusals.{bit_refusals, write_refusals, RightCheck}
use Rattle.ranges.specs.Ranges.{is_coefficient, is_word, every}
use Rattle.ranges.proofs.Laws.{both}
use Rattle.numbers.specs.Promises.{numbers_of}
use Rattle.numbers.proofs.Laws.{numbers-many}
use Rattle.sender.proofs.Promise.{frame-check, good, frame_small, pad-clear}
use Rattle.sender.proofs.Sent.{neither as neither-refuses}
use Rattle.host.specs.Frames.{frame_read_refusals}
use Rattle.demands.specs.Handed.{SendCall, ReadCall, BitCall}
use Rattle.demands.specs.Checks.{frame_of, send_checks, write_checks, scramble_checks, read_checks, bit_checks}
use Rattle.demands.specs.Frames.{Right, Octets}

neither : (s t : Bool) → (s || t) ≡ false → (s ≡ false) × (t ≡ false)
neither true t e = absurd (true≢false e)
neither false t e = (refl, e)

-- 720 octets are 180 numbers
pub many : (os : List ℕ) → length os ≡ 720 → length (numbers_of os) ≡ 180
many os l = numbers-many os ∙ ap (λ (n : ℕ). n / 4) l

-- a training frame to send
pub record Fit (c : SendCall) : Type 0 where
  pub coefficients : length c.coefficients ≡ 720
  pub vendor : length c.vendor ≡ 16
  pub output : length c.output ≡ 529
  pub count : c.count ≤ 180
  pub range : every is_coefficient (take c.count (numbers_of c.coefficients)) ≡ true
  pub a : c.a ≤ 2097151
  pub b : c.b ≤ 2097151

-- what is not refused by sending is refused neither by writing nor by scrambling
pub both_right : (c : SendCall) → Right (send_checks c) → Right (write_checks c) × Right (scramble_checks c)
both_right c h =
    let W = write_refusals c.kind c.count (numbers_of c.coefficients) c.a c.b c.vendor c.output in
    let z = none 0 (not (eqb (length c.coefficients) 720)) (drop 1 (send_checks c)) h in
    let n = neither-refuses (record { end = c.end; state = c.state }) c.kind c.count (numbers_of c.coefficients) c.a c.b c.vendor c.output
    z.1 in
    (passed 1 W z.0 ∙ n.0, n.1)

-- the frame that is sent, as it is written: a good one, of 529 octets
module _ (c : SendCall) (h : Right (send_checks c)) where
  written : answer (write_refusals c.kind c.count (numbers_of c.coefficients) c.a c.b c.vendor c.output) ≡ 0
  written = (none 0 (not (eqb (length c.coefficients) 720)) (drop 1 (write_checks c)) (both_right c h).0).1

  pub written-right : RightCheck (bits_of (frame_of c))
  written-right = frame-check c.kind c.count (numbers_of c.coefficients) c.a c.b c.vendor c.output written

  pub written-good : answer (bit_refusals (bits_of (frame_of c))) ≡ 0
  written-good = good c.kind c.count (numbers_of c.coefficients) c.a c.b c.vendor c.output written

  pub written_small : Octets (frame_of c)
  written_small = frame_small c.kind c.count (numbers_of c.coefficients) c.a c.b c.vendor c.output written

  pub written-clear : value_of (field_of pad_field (bits_of (frame_of c))) ≡ 0
  written-clear = pad-clear c.kind c.count (numbers_of c.coefficients) c.a c.b c.vendor c.output written

  pub written-length : length (frame_of c) ≡ 529
  written-length = octets-length 529 _

-- the lengths, whatever the kind
module _ (c : SendCall) (h : Right (write_checks c)) where
  pub lengths-fit : (length c.coefficients ≡ 720) × (length c.vendor ≡ 16) × (length c.output ≡ 529)
      × (answer (drop 3 (write_refusals c.kind c.count (numbers_of c.coefficients) c.a c.b c.vendor c.output)) ≡ 0)
  lengths-fit =
      let L = write_refusals c.kind c.count (numbers_of c.coefficients) c.a c.b c.vendor c.output in
      let zero = none 0 (not (eqb (length c.coefficients) 720)) L h in
      let one = none 0 (not (eqb (length (numbers_of c.coefficients)) 180)) (drop 1 L) zero.1 in
      let two = none 0 (not (eqb (length c.vendor) 16)) (drop 2 L) one.1 in
      let three = none 0 (not (eqb (length c.output) 529)) (drop 3 L) two.1 in
      (eqb-true _ _ (not-false _ zero.0), eqb-true _ _ (not-false _ two.0), eqb-true _ _ (not-false _ three.0), three.1)

  pub training-fit : c.kind ≡ 0 → Fit c
  training-fit e =
      let l = lengths-fit in
      let L = write_refusals 0 c.count (numbers_of c.coefficients) c.a c.b c.vendor c.output in
      let z : answer (drop 3 L) ≡ 0 =
      ap (λ (k : ℕ). answer (drop 3 (write_refusals k c.count (numbers_of c.coefficients) c.a c.b c.vendor c.output))) (sym e) ∙ l.3 in
      let four = none 1 (ltb 1 0) (drop 4 L) z in
      let five = none 2 (ltb c.count 128 || ltb 180 c.count) (drop 5 L) four.1 in
      let six = none 3 (not (every is_coefficient (take c.count (numbers_of c.coefficients)))) (drop 6 L) five.1 in
      let seven = none 3 (not (is_word c.a && is_word c.b)) (drop 7 L) six.1 in
      let words = both (is_word c.a) (is_word c.b) (not-false _ seven.0) in
      record {
        coefficients = l.0;
        vendor = l.1;
        output = l.2;
        count = ltb-false 180 c.count (neither (ltb c.count 128) (ltb 180 c.count) five.0).1;
        range = not-false _ six.0;
        a = leb-true c.a 2097151 words.0;
        b = leb-true c.b 2097151 words.1;
      }

  -- a frame is a training frame or a final one
  pub kind-fit : (c.kind ≡ 0) ⊎ (c.kind ≡ 1)
  kind-fit =
      let L = write_refusals c.kind c.count (numbers_of c.coefficients) c.a c.b c.vendor c.output in
      one c.kind (ltb-false 1 c.kind (none 1 (ltb 1 c.kind) (drop 4 L) lengths-fit.3).0)
    where
      one : (k : ℕ) → k ≤ 1 → (k ≡ 0) ⊎ (k ≡ 1)
      one zero l = inl refl
      one (suc zero) l = inr refl
      one (suc (suc k)) l = absurd (omega (arith, l))

-- a frame to read
pub read-fit : (c : ReadCall) → Right (read_checks c)
    → (length c.coefficients ≡ 720) × (length c.frame ≡ 529) × (length c.vendor ≡ 16) × (answer (bit_refusals (bits_of c.frame)) ≡ 0)
read-fit c h =
    let L = frame_read_refusals c.frame c.coefficients c.vendor c.reserved in
    let one = none 0 (not (eqb (length c.coefficients) 720)) (drop 1 L) h in
    let two = none 0 (not (eqb (length c.frame) 529)) (drop 2 L) one.1 in
    let three = none 0 (not (eqb (length c.vendor) 16)) (drop 3 L) two.1 in
    let four = none 0 (not (eqb (length c.reserved) 9)) (drop 4 L) three.1 in
    (eqb-true _ _ (not-false _ one.0), eqb-true _ _ (not-false _ two.0), eqb-true _ _ (not-false _ three.0), four.1)

-- and back: a frame of these bits in rooms of the right lengths
pub read_right : (c : ReadCall) → length c.coefficients ≡ 720 → length c.frame ≡ 529 → length c.vendor ≡ 16
    → length c.reserved ≡ 9 → answer (bit_refusals (bits_of c.frame)) ≡ 0 → Right (read_checks c)
read_right c l m n k z =
    let L = frame_read_refusals c.frame c.coefficients c.vendor c.reserved in
    passed 1 (drop 1 L) (ap not (eq-eqb _ _ l)) ∙ passed 1 (drop 2 L) (ap not (eq-eqb _ _ m)) ∙ passed 1 (drop 3 L) (ap not (eq-eqb _ _ n))
    ∙ passed 1 (drop 4 L) (ap not (eq-eqb _ _ k)) ∙ z

-- a bit to scramble or to descramble
pub bit-fit : (c : BitCall) → Right (bit_checks c) → (ltb 1 c.end ≡ false) × (leb (2 ^ 23) c.state ≡ false) × (c.bit < 2)
bit-fit c h =
    let R = bit_checks c in
    let two = none 1 (ltb 1 c.end) (drop 1 R) h in
    let four = none 3 (leb (2 ^ 23) c.state) (drop 2 R) two.1 in
    let bit = none 3 (ltb 1 c.bit) [] four.1 in
    (two.0, four.0, omega (arith, ltb-false 1 c.bit bit.0))
