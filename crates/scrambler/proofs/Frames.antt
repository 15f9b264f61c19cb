-- A whole frame scrambled and descrambled is the frame again, with the sender's next state. Assumes nothing.
use mathlib.Core.Path.{◌≡◌, sym, ap, ap₂, ◌∙◌}
use mathlib.Core.List.{List, ◌++◌}
use Prim.Native.Nat.{ℕ, ◌*◌}
use native.Mathlib.Omega.{arith}
use lib.ListN.{length, take, drop, replicate, length-append, length-drop}
use lib.Seq.{length-take-le, take_all, take_at, drop_at, take-add, drop-drop}
use Rattle.octets.specs.Bits.{value_of, bits_of, octets_of, part}
use Rattle.octets.proofs.Digits.{Bits, append_bits, take-bits, drop_bits, zeros-bits, zeros-value, value-one}
use Rattle.octets.proofs.Laws.{Octets, bits-length, bits-bits, bits-octets, octets-bits}
use Rattle.octets.proofs.Fields.{part-is}
use Rattle.layout.specs.Places.{pad_field}
use Rattle.layout.specs.Frame.{field_of}
use Rattle.scrambler.specs.Ends.{tap_of}
use Rattle.recurrence.specs.Run.{run_of, after_of}
use Rattle.recurrence.specs.declared.Way.TheVariants.{Scramble as scramble, Descramble as descramble}
use Rattle.scrambler.specs.Promises.{clocked, frame_out}
use Rattle.scrambler.specs.declared.Scrambler.{Scrambler}
use Rattle.recurrence.proofs.Laws.{run_length, run-bits}
use Rattle.recurrence.proofs.Exactly.{back}

module _ (x : Scrambler) (frame : List ℕ) (l : length frame ≡ 529) (o : Octets frame) (p : value_of (field_of pad_field (bits_of frame)) ≡ 0) where
  abbrev B : List ℕ
  B = bits_of frame

  abbrev S : List ℕ
  S = part 0 14 B

  abbrev tap : ℕ
  tap = tap_of x.end

  abbrev R : List ℕ
  R = run_of scramble tap x.state (clocked frame)

  abbrev Z : List ℕ
  Z = replicate 5 0

  B-length : length B ≡ 4232
  B-length = bits-length frame ∙ ap (λ (n : ℕ). 8 * n) l

  S-length : length S ≡ 14
  S-length = length-take-le 14 B (omega (arith, B-length))

  clocked-length : length (clocked frame) ≡ 4213
  clocked-length = length-take-le 4213 (drop 14 B) (omega (arith, length-drop 14 B, B-length))

  clocked-bits : Bits (clocked frame)
  clocked-bits = take-bits 4213 (drop 14 B) (drop_bits 14 B (bits-bits frame))

  R-length : length R ≡ 4213
  R-length = run_length scramble tap x.state (clocked frame) ∙ clocked-length

  -- the frame is its sync bits, the clocked bits and a clear pad
  whole : B ≡ S ++ (clocked frame ++ Z)
  whole =
      let P = part 4227 5 B in
      let n : length P ≡ 5 = length-take-le 5 (drop 4227 B) (omega (arith, length-drop 4227 B, B-length)) in
      let z : P ≡ Z = value-one P Z (take-bits 5 (drop 4227 B) (drop_bits 4227 B (bits-bits frame))) (zeros-bits 5) n (p ∙ sym (zeros-value 5)) in
      sym (take_all 4232 B (omega (arith, B-length))) ∙ take-add 14 4218 B
      ∙ ap (λ (t : List ℕ). S ++ t) (take-add 4213 5 (drop 14 B) ∙ ap (λ (t : List ℕ). clocked frame ++ take 5 t) (drop-drop 4213 14 B) ∙ ap
      (λ (t : List ℕ). clocked frame ++ t) z)

  -- what was sent, as bits
  pub sent : bits_of (frame_out scramble x frame) ≡ S ++ (R ++ Z)
  sent =
      bits-octets 529 (S ++ (R ++ Z))
      (length-append S (R ++ Z) ∙ omega (arith, length-append R Z, S-length, R-length))
      (append_bits S (R ++ Z) (take-bits 14 B (bits-bits frame)) (append_bits R Z (run-bits scramble tap x.state (clocked frame)) (zeros-bits 5)))

  pub received : clocked (frame_out scramble x frame) ≡ R
  received = ap (part 14 4213) sent ∙ part-is S R Z 14 4213 S-length R-length

  -- and the pad
  pub pad-out : value_of (field_of pad_field (bits_of (frame_out scramble x frame))) ≡ 0
  pad-out =
      ap (λ (t : List ℕ). value_of (part 4227 5 t)) sent
      ∙ ap (λ (t : List ℕ). value_of (take 5 t))
      (sym (drop-drop 4213 14 (S ++ (R ++ Z))) ∙ ap (drop 4213) (drop_at S (R ++ Z) 14 S-length) ∙ drop_at R Z 4213 R-length)
      ∙ zeros-value 5

  pub frame_back : frame_out descramble x (frame_out scramble x frame) ≡ frame
  frame_back =
      ap₂ (λ (s r : List ℕ). octets_of 529 (s ++ (r ++ Z))) (ap (part 0 14) sent ∙ take_at S (R ++ Z) 14 S-length)
      (ap (run_of descramble tap x.state) received ∙ (back tap x.state (clocked frame) clocked-bits).0)
      ∙ ap (octets_of 529) (sym whole) ∙ ap (λ (n : ℕ). octets_of n B) (sym l) ∙ octets-bits frame o

  pub frame-state-back : after_of descramble tap x.state (clocked (frame_out scramble x frame)) ≡ after_of scramble tap x.state (clocked frame)
  frame-state-back = ap (after_of descramble tap x.state) received ∙ (back tap x.state (clocked frame) clocked-bits).1
