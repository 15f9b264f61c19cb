-- Laws of steps, runs and frames. Assumes nothing.
use mathlib.Core.Path.{◌≡◌, refl, sym, ap, ap₂, subst, ◌∙◌}
use mathlib.Core.Bool.{Bool, true, false, cond, not}
use mathlib.Core.List.{List, ◌++◌, append_assoc}
use Prim.Native.Nat.{ℕ, ◌+◌, ◌*◌, ◌/◌, ◌%◌, ◌^◌, ◌≤◌, ◌<◌}
use native.Mathlib.Omega.{arith}
use borrow.Author.Tests.{lt-ltb, le-ltb, ltb-false, leb-false, eqb-true, not-false}
use lib.Dec.{ltb, leb, eqb}
use lib.ListN.{length, drop, replicate, length-append, length-drop}
use lib.Seq.{length-take-le}
use Rattle.std.specs.Prelude.{Result, Ok, Err}
use Rattle.answer.specs.Answer.{answer}
use Rattle.answer.specs.declared.Refused.{Refused}
use Rattle.answer.proofs.Laws.{none}
use Rattle.octets.specs.Bits.{bits_of, octets_of, part, laid}
use Rattle.octets.proofs.Digits.{append_bits, take-bits}
use Rattle.octets.proofs.Laws.{bits-length, bits-bits, laid_next, laid_end}
use Rattle.recurrence.specs.Run.{run_of}
use Rattle.recurrence.specs.declared.Way.{Way}
use Rattle.recurrence.specs.Promises as OnLine
use Rattle.recurrence.proofs.Answers.{run-complete, run-given}
use Rattle.recurrence.proofs.Laws.{run_length, run-bits}
use Rattle.scrambler.specs.Ends.{tap_of}
use Rattle.scrambler.specs.Promises.{run_refusals, frame_refusals, clocked, frame_out, ClockedPromise, FramePromise}
use Rattle.scrambler.specs.declared.Scrambler.{Scrambler}

pub tap-range : (end : ℕ) → (1 ≤ tap_of end) × (tap_of end ≤ 23)
tap-range end = pick (eqb end 0)
  where
    pick : (t : Bool) → (1 ≤ cond t 5 18) × (cond t 5 18 ≤ 23)
    pick true = omega arith
    pick false = omega arith

-- ---- lengths

-- octets that hold so many bits
pub room-short : (l bits : ℕ) → l < bits / 8 + (bits % 8 + 7) / 8 → ltb (8 * l) bits ≡ true
room-short l bits h = lt-ltb (8 * l) bits (omega arith)

pub room-enough : (l bits : ℕ) → bits / 8 + (bits % 8 + 7) / 8 ≤ l → ltb (8 * l) bits ≡ false
room-enough l bits h = le-ltb (8 * l) bits (omega arith)

-- ---- a run

module _ (x : Scrambler) (input : List ℕ) (bits : ℕ) (output : List ℕ) where
  pub run_sound : answer (run_refusals x input bits output) ≡ 0 → (bits ≤ 8 * length input) × (x.state < 2 ^ 23)
  run_sound e =
      let R = run_refusals x input bits output in
      let one = none 0 _ (drop 1 R) e in
      let same = none 0 (not (eqb (length input) (length output))) (drop 2 R) one.1 in
      let two = none 1 (ltb 1 x.end) (drop 3 R) same.1 in
      let four = none 3 _ (drop 4 R) two.1 in
      (ltb-false _ _ one.0, leb-false _ _ four.0)

-- ---- a whole frame

-- the scrambler of an end to go on with, with the state that the line's run gives
abbrev pub framed : ℕ → Result ℕ Refused → Result Scrambler Refused
framed end (Ok n) = Ok (record { end = end; state = n })
framed end (Err e) = Err e

module _ (x : Scrambler) (frame output : List ℕ) where
  pub frame-sound : answer (frame_refusals x frame output) ≡ 0 → (length frame ≡ 529) × (length output ≡ 529) × (x.state < 2 ^ 23)
  frame-sound e =
      let R = frame_refusals x frame output in
      let one = none 0 (not (eqb (length frame) 529)) (drop 1 R) e in
      let same = none 0 (not (eqb (length output) 529)) (drop 2 R) one.1 in
      let two = none 1 (ltb 1 x.end) (drop 3 R) same.1 in
      let four = none 3 (leb (2 ^ 23) x.state) (drop 4 R) two.1 in
      (eqb-true _ _ (not-false _ one.0), eqb-true _ _ (not-false _ same.0), leb-false _ _ four.0)

  -- sync, the run behind it, the pad
  frame-done : (way : Way) (s₁ s₂ s₃ : List ℕ) → length frame ≡ 529 → length output ≡ 529
      → s₁ ≡ laid output 0 (part 0 14 (bits_of frame)) → s₂ ≡ laid s₁ 14 (run_of way (tap_of x.end) x.state (clocked frame))
      → s₃ ≡ laid s₂ 4227 (replicate 5 0)
      → s₃ ≡ frame_out way x frame
  frame-done way s₁ s₂ s₃ lf lo e₁ e₂ e₃ =
      let B = bits_of frame in
      let S = part 0 14 B in
      let R = run_of way (tap_of x.end) x.state (clocked frame) in
      let Z : List ℕ = replicate 5 0 in
      let lB : length B ≡ 4232 = bits-length frame ∙ ap (λ (n : ℕ). 8 * n) lf in
      let lS : 0 + length S ≡ 14 = omega (arith, length-take-le 14 B (omega arith)) in
      let lR : length R ≡ 4213 =
      run_length way (tap_of x.end) x.state (clocked frame) ∙ length-take-le 4213 (drop 14 B) (omega (arith, length-drop 14 B)) in
      let bS = take-bits 14 B (bits-bits frame) in
      let lSR : 0 + length (S ++ R) ≡ 4227 = omega (arith, length-append S R) in
      let f₂ = laid_next output 0 S R 14 bS lS e₁ e₂ in
      let f₃ = laid_next output 0 (S ++ R) Z 4227 (append_bits S R bS (run-bits way (tap_of x.end) x.state (clocked frame))) lSR f₂ e₃ in
      f₃ ∙ laid_end output 0 (S ++ R ++ Z) (omega (arith, length-append (S ++ R) Z)) ∙ ap₂ octets_of lo (append_assoc S R Z)

  -- the line's run by the end's tap, behind sync
  pub frame-clocked : (way : Way) (tap : ℕ) (r : Result ℕ Refused) (s₁ s₂ : List ℕ) → tap ≡ tap_of x.end → s₁ ≡ laid output 0 (part 0 14 (bits_of frame))
      → OnLine.RunPromise way tap x.state frame 14 4213 s₁ r s₂ → ClockedPromise way x frame output r s₂
  frame-clocked way tap r s₁ s₂ e e₁ p =
      subst (λ (n : ℕ). OnLine.RunPromise way n x.state frame 14 4213 (laid output 0 (part 0 14 (bits_of frame))) r s₂) e
      (subst (λ (s : List ℕ). OnLine.RunPromise way tap x.state frame 14 4213 s r s₂) e₁ p)

  -- a frame of which nothing is refused: nor is the line's run, so its state is the scrambler's
  pub frame-taken : (way : Way) (r : Result ℕ Refused) (s₂ s₃ : List ℕ) → ClockedPromise way x frame output r s₂ → s₃ ≡ laid s₂ 4227 (replicate 5 0)
      → answer (frame_refusals x frame output) ≡ 0 → FramePromise way x frame output (framed x.end r) s₃
  frame-taken way r s₂ s₃ p e₃ z =
      let w = frame-sound z in
      let s₁ = laid output 0 (part 0 14 (bits_of frame)) in
      let c = run-complete (tap_of x.end) x.state frame 14 4213 (tap-range x.end).0 (tap-range x.end).1 w.2 (omega (arith, w.0)) in
      let ran = run-given (tap_of x.end) x.state frame 14 4213 way s₁ s₂ c r p in
      subst (λ (q : Result ℕ Refused). FramePromise way x frame output (framed x.end q) s₃) (sym ran.0)
      (record {
        answered = sym z;
        next = refl;
        left = frame-done way s₁ s₂ s₃ w.0 w.1 refl ran.1 e₃;
      })
