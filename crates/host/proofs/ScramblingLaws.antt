-- From the scrambler's promises to the exported ones. Assumes nothing.
use mathlib.Core.Path.{◌≡◌, sym, ap, ◌∙◌}
use mathlib.Core.List.{List}
use Prim.Native.Nat.{ℕ}
use native.Mathlib.Omega.{arith}
use Rattle.std.specs.Prelude.{Result, Ok, Err}
use Rattle.answer.specs.Answer.{answer, held}
use Rattle.answer.specs.Given.{number_of}
use Rattle.answer.specs.declared.Refused.{Refused}
use Rattle.answer.proofs.Given.{refused-number}
use Rattle.answer.proofs.Laws.{kept, given}
use Rattle.recurrence.specs.Run.{out_of, next_of}
use Rattle.recurrence.specs.declared.Way.{Way}
use Rattle.recurrence.specs.declared.Way.TheVariants.{Descramble as descramble}
use Rattle.scrambler.specs.Ends.{tap_of}
use Rattle.scrambler.specs.Promises.{StartPromise, step_refusals, StepPromise, RunPromise, FramePromise}
use Rattle.scrambler.specs.declared.Scrambler.{Scrambler}
use Rattle.scrambler.specs.declared.Step.{Step}
use Rattle.host.specs.Scrambling.{crossing, bit_crossing, scrambler_in, ScramblerStarted, BitScrambled, ScrambledRun, FrameDescrambled}

-- a refusal keeps what was
pub refused-kept : {A : Type 0} (e : Refused) (old new : A) → old ≡ held (number_of e) old new
refused-kept e old new = let n = refused-number e in sym (kept (number_of e) old new (λ z. omega (arith, z)))

pub start-crossed : (end : ℕ) (r : Result Scrambler Refused) → StartPromise end r → ScramblerStarted end (crossing 0 r)
start-crossed end (Ok y) p = λ i. record { answer = p.answered i; state = (p.next i).state }
start-crossed end (Err e) p = λ i. record { answer = p.answered i; state = 0 }

module _ (way : Way) (end state : ℕ) where
  pub bit-crossed : (bit : ℕ) (r : Result Step Refused) → StepPromise way (scrambler_in end state) bit r → BitScrambled way end state bit (bit_crossing state r)
  bit-crossed bit (Ok s) p =
      let A = answer (step_refusals (scrambler_in end state) bit) in
      let z : A ≡ 0 = sym p.answered in
      let b : s.bit ≡ held A 0 (out_of (tap_of end) state bit) = ap (λ (t : Step). t.bit) p.next ∙ sym (given A 0 _ z) in
      let t : s.next.state ≡ held A state (next_of way (tap_of end) state bit) = ap (λ (t : Step). t.next.state) p.next ∙ sym (given A state _ z) in
      λ i. record { answer = p.answered i; bit = b i; state = t i }
  bit-crossed bit (Err e) p =
      let A = answer (step_refusals (scrambler_in end state) bit) in
      let b : 0 ≡ held A 0 (out_of (tap_of end) state bit) = refused-kept e 0 _ ∙ ap (λ (n : ℕ). held n 0 (out_of (tap_of end) state bit)) p.answered in
      let t : state ≡ held A state (next_of way (tap_of end) state bit) =
      refused-kept e state _ ∙ ap (λ (n : ℕ). held n state (next_of way (tap_of end) state bit)) p.answered in
      λ i. record { answer = p.answered i; bit = b i; state = t i }

  pub run-crossed : (input : List ℕ) (bits : ℕ) (output : List ℕ) (r : Result Scrambler Refused) (exit : List ℕ)
      → RunPromise way (scrambler_in end state) input bits output r exit → ScrambledRun way end state input bits output (crossing state r) exit
  run-crossed input bits output (Ok y) exit p = record { answered = p.answered; next = ap (λ (x : Scrambler). x.state) p.next; left = p.left }
  run-crossed input bits output (Err e) exit p = record { answered = p.answered; next = refused-kept e state _; left = p.left }

pub frame-crossed : (end state : ℕ) (frame output : List ℕ) (r : Result Scrambler Refused) (exit : List ℕ)
    → FramePromise descramble (scrambler_in end state) frame output r exit → FrameDescrambled end state frame output (crossing state r) exit
frame-crossed end state frame output (Ok y) exit p = record { answered = p.answered; next = ap (λ (x : Scrambler). x.state) p.next; left = p.left }
frame-crossed end state frame output (Err e) exit p = record { answered = p.answered; next = refused-kept e state _; left = p.left }
