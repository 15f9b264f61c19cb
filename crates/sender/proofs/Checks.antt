-- The code's checks come to the list of the promise. Assumes nothing.
use mathlib.Core.Path.{◌≡◌, refl, ap, ◌∙◌}
use mathlib.Core.Bool.{Bool, true, false, not, ◌&&◌, false≢true}
use mathlib.Core.List.{List}
use Prim.Native.Nat.{ℕ}
use borrow.Author.Tests.{eq-eqb}
use lib.IntN.{ℤ}
use lib.ListN.{length, drop}
use Rattle.answer.specs.Answer.{Refusal, answer}
use Rattle.answer.proofs.Laws.{passed}
use Rattle.ranges.specs.Ranges.{every}
use Rattle.scrambler.specs.declared.Scrambler.{Scrambler}
use Rattle.sender.specs.Promises.{send_refusals, number_refusals}

-- the three lengths
pub all_whole : (p q r : Bool) → (p && q && r) ≡ true → (p ≡ true) × (q ≡ true) × (r ≡ true)
all_whole true true true e = (refl, refl, refl)
all_whole true true false e = absurd (false≢true e)
all_whole true false r e = absurd (false≢true e)
all_whole false q r e = absurd (false≢true e)

module _ (x : Scrambler) (kind count : ℕ) (cs : List ℤ) (a b : ℕ) (vendor frame : List ℕ) (l : length cs ≡ 180) (v : length vendor ≡ 16)
    (f : length frame ≡ 529) where
  abbrev R : List Refusal
  R = send_refusals x kind count cs a b vendor frame

  -- the lengths are right
  past : answer R ≡ answer (drop 3 R)
  past = passed 1 (drop 1 R) (ap not (eq-eqb _ _ l)) ∙ passed 1 (drop 2 R) (ap not (eq-eqb _ _ v)) ∙ passed 1 (drop 3 R) (ap not (eq-eqb _ _ f))

  of-kind : (k : ℕ) → kind ≡ k → answer R ≡ answer (drop 3 (send_refusals x k count cs a b vendor frame))
  of-kind k e = past ∙ ap (λ (n : ℕ). answer (drop 3 (send_refusals x n count cs a b vendor frame))) e

  -- of a final frame nothing is in use
  pub of-final : kind ≡ 1 → answer R ≡ answer (number_refusals x 0 0 cs 0 0)
  unfolding every
  of-final e = of-kind 1 e
