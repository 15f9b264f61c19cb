-- One result per call: two results, and two states of lent memory, that a promise allows for the same call are equal. Assumes nothing.
use mathlib.Core.Path.{◌≡◌, sym, ◌∙◌}
use mathlib.Core.List.{List}
use lib.IntN.{ℤ}
use lib.Ieee.{Float}
use Rattle.std.specs.Prelude.{Result}
use Rattle.answer.specs.declared.Refused.{Refused}
use Rattle.answer.proofs.Given.{result-one}
use Rattle.samples.specs.Samples.{at_start, Rounds, Folds, past_after}
use Rattle.samples.specs.Shaper.{Shapes}
use Rattle.samples.proofs.Rounding.{rounds-unique, folds-unique}
use Rattle.samples.proofs.Exact.{exact-unique}

pub rounded-one : (s v w : ℤ) → Rounds s v → Rounds s w → v ≡ w
rounded-one = rounds-unique

pub folded-one : (u y z : ℤ) → Folds u y → Folds u z → y ≡ z
folded-one = folds-unique

pub start-one : (r s : List ℤ) → r ≡ at_start → s ≡ at_start → r ≡ s
start-one r s p q = p ∙ sym q

pub shift_one : (past : List ℤ) (y : ℤ) (past' past'' : List ℤ) → past' ≡ past_after past y → past'' ≡ past_after past y → past' ≡ past''
shift_one past y past' past'' p q = p ∙ sym q

pub shaper-one : (y : ℤ) (r s : Result Float Refused) → Shapes y r → Shapes y s → r ≡ s
shaper-one y r s p q =
    result-one r s (p.answered ∙ sym q.answered)
    (λ v w rv sw. exact-unique v w y (rw rv at p.value) (rw sw at q.value))
