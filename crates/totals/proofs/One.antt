-- One result per call. Assumes nothing.
use mathlib.Core.Path.{◌≡◌, refl, sym, ◌∙◌}
use mathlib.Core.Bool.{Bool}
use mathlib.Core.List.{List}
use Prim.Native.Nat.{ℕ}
use native.Mathlib.Omega.{arith}
use Rattle.ascii.proofs.One.{told-one}
use Rattle.totals.specs.declared.Sorted.{Sorted}
use Rattle.totals.specs.declared.Sorted.TheVariants.{Fine, NotFine, NotRead}
use Rattle.totals.specs.Totals.{totals_text, sorted_number}
use Rattle.totals.specs.Promises.{Totalled, IsStatus}

pub totals-one : (given : Bool) (ranks room : List ℕ) (r r' : ℕ) (t t' : List ℕ) → Totalled given ranks room r t → Totalled given ranks room r' t'
    → (r ≡ r') × (t ≡ t')
totals-one given ranks = told-one (totals_text given ranks)

-- a number is one case's
number-one : (r r' : Sorted) → sorted_number r ≡ sorted_number r' → r ≡ r'
number-one Fine Fine e = refl
number-one Fine NotFine e = absurd (omega arith)
number-one Fine NotRead e = absurd (omega arith)
number-one NotFine Fine e = absurd (omega arith)
number-one NotFine NotFine e = refl
number-one NotFine NotRead e = absurd (omega arith)
number-one NotRead Fine e = absurd (omega arith)
number-one NotRead NotFine e = absurd (omega arith)
number-one NotRead NotRead e = refl

pub status-one : (given : Bool) (ranks : List ℕ) (r r' : Sorted) → IsStatus given ranks r → IsStatus given ranks r' → r ≡ r'
status-one given ranks r r' p q = number-one r r' (p ∙ sym q)
