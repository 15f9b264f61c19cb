-- One result per call. Assumes nothing.
use mathlib.Core.Path.{◌≡◌, refl, sym, subst, ◌∙◌}
use mathlib.Core.List.{List}
use Prim.Native.Nat.{ℕ}
use native.Mathlib.Omega.{arith}
use Rattle.std.specs.Prelude.{Result}
use Rattle.answer.specs.Given.{answer_of}
use Rattle.answer.specs.declared.Refused.{Refused}
use Rattle.answer.proofs.Given.{result-one}
use Rattle.checker.specs.declared.Kind.{Kind}
use Rattle.checker.specs.declared.Kind.TheVariants.{Training, Final}
use Rattle.checker.specs.Promises.{Checked, kind_number, KindChecked}

pub check-one : (frame : List ℕ) (r r' : ℕ) → Checked frame r → Checked frame r' → r ≡ r'
check-one frame r r' p q = p.answered ∙ sym q.answered

-- no two kinds have the same number
kind-one : (k k' : Kind) → kind_number k ≡ kind_number k' → k ≡ k'
kind-one Training Training e = refl
kind-one Training Final e = absurd (omega (arith, e))
kind-one Final Training e = absurd (omega (arith, e))
kind-one Final Final e = refl

pub kind-of-one : (frame : List ℕ) (r r' : Result Kind Refused) → KindChecked frame r → KindChecked frame r' → r ≡ r'
kind-of-one frame r r' p q =
    result-one r r' (check-one frame (answer_of r) (answer_of r') p.checked q.checked)
    (λ k k' e e'. kind-one k k' ((subst (KindChecked frame) e p).kind_is ∙ sym (subst (KindChecked frame) e' q).kind_is))
