-- One result per call. Assumes nothing.
use mathlib.Core.Path.{◌≡◌, sym, ◌∙◌}
use mathlib.Core.Bool.{Bool}
use mathlib.Core.List.{List}
use Prim.Native.Nat.{ℕ}
use Rattle.std.specs.Prelude.{Result}
use Rattle.std.proofs.lemmas.Result.{IfOk-at_ok}
use Rattle.answer.specs.declared.Refused.{Refused}
use Rattle.answer.proofs.Given.{result-one}
use Rattle.eoc.specs.Addresses.{is_meant}
use Rattle.eocunits.specs.Promises.{MessageHandedUp}

pub hand-up-one : (s units : List ℕ) (r r' : Result ℕ Refused) (t t' : List ℕ) → MessageHandedUp s units r t → MessageHandedUp s units r' t' → (r ≡ r') × (t ≡ t')
hand-up-one s units r r' t t' p q = (
  result-one r r' (p.answered ∙ sym q.answered) (λ v w e f. IfOk-at_ok _ e p.taken ∙ sym (IfOk-at_ok _ f q.taken)),
  p.units_left ∙ sym q.units_left,
)

pub is-meant-one : (own destination : ℕ) (r r' : Bool) → r ≡ is_meant own destination → r' ≡ is_meant own destination → r ≡ r'
is-meant-one own destination r r' p q = p ∙ sym q
