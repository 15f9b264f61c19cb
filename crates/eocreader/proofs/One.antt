-- One result per call. Assumes nothing.
use mathlib.Core.Path.{◌≡◌, sym, ◌∙◌}
use mathlib.Core.List.{List}
use Prim.Native.Nat.{ℕ}
use Rattle.std.specs.Prelude.{Result}
use Rattle.std.proofs.lemmas.Result.{IfOk-at_ok}
use Rattle.answer.specs.declared.Refused.{Refused}
use Rattle.answer.proofs.Given.{result-one}
use Rattle.eocreader.specs.declared.Found.{Found}
use Rattle.eocreader.specs.Promises.{MessageRead}

pub read_one : (s room : List ℕ) (r r' : Result Found Refused) (t t' : List ℕ) → MessageRead s room r t → MessageRead s room r' t' → (r ≡ r') × (t ≡ t')
read_one s room r r' t t' p q = (
  result-one r r' (p.answered ∙ sym q.answered) (λ v w e f. IfOk-at_ok _ e p.numbers ∙ sym (IfOk-at_ok _ f q.numbers)),
  p.room_left ∙ sym q.room_left,
)
