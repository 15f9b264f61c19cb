-- One result per call. Assumes nothing.
use mathlib.Core.Path.{◌≡◌, sym, ◌∙◌}
use mathlib.Core.List.{List}
use Prim.Native.Nat.{ℕ}
use Rattle.std.specs.Prelude.{Result}
use Rattle.std.proofs.lemmas.Result.{IfOk-at_ok}
use Rattle.answer.specs.declared.Refused.{Refused}
use Rattle.answer.proofs.Given.{result-one}
use Rattle.eocwriter.specs.Promises.{MessageWritten}

pub write-one : (source destination number : ℕ) (contents room : List ℕ) (r r' : Result ℕ Refused) (t t' : List ℕ)
    → MessageWritten source destination number contents room r t → MessageWritten source destination number contents room r' t' → (r ≡ r') × (t ≡ t')
write-one source destination number contents room r r' t t' p q = (
  result-one r r' (p.answered ∙ sym q.answered) (λ v w e f. IfOk-at_ok _ e p.size ∙ sym (IfOk-at_ok _ f q.size)),
  p.room_left ∙ sym q.room_left,
)
