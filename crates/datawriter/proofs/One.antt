-- One result per call. Assumes nothing.
use mathlib.Core.Path.{◌≡◌, sym, ◌∙◌}
use mathlib.Core.List.{List}
use Prim.Native.Nat.{ℕ}
use Rattle.std.specs.Prelude.{Result}
use Rattle.answer.specs.declared.Refused.{Refused}
use Rattle.answer.proofs.Given.{result-one}
use Rattle.dataframe.specs.declared.Overhead.{Overhead}
use Rattle.datawriter.specs.Promises.{DataWritten}

pub write-one : (form k word : ℕ) (o : Overhead) (octets frame : List ℕ) (r r' : Result ℕ Refused) (t t' : List ℕ)
    → DataWritten form k word o octets frame r t → DataWritten form k word o octets frame r' t' → (r ≡ r') × (t ≡ t')
write-one form k word o octets frame r r' t t' p q = (
  result-one r r' (p.answered ∙ sym q.answered) (λ x y e f. (rw e at p.given) ∙ sym (rw f at q.given)),
  p.left ∙ sym q.left,
)
