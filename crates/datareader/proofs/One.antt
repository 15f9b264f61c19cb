-- One result per call. Assumes nothing.
use mathlib.Core.Path.{◌≡◌, sym, ◌∙◌}
use mathlib.Core.List.{List}
use Prim.Native.Nat.{ℕ}
use Rattle.std.specs.Prelude.{Result}
use Rattle.answer.specs.declared.Refused.{Refused}
use Rattle.answer.proofs.Given.{result-one}
use Rattle.dataframe.specs.declared.Overhead.{Overhead}
use Rattle.datareader.specs.Promises.{DataRead}

pub read_one : (form k word next : ℕ) (frame octets : List ℕ) (r r' : Result Overhead Refused) (t t' : List ℕ)
    → DataRead form k word next frame octets r t → DataRead form k word next frame octets r' t' → (r ≡ r') × (t ≡ t')
read_one form k word next frame octets r r' t t' p q = (
  result-one r r' (p.answered ∙ sym q.answered) (λ o o' e f. (rw e at p.found) ∙ sym (rw f at q.found)),
  p.payload_left ∙ sym q.payload_left,
)
