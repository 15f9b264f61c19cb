-- One result per call. Assumes nothing.
use mathlib.Core.Path.{◌≡◌, sym, ap, ◌∙◌}
use mathlib.Core.List.{List}
use Prim.Native.Nat.{ℕ}
use Rattle.std.specs.Prelude.{Result}
use Rattle.std.proofs.lemmas.Result.{IfOk-at_ok}
use Rattle.answer.specs.declared.Refused.{Refused}
use Rattle.answer.specs.Given.{answer_of}
use Rattle.answer.proofs.Given.{result-one}
use Rattle.octets.specs.Bits.{digits_of, bits_of, part}
use Rattle.octets.proofs.Turn.{turn_of}
use Rattle.remainder.specs.Division.{generator}
use Rattle.remainder.specs.Promises.{CheckBits, WordLeft, FromStart}
use Rattle.remainder.proofs.Division.{unique, unique-from}
use Rattle.remainder.proofs.Errors.{generator-degree}
use Rattle.remainder.proofs.Start.{start-sound}

pub check-bits-one : (s : List ℕ) (at n r r' : ℕ) → CheckBits s at n r → CheckBits s at n r' → r ≡ r'
check-bits-one s at n r r' p q = unique 16 generator generator-degree (part at n (bits_of s)) r r' p q

pub word-left-one : (x r r' : ℕ) → WordLeft x r → WordLeft x r' → r ≡ r'
word-left-one x r r' p q =
    p.turned ∙ ap (turn_of 16) (unique 16 generator generator-degree (digits_of 64 x) p.left q.left p.divided q.divided) ∙ sym q.turned

pub from-start-one : (g k start : ℕ) (s : List ℕ) (at n : ℕ) (r r' : Result ℕ Refused) → FromStart g k start s at n r → FromStart g k start s at n r' → r ≡ r'
from-start-one g k start s at n r r' p q =
    result-one r r' (p.answered ∙ sym q.answered) (λ v w e f. unique-from k g (start-sound g k start (sym p.answered ∙ ap answer_of e)).2 start (part at n (bits_of s)) v w (IfOk-at_ok _ e p.given) (IfOk-at_ok _ f q.given))
