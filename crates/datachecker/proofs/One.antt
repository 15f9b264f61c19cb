-- One result per call. Assumes nothing.
use mathlib.Core.Path.{◌≡◌, refl, sym, ap₂, ◌∙◌}
use mathlib.Core.List.{List}
use Prim.Native.Nat.{ℕ}
use denote.Ref.{Bor}
use Rattle.std.specs.Prelude.{Result, ⊤}
use Rattle.answer.specs.declared.Refused.{Refused}
use Rattle.answer.specs.Given.{answer_of}
use Rattle.answer.proofs.Given.{result-one}
use Rattle.datacrc.proofs.One.{is-room-one}
use Rattle.datachecker.specs.declared.Verdict.{Verdict}
use Rattle.datachecker.specs.Promises.{DataChecked, Found, VerdictGiven}

found-one : (form k : ℕ) (frame : Bor (List ℕ)) (v w : Verdict) → Found form k frame v → Found form k frame w → v ≡ w
found-one form k frame v w p q =
    ap₂ (λ (x y : ℕ). record { stuffing = x; crc = y }) (p.stuffing_is ∙ sym q.stuffing_is) (p.crc_is ∙ sym q.crc_is)

pub judge-one : (form k word next : ℕ) (frame : Bor (List ℕ)) (r r' : Result Verdict Refused)
    → VerdictGiven form k word next frame r → VerdictGiven form k word next frame r' → r ≡ r'
judge-one form k word next frame r r' p q =
    result-one r r' (p.checked.answered ∙ sym q.checked.answered) (λ v w e f. found-one form k frame v w (rw e at p.given) (rw f at q.given))

-- and one room
pub found-room-one : (form k : ℕ) (frame : Bor (List ℕ)) (v w : Verdict) (p : Found form k frame v) (q : Found form k frame w) → p.room ≡ q.room
found-room-one form k frame v w p q = is-room-one _ _ frame p.room q.room p.room_is q.room_is

-- the number of an answer
pub check-one : (form k word next : ℕ) (frame : List ℕ) (r r' : ℕ) → DataChecked form k word next frame r → DataChecked form k word next frame r' → r ≡ r'
check-one form k word next frame r r' p q = p.answered ∙ sym q.answered

-- and the answer
pub checked-one : (form k word next : ℕ) (frame : List ℕ) (r r' : Result ⊤ Refused)
    → DataChecked form k word next frame (answer_of r) → DataChecked form k word next frame (answer_of r') → r ≡ r'
checked-one form k word next frame r r' p q = result-one r r' (check-one form k word next frame (answer_of r) (answer_of r') p q) (λ v w e f. refl)
