-- One result per call. Assumes nothing.
use mathlib.Core.Path.{◌≡◌, sym, ◌∙◌}
use mathlib.Core.List.{List}
use Prim.Native.Nat.{ℕ}
use Rattle.verdict.specs.declared.Customer.{Customer}
use Rattle.card.specs.declared.Verdict.{Verdict}
use Rattle.verdict.specs.Promises.{Judged, Unread, IsNobody, IsCustomer}

pub judge-one : (frame : List ℕ) (k : Customer) (r r' : Verdict) → Judged frame k r → Judged frame k r' → r ≡ r'
judge-one frame k r r' p q = p ∙ sym q

pub unread-one : (k : Customer) (r r' : Verdict) → Unread k r → Unread k r' → r ≡ r'
unread-one k r r' p q = p ∙ sym q

pub nobody-one : (r r' : Customer) → IsNobody r → IsNobody r' → r ≡ r'
nobody-one r r' p q = p ∙ sym q

pub reference-one : (v : Verdict) (r r' : Customer) → IsCustomer v r → IsCustomer v r' → r ≡ r'
reference-one v r r' p q = p ∙ sym q
