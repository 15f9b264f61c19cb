-- Laws of what is given: a number of the table is one refusal's, and two results that answer the same and give the same value are equal.
-- Assumes nothing.
use mathlib.Core.Path.{◌≡◌, refl, sym, ap, ◌∙◌}
use mathlib.Core.Bool.{cond}
use mathlib.Core.List.{[], ◌∷◌, ◌++◌, map}
use Prim.Native.Nat.{ℕ, ◌≤◌}
use native.Mathlib.Omega.{arith}
use lib.Dec.{eqb, lit≤}
use Rattle.std.specs.Prelude.{Result, Ok, Err, IfOk}
use Rattle.answer.specs.declared.Refused.{Refused}
use Rattle.answer.specs.declared.Refused.TheVariants.{Length, Unknown, Count, Range, Sync, Pad, Check, Stuffing, Flag, Escape, Size}
use Rattle.answer.specs.Table.{numbers_of, refusals, data_refusals, eoc_refusals}
use Rattle.answer.specs.Given.{number_of, answer_of}

-- the refusal with a number of the table
refusal_of : ℕ → Refused
refusal_of n = cond (eqb n 1) Length (cond (eqb n 2) Unknown (cond (eqb n 3) Count (cond (eqb n 4) Range (cond (eqb n 5) Sync (cond (eqb n 6) Pad (cond (eqb n 7) Check (cond (eqb n 9) Stuffing (cond (eqb n 10) Flag (cond (eqb n 11) Escape Size)))))))))

back : (e : Refused) → refusal_of (number_of e) ≡ e
unfolding refusal_of
back Length = refl
back Unknown = refl
back Count = refl
back Range = refl
back Sync = refl
back Pad = refl
back Check = refl
back Stuffing = refl
back Flag = refl
back Escape = refl
back Size = refl

-- no two refusals have the same number
pub number-one : (a b : Refused) → number_of a ≡ number_of b → a ≡ b
number-one a b h = sym (back a) ∙ ap refusal_of h ∙ back b

-- and none has 0, which stands for a value
pub refused-number : (e : Refused) → 1 ≤ number_of e
refused-number Length = lit≤ tt
refused-number Unknown = lit≤ tt
refused-number Count = lit≤ tt
refused-number Range = lit≤ tt
refused-number Sync = lit≤ tt
refused-number Pad = lit≤ tt
refused-number Check = lit≤ tt
refused-number Stuffing = lit≤ tt
refused-number Flag = lit≤ tt
refused-number Escape = lit≤ tt
refused-number Size = lit≤ tt

-- two results for one call: the same answer, and where both have a value the same value
pub result-one : {A : Type 0} (r s : Result A Refused) → answer_of r ≡ answer_of s → ((v w : A) → r ≡ Ok v → s ≡ Ok w → v ≡ w) → r ≡ s
result-one (Ok v) (Ok w) h f = ap Ok (f v w refl refl)
result-one (Ok v) (Err e) h f = let p = refused-number e in absurd (omega arith)
result-one (Err e) (Ok v) h f = let p = refused-number e in absurd (omega arith)
result-one (Err a) (Err b) h f = ap Err (number-one a b h)

-- and so are two that promise one value
pub value-one : {A : Type 0} (w : A) (r s : Result A Refused) → answer_of r ≡ answer_of s → IfOk r (λ v. v ≡ w) → IfOk s (λ v. v ≡ w) → r ≡ s
value-one w (Ok a) (Ok b) h p q = ap Ok (p ∙ sym q)
value-one w (Ok a) (Err e) h p q = let n = refused-number e in absurd (omega arith)
value-one w (Err e) (Ok b) h p q = let n = refused-number e in absurd (omega arith)
value-one w (Err a) (Err b) h p q = ap Err (number-one a b h)

-- the refusals in the table's order have the table's numbers
pub table-numbers : numbers_of (refusals ++ data_refusals ++ eoc_refusals)
    ≡ map number_of (Length ∷ Unknown ∷ Count ∷ Range ∷ Sync ∷ Pad ∷ Check ∷ Stuffing ∷ Flag ∷ Escape ∷ Size ∷ [])
table-numbers = refl
