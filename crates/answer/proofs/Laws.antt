-- Laws of answers. Assumes nothing.
use mathlib.Core.Path.{◌≡◌, refl, ap}
use mathlib.Core.Bool.{Bool, true, false, cond}
use mathlib.Core.List.{List, [], ◌∷◌, ◌++◌}
use Prim.Native.Nat.{ℕ, zero, suc}
use native.Mathlib.Omega.{arith}
use Rattle.answer.specs.Answer.{Refusal, refuse, answer, held}

-- a check that applies is answered
pub refused : (n : ℕ) {t : Bool} (ts : List Refusal) → t ≡ true → answer (refuse n t ∷ ts) ≡ n
refused n ts e = ap (λ (b : Bool). cond b n (answer ts)) e

-- a check that does not apply is passed over
pub passed : (n : ℕ) {t : Bool} (ts : List Refusal) → t ≡ false → answer (refuse n t ∷ ts) ≡ answer ts
passed n ts e = ap (λ (b : Bool). cond b n (answer ts)) e

-- where the answer is 0, no check applied
pub none : (n : ℕ) (t : Bool) (ts : List Refusal) → answer (refuse (suc n) t ∷ ts) ≡ 0 → (t ≡ false) × (answer ts ≡ 0)
none n true ts e = absurd (omega arith)
none n false ts e = (refl, e)

-- checks behind others are not reached where one of those applies
pub stopped : (ts us : List Refusal) → (answer ts ≡ 0 → ⊥) → answer (ts ++ us) ≡ answer ts
stopped [] us n = absurd (n refl)
stopped (t ∷ ts) us n = pick t.applies n (λ z. stopped ts us z)
  where
    pick : (b : Bool) → (cond b t.number (answer ts) ≡ 0 → ⊥) → ((answer ts ≡ 0 → ⊥) → answer (ts ++ us) ≡ answer ts)
        → cond b t.number (answer (ts ++ us)) ≡ cond b t.number (answer ts)
    pick true z ih = refl
    pick false z ih = ih z

-- a refusal gives the old
pub kept : {A : Type 0} (n : ℕ) (old new : A) → (n ≡ 0 → ⊥) → held n old new ≡ old
kept zero old new h = absurd (h refl)
kept (suc n) old new h = refl

-- 0 gives the new
pub given : {A : Type 0} (n : ℕ) (old new : A) → n ≡ 0 → held n old new ≡ new
given n old new e = ap (λ (k : ℕ). held k old new) e
