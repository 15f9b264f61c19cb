-- Laws of orders: what is answered stands in the order, and is a number of the table; checks whose numbers rise from 1 to 7 run in SCOPE's;
-- 8 is no number of the table. Assumes nothing.
use mathlib.Core.Path.{◌≡◌, refl, sym, ap, ap₂, ◌∙◌, subst}
use mathlib.Core.Bool.{Bool, true, false, cond, ◌&&◌, false≢true}
use mathlib.Core.Logic.{◌⊎◌, inl, inr}
use mathlib.Core.List.{List, [], ◌∷◌, ◌++◌}
use Prim.Native.Nat.{ℕ, zero, suc, ◌+◌, ◌-◌, ◌≤◌, ◌<◌, zero-le}
use native.Mathlib.Decide.{dec_le}
use native.Mathlib.Omega.{arith}
use borrow.Author.Tests.{leb-true, eq-eqb, ne_eqb}
use lib.Dec.{lit≤, eqb, leb}
use Rattle.answer.specs.Answer.{Refusal, answer, in_order}
use Rattle.answer.specs.Table.{rising, from, some, in_table, in_turn}

pub both : (a b : Bool) → a && b ≡ true → (a ≡ true) × (b ≡ true)
both true b e = (refl, e)
both false b e = (e, cc)

-- the numbers from low on, k of them
abbrev up : ℕ → ℕ → List ℕ
up low zero = []
up low (suc k) = low ∷ up (suc low) k

-- from one of them on
from_up : (low n k : ℕ) → low ≤ n → n < low + k → from n (up low k) ≡ up n (low + k - n)
from_up low n zero h l = absurd (omega arith)
from_up low n (suc k) h l = pick (dec_le n low) (λ p. from_up (suc low) n k p (omega arith))
  where
    pick : Dec (n ≤ low) → (low < n → from n (up (suc low) k) ≡ up n (suc low + k - n))
        → cond (eqb low n) (low ∷ up (suc low) k) (from n (up (suc low) k)) ≡ up n (low + suc k - n)
    pick (yes p) ih =
        let e : low ≡ n = omega arith in
        let m : suc k ≡ low + suc k - n = omega arith in
        ap (λ (b : Bool). cond b (low ∷ up (suc low) k) (from n (up (suc low) k))) (eq-eqb low n e) ∙ ap₂ up e m
    pick (no p) ih =
        let m : suc low + k - n ≡ low + suc k - n = omega arith in
        ap (λ (b : Bool). cond b (low ∷ up (suc low) k) (from n (up (suc low) k))) (ne_eqb low n (λ e. omega arith)) ∙ ih (omega arith) ∙ ap (up n) m

some_up : (n k : ℕ) → 1 ≤ k → some (up n k) ≡ true
some_up n zero h = absurd (omega arith)
some_up n (suc k) h = refl

joined : (a b : Bool) → a ≡ true → b ≡ true → a && b ≡ true
joined a b p q = ap₂ ◌&&◌ p q

risen : (low : ℕ) (ts : List Refusal) → low ≤ 7 → in_order low ts ≡ true → in_turn (up low (8 - low)) ts ≡ true
unfolding in_order in_turn
risen low [] h e = refl
risen low (t ∷ ts) h e =
    let n = t.number in
    let p = both (leb low n) (leb n 7 && in_order n ts) e in
    let q = both (leb n 7) (in_order n ts) p.1 in
    let l : low ≤ n = leb-true low n p.0 in
    let m : n ≤ 7 = leb-true n 7 q.0 in
    let c : low + (8 - low) - n ≡ 8 - n = omega arith in
    let f : from n (up low (8 - low)) ≡ up n (8 - n) = from_up low n (8 - low) l (omega arith) ∙ ap (up n) c in
    subst (λ (o : List ℕ). some o && in_turn o ts ≡ true) (sym f)
    (joined (some (up n (8 - n))) (in_turn (up n (8 - n)) ts) (some_up n (8 - n) (omega arith)) (risen n ts m q.1))

-- checks whose numbers lie from 1 to 7 and never fall run in SCOPE's order
pub rising-is : (ts : List Refusal) → in_order 1 ts ≡ true → in_turn rising ts ≡ true
rising-is ts e = risen 1 ts (lit≤ tt) e

-- ---- what is answered stands in the order

-- further on in an order is in it
further : (a n : ℕ) (order : List ℕ) → some (from a (from n order)) ≡ true → some (from a order) ≡ true
further a n [] e = e
further a n (o ∷ os) e = pick (eqb o n) refl e (further a n os)
  where
    here : (b : Bool) → some (from a os) ≡ true → some (cond b (o ∷ os) (from a os)) ≡ true
    here true h = refl
    here false h = h

    pick : (b : Bool) → eqb o n ≡ b → some (from a (cond b (o ∷ os) (from n os))) ≡ true → (some (from a (from n os)) ≡ true → some (from a os) ≡ true)
        → some (cond (eqb o a) (o ∷ os) (from a os)) ≡ true
    pick true p q ih = q
    pick false p q ih = here (eqb o a) (ih q)

pub answer-in : (order : List ℕ) (ts : List Refusal) → in_turn order ts ≡ true → (answer ts ≡ 0) ⊎ (some (from (answer ts) order) ≡ true)
unfolding in_turn
answer-in order [] e = inl refl
answer-in order (t ∷ ts) e =
    let p = both (some (from t.number order)) (in_turn (from t.number order) ts) e in
    pick t.applies p.0 (answer-in (from t.number order) ts p.1)
  where
    pick : (b : Bool) → some (from t.number order) ≡ true → (answer ts ≡ 0) ⊎ (some (from (answer ts) (from t.number order)) ≡ true)
        → (cond b t.number (answer ts) ≡ 0) ⊎ (some (from (cond b t.number (answer ts)) order) ≡ true)
    pick true h ih = inr h
    pick false h (inl z) = inl z
    pick false h (inr z) = inr (further (answer ts) t.number order z)

-- and so it is a number of the table, where the order's numbers are
pub listed-in-table : (order : List ℕ) → ((n : ℕ) → some (from n order) ≡ true → in_table n ≡ true)
    → (ts : List Refusal) → in_turn order ts ≡ true → in_table (answer ts) ≡ true
listed-in-table order h ts e = pick (answer-in order ts e)
  where
    pick : (answer ts ≡ 0) ⊎ (some (from (answer ts) order) ≡ true) → in_table (answer ts) ≡ true
    pick (inl z) = subst (λ (k : ℕ). in_table k ≡ true) (sym z) refl
    pick (inr z) = h (answer ts) z

-- what stands in an order stands in a longer one
longer : (n : ℕ) (os ps : List ℕ) → some (from n os) ≡ true → some (from n (os ++ ps)) ≡ true
longer n [] ps e = absurd (false≢true e)
longer n (o ∷ os) ps e = pick (eqb o n) e (longer n os ps)
  where
    pick : (b : Bool) → some (cond b (o ∷ os) (from n os)) ≡ true → (some (from n os) ≡ true → some (from n (os ++ ps)) ≡ true)
        → some (cond b (o ∷ (os ++ ps)) (from n (os ++ ps))) ≡ true
    pick true h ih = refl
    pick false h ih = ih h

-- in SCOPE's order
pub answer-in-table : (ts : List Refusal) → in_turn rising ts ≡ true → in_table (answer ts) ≡ true
answer-in-table ts e = listed-in-table rising (λ n h. beside n (eqb 0 n) (longer n rising others h)) ts e
  where
    others : List ℕ
    others = 9 ∷ 10 ∷ 11 ∷ 12 ∷ []

    beside : (n : ℕ) (b : Bool) → some (from n (rising ++ others)) ≡ true → some (cond b (0 ∷ (rising ++ others)) (from n (rising ++ others))) ≡ true
    beside n true h = refl
    beside n false h = h

-- ---- checks whose numbers rise to 7 answer with a number of the table

pub answer-within : (low : ℕ) (ts : List Refusal) → in_order low ts ≡ true → answer ts ≤ 7
unfolding in_order
answer-within low [] e = zero-le
answer-within low (t ∷ ts) e =
    let w = both (leb t.number 7) (in_order t.number ts) (both (leb low t.number) _ e).1 in
    pick t.applies (leb-true _ _ w.0) (answer-within t.number ts w.1)
  where
    pick : (b : Bool) → t.number ≤ 7 → answer ts ≤ 7 → cond b t.number (answer ts) ≤ 7
    pick true x y = x
    pick false x y = y

-- ---- 8 is not used

-- no number of the table is 8
pub eight-unused : (n : ℕ) → in_table n ≡ true → n ≡ 8 → ⊥
eight-unused n h e = false≢true (subst (λ (k : ℕ). in_table k ≡ true) e h)
