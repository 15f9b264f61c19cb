-- How long the words for a verdict are at most. Assumes nothing.
use mathlib.Core.Bool.{Bool, true, false, cond}
use mathlib.Core.List.{List, [], ◌∷◌}
use Prim.Native.Nat.{ℕ, zero, suc, ◌≤◌, ◌<◌}
use native.Mathlib.Omega.{arith}
use lib.Dec.{eqb, lit≤}
use lib.ListN.{length, length-append}
use Rattle.ascii.proofs.Numbers.{decimal-length}
use Rattle.forms.specs.Forms.{first_of, formed_by, formed, row_by, row_of}
use Rattle.card.specs.Words.{row_of_rank, refused_row, names, todos, reasons, refusal, name_of, todo}

-- either text
pub cond-length : (b : Bool) (x y : List ℕ) (m : ℕ) → length x ≤ m → length y ≤ m → length (cond b x y) ≤ m
cond-length true x y m h l = h
cond-length false x y m h l = l

-- a row is no longer than its table
pub row-length : (table : List ℕ) (n : ℕ) → length (row_of table n) ≤ length table
unfolding row_of row_by
row-length [] n = omega arith
row-length (o ∷ os) n = pick (eqb o 10) n (row-length os)
  where
    pick : (b : Bool) (n : ℕ) → ((m : ℕ) → length (row_of os m) ≤ length os) → length (row_by b o (row_of os) n) ≤ suc (length os)
    pick true zero h = omega arith
    pick true (suc n) h = omega (arith, h n)
    pick false zero h = omega (arith, h 0)
    pick false (suc n) h = omega (arith, h (suc n))

-- ---- a verdict's words

refusal-length : (n : ℕ) → n < 10000000 → length (refusal n) ≤ 420
unfolding refusal formed formed_by first_of
refusal-length n h = simp length-append (omega (arith, decimal-length 6 n h, row-length reasons n))

pub name-length : (n : ℕ) → n < 10000000 → length (name_of n) ≤ 490
unfolding name_of
name-length n h =
    simp length-append
    (omega (arith, row-length names (row_of_rank n), cond-length (eqb (row_of_rank n) refused_row) (refusal n) [] 420 (refusal-length n h) (lit≤ tt)))

pub todo-length : (n : ℕ) → length (todo n) ≤ 230
unfolding todo
todo-length n = omega (arith, row-length todos (row_of_rank n))
