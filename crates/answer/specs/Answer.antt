-- What comes back (SCOPE): a number of the table (Table.antt). Checks run in the order of these numbers, and the first that applies is answered.
-- With any but 0 every other number returned is 0, a state comes back equal, and all lent memory holds what it held.
use Rattle.std.specs.Prelude.{Bool, true, cond, not, ◌&&◌, List, [], ◌∷◌, ℕ, zero, suc, eqb, leb, length}

-- a check: the number that it answers, and whether it applies
pub record Refusal : Type 0 where
  pub number : ℕ
  pub applies : Bool

-- the check that answers n where the test t holds
abbrev pub refuse : ℕ → Bool → Refusal
refuse n t = record { number = n; applies = t }

-- 1: a lent buffer has the wrong length, other than n
abbrev pub wrong_length : {A : Type 0} → List A → ℕ → Refusal
wrong_length s n = refuse 1 (not (eqb (length s) n))

-- the first check that applies, else 0
abbrev pub answer : List Refusal → ℕ
answer [] = 0
answer (t ∷ ts) = cond t.applies t.number (answer ts)

-- what a call that answers n leaves: the new where n is 0, else the old
abbrev pub held : {A : Type 0} → ℕ → A → A → A
held zero old new = new
held (suc n) old new = old

-- whether the numbers of the checks lie from low to 7 and never fall
unfoldable pub in_order : ℕ → List Refusal → Bool
in_order low [] = true
in_order low (t ∷ ts) = leb low t.number && (leb t.number 7 && in_order t.number ts)
