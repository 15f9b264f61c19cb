-- `highest` is the number of the highest non-zero coefficient: it is not zero, and every one above it is. Assumes nothing.
use mathlib.Core.Path.{◌≡◌, refl, sym, ap, ◌∙◌}
use mathlib.Core.Bool.{Bool, true, false, cond, ◌&&◌, true≢false}
use mathlib.Core.List.{List, [], ◌∷◌}
use Prim.Native.Nat.{ℕ, zero, suc, ◌+◌, ◌-◌, ◌≤◌, ◌<◌}
use native.Mathlib.Omega.{arith}
use lib.IntN.{ℤ, pos, negsuc}
use lib.ListN.{length, get_or}
use Rattle.highest.specs.Highest.{is_zero, all_zero, highest}
use Rattle.highest.proofs.Laws.{highest-within}
use Rattle.ranges.proofs.Laws.{both}

is-zero : (c : ℤ) → is_zero c ≡ true → c ≡ pos 0
unfolding is_zero
is-zero (pos zero) e = refl
is-zero (pos (suc n)) e = absurd (true≢false (sym e))
is-zero (negsuc n) e = absurd (true≢false (sym e))

all-at : (cs : List ℤ) → all_zero cs ≡ true → (i : ℕ) → get_or cs i (pos 0) ≡ pos 0
unfolding all_zero
all-at [] e i = refl
all-at (c ∷ cs) e zero = is-zero c (both (is_zero c) (all_zero cs) e).0
all-at (c ∷ cs) e (suc i) = all-at cs (both (is_zero c) (all_zero cs) e).1 i

-- coefficients with a higher number are zero; coefficient number i + 1 stands at place i
pub above_zero : (cs : List ℤ) (i : ℕ) → highest cs ≤ i → get_or cs i (pos 0) ≡ pos 0
unfolding highest
above_zero [] i h = refl
above_zero (c ∷ cs) i h = pick (all_zero (c ∷ cs)) refl i h (above_zero cs)
  where
    pick : (b : Bool) → all_zero (c ∷ cs) ≡ b → (i : ℕ) → cond b 0 (suc (highest cs)) ≤ i → ((j : ℕ) → highest cs ≤ j → get_or cs j (pos 0) ≡ pos 0)
        → get_or (c ∷ cs) i (pos 0) ≡ pos 0
    pick true e i h rest = all-at (c ∷ cs) e i
    pick false e zero h rest = absurd (omega arith)
    pick false e (suc i) h rest = rest i (omega arith)

none-all : (cs : List ℤ) → highest cs ≡ 0 → all_zero cs ≡ true
unfolding highest all_zero
none-all [] h = refl
none-all (c ∷ cs) h = pick (all_zero (c ∷ cs)) h
  where
    pick : (b : Bool) → cond b 0 (suc (highest cs)) ≡ 0 → b ≡ true
    pick true h = refl
    pick false h = absurd (omega arith)

zero-first : (c : ℤ) (cs : List ℤ) → c ≡ pos 0 → all_zero cs ≡ true → all_zero (c ∷ cs) ≡ true
unfolding all_zero is_zero
zero-first c cs e f = ap (λ (x : ℤ). is_zero x && all_zero cs) e ∙ f

-- the coefficient of that number is not
pub highest-not : (cs : List ℤ) (n : ℕ) → highest cs ≡ suc n → get_or cs n (pos 0) ≡ pos 0 → ⊥
unfolding highest
highest-not [] n h z = omega arith
highest-not (c ∷ cs) n h z = pick (all_zero (c ∷ cs)) refl n h z (highest-not cs)
  where
    pick : (b : Bool) → all_zero (c ∷ cs) ≡ b → (n : ℕ) → cond b 0 (suc (highest cs)) ≡ suc n → get_or (c ∷ cs) n (pos 0) ≡ pos 0
        → ((m : ℕ) → highest cs ≡ suc m → get_or cs m (pos 0) ≡ pos 0 → ⊥) → ⊥
    pick true e n h z rest = omega arith
    pick false e zero h z rest = true≢false (sym (zero-first c cs z (none-all cs (omega arith))) ∙ e)
    pick false e (suc n) h z rest = rest n (omega arith) z

-- none is above where all from that place on are zero
below-all : (cs : List ℤ) (n : ℕ) → ((k : ℕ) → n ≤ k → k < length cs → get_or cs k (pos 0) ≡ pos 0) → highest cs ≤ n
below-all cs n zeros =
    let no : (n + 1 ≤ highest cs → ⊥) = λ h.
    let w = highest-within cs in
    highest-not cs (highest cs - 1) (omega arith) (zeros (highest cs - 1) (omega arith) (omega arith)) in
    omega (arith, no)

-- one that is not zero, with none but zeros above, is the highest
pub highest-at : (cs : List ℤ) (i : ℕ) → (get_or cs i (pos 0) ≡ pos 0 → ⊥) → ((k : ℕ) → i + 1 ≤ k → k < length cs → get_or cs k (pos 0) ≡ pos 0) → i + 1 ≡ highest cs
highest-at cs i here zeros =
    let no : (highest cs ≤ i → ⊥) = λ h. here (above_zero cs i h) in
    let below = below-all cs (i + 1) zeros in
    omega (arith, no, below)

-- where all are zero there is none
pub highest-none : (cs : List ℤ) → ((k : ℕ) → k < length cs → get_or cs k (pos 0) ≡ pos 0) → 0 ≡ highest cs
highest-none cs zeros = let below = below-all cs 0 (λ k h l. zeros k l) in omega (arith, below)
