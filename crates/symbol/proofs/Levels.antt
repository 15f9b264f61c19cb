-- Laws of the levels: the two maps are inverse, the sixteen differ, are odd and lie from -15 to 15. Assumes nothing.
use mathlib.Core.Path.{◌≡◌, refl, sym, ap, ◌∙◌}
use mathlib.Core.Bool.{Bool, true, false, cond, and-true}
use mathlib.Core.List.{List, [], ◌∷◌}
use Prim.Native.Nat.{ℕ, suc, ◌+◌, ◌-◌, ◌*◌, ◌/◌, ◌%◌, ◌≤◌, ◌<◌}
use native.Mathlib.Omega.{arith}
use native.Mathlib.Nat.{not-suc-le-zero, le_of_suc-le-suc}
use lib.Dec.{T, eqb, leb, eqb→eq, leb→le}
use lib.IntN.{ℤ, pos, negsuc, nat_abs, sub_ℕ, ◌+ℤ◌}
use lib.ListN.{length}
use borrow.Author.Tests.{eq-eqb, ne_eqb, lt-ltb, le-ltb, le-leb, lt-leb, eqb-true, leb-true, leb-false}
use Rattle.std.specs.Prelude.{Ok, Err}
use Rattle.ranges.specs.Ranges.{between}
use Rattle.answer.specs.declared.Refused.TheVariants.{Range}
use Rattle.symbol.specs.Levels.{activation_levels, data_levels, level_at, same_level, place_in, LevelCode}
use Rattle.symbol.proofs.Numbers.{at_each}

-- activation uses the levels of codes 0011 and 1000
pub activation-codes : (level_at activation_levels 0 ≡ level_at data_levels 0b0011) × (level_at activation_levels 1 ≡ level_at data_levels 0b1000)
activation-codes = (refl, refl)

-- ---- the two maps are inverse

same : (y z : ℤ) → same_level y z ≡ true → y ≡ z
same (pos m) (pos n) e = ap pos (eqb-true m n e)
same (pos m) (negsuc n) e = let z : ◌≡◌ {A = Bool} false true = e in cc
same (negsuc m) (pos n) e = let z : ◌≡◌ {A = Bool} false true = e in cc
same (negsuc m) (negsuc n) e = ap negsuc (eqb-true m n e)

-- from a level to its code and back, in any list
back : (levels : List ℤ) (z : ℤ) → place_in levels z < length levels → level_at levels (place_in levels z) ≡ z
unfolding place_in
back [] z h = absurd (not-suc-le-zero h)
back (y ∷ levels) z h = by (same_level y z) refl (back levels z) h
  where
    by : (t : Bool) → same_level y z ≡ t → (place_in levels z < length levels → level_at levels (place_in levels z) ≡ z)
        → cond t 0 (suc (place_in levels z)) < suc (length levels) → level_at (y ∷ levels) (cond t 0 (suc (place_in levels z))) ≡ z
    by true e rest l = same y z e
    by false e rest l = rest (le_of_suc-le-suc l)

pub level-of-code : (z : ℤ) → place_in data_levels z ≤ 15 → level_at data_levels (place_in data_levels z) ≡ z
level-of-code z h = back data_levels z (omega arith)

-- from a code to its level and back
pub code-of-level : (code : ℕ) → code ≤ 15 → place_in data_levels (level_at data_levels code) ≡ code
unfolding place_in
code-of-level code h =
    eqb→eq (place_in data_levels (level_at data_levels code)) code
    (at_each 16 (λ (k : ℕ). eqb (place_in data_levels (level_at data_levels k)) k) tt code (omega arith))

-- all sixteen differ
pub all-differ : (c d : ℕ) → c ≤ 15 → d ≤ 15 → level_at data_levels c ≡ level_at data_levels d → c ≡ d
all-differ c d h k e = sym (code-of-level c h) ∙ ap (place_in data_levels) e ∙ code-of-level d k

-- each is odd and lies from -15 to 15
pub odd-and-small : (code : ℕ) → code ≤ 15 → (nat_abs (level_at data_levels code) % 2 ≡ 1) × (nat_abs (level_at data_levels code) ≤ 15)
odd-and-small code h = (
  eqb→eq _ 1 (at_each 16 (λ (k : ℕ). eqb (nat_abs (level_at data_levels k) % 2) 1) tt code (omega arith)),
  leb→le _ 15 (at_each 16 (λ (k : ℕ). leb (nat_abs (level_at data_levels k)) 15) tt code (omega arith)),
)

-- ---- what the code computes

-- the place from below of the level with this code. The exchange is its own inverse
abbrev pub rank : ℕ → ℕ
rank code = cond (leb code 7) code (cond (leb code 11) (code + 4) (code - 4))

pub level-by-rank : (code : ℕ) → code ≤ 15 → level_at data_levels code ≡ sub_ℕ (2 * rank code) 15
level-by-rank code h =
    same (level_at data_levels code) (sub_ℕ (2 * rank code) 15)
    (holds _ (at_each 16 (λ (k : ℕ). same_level (level_at data_levels k) (sub_ℕ (2 * rank k) 15)) tt code (omega arith)))
  where
    holds : (t : Bool) → T t → t ≡ true
    holds true h = refl
    holds false h = absurd h

-- the code of the level that lies n sixteenths above -15; 16 where there is none
abbrev pub code_above : ℕ → ℕ
code_above n = cond (eqb (n % 2) 1) 16 (rank (n / 2))

pub place-by-rank : (n : ℕ) → n ≤ 30 → place_in data_levels (sub_ℕ n 15) ≡ code_above n
unfolding place_in
place-by-rank n h =
    eqb→eq (place_in data_levels (sub_ℕ n 15)) (code_above n)
    (at_each 31 (λ (k : ℕ). eqb (place_in data_levels (sub_ℕ k 15)) (code_above k)) tt n (omega arith))

-- no level lies below -15 or above 15
pub place-out : (z : ℤ) → between (negsuc 14) (pos 15) z ≡ false → place_in data_levels z ≡ 16
unfolding place_in
place-out (pos n) e =
    let h : 15 < n = leb-false n 15 e in
    simp (
      ne_eqb 9 n (λ e. omega arith),
      ne_eqb 11 n (λ e. omega arith),
      ne_eqb 13 n (λ e. omega arith),
      ne_eqb 15 n (λ e. omega arith),
      ne_eqb 1 n (λ e. omega arith),
      ne_eqb 3 n (λ e. omega arith),
      ne_eqb 5 n (λ e. omega arith),
      ne_eqb 7 n (λ e. omega arith),
    )
place-out (negsuc n) e =
    let h : 14 < n = leb-false n 14 (sym (and-true (leb n 14)) ∙ e) in
    simp (
      ne_eqb 14 n (λ e. omega arith),
      ne_eqb 12 n (λ e. omega arith),
      ne_eqb 10 n (λ e. omega arith),
      ne_eqb 8 n (λ e. omega arith),
      ne_eqb 6 n (λ e. omega arith),
      ne_eqb 4 n (λ e. omega arith),
      ne_eqb 2 n (λ e. omega arith),
      ne_eqb 0 n (λ e. omega arith),
    )

-- how far a whole number from -15 to 15 lies above -15
pub record Above (z : ℤ) : Type 0 where
  pub far : ℕ
  pub small : far ≤ 30
  pub is : z +ℤ pos 15 ≡ pos far
  pub same : z ≡ sub_ℕ far 15

pub above : (z : ℤ) → between (negsuc 14) (pos 15) z ≡ true → Above z
above (pos n) e =
    record {
      far = n + 15;
      small = omega (arith, leb-true n 15 e);
      is = refl;
      same = rw (le-ltb (n + 15) 15 (omega arith)) (ap pos (omega arith));
    }
above (negsuc n) e =
    let h = leb-true n 14 (sym (and-true (leb n 14)) ∙ e) in
    record {
      far = 15 - suc n;
      small = omega arith;
      is = rw (le-ltb 15 (suc n) (omega arith));
      same = rw (lt-ltb (15 - suc n) 15 (omega arith)) (ap negsuc (omega arith));
    }

-- ---- the promises, met

pub rank-low : (code : ℕ) → code ≤ 7 → rank code ≡ code
rank-low code h = simp (le-leb code 7)

pub rank-middle : (code : ℕ) → 7 < code → code ≤ 11 → rank code ≡ code + 4
rank-middle code h k = simp (lt-leb code 7, le-leb code 11)

pub rank-high : (code : ℕ) → 11 < code → rank code ≡ code - 4
rank-high code h = simp (lt-leb code 7 (omega arith), lt-leb code 11)

pub place-odd : (z : ℤ) (a : Above z) → a.far % 2 ≡ 1 → place_in data_levels z ≡ 16
place-odd z a e = ap (place_in data_levels) a.same ∙ place-by-rank a.far a.small ∙ rw (eq-eqb (a.far % 2) 1 e)

pub place-even : (z : ℤ) (a : Above z) → (a.far % 2 ≡ 1 → ⊥) → place_in data_levels z ≡ rank (a.far / 2)
place-even z a e = ap (place_in data_levels) a.same ∙ place-by-rank a.far a.small ∙ rw (ne_eqb (a.far % 2) 1 e)

-- a level that is not in the table is refused
pub level_code-refused : (z : ℤ) → place_in data_levels z ≡ 16 → LevelCode z (Err Range)
level_code-refused z e = record { answered = rw e; code = tt }

-- a level in the table has the code at its rank
pub level_code-given : (z : ℤ) (n : ℕ) → place_in data_levels z ≡ n → n ≤ 15 → LevelCode z (Ok n)
level_code-given z n e h = record { answered = rw (e, le-ltb 15 n h); code = sym e }
