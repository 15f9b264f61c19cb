-- The first of some places that a test takes: what that means, and that there is one. Assumes nothing.
use mathlib.Core.Path.{◌≡◌, refl, sym, subst, ◌∙◌}
use mathlib.Core.Bool.{Bool, true, false, cond, false≢true}
use Prim.Native.Nat.{ℕ, zero, suc, ◌+◌, ◌≤◌, ◌<◌}
use native.Mathlib.Decide.{dec_le}
use native.Mathlib.Omega.{arith}
use Rattle.receiver.specs.Promises.{first_that}

-- r is the first of n places from b on that a test takes, or the place behind them
pub record First (test : ℕ → Bool) (b n r : ℕ) : Type 0 where
  pub from : b ≤ r
  pub to : r ≤ b + n
  pub holds : r < b + n → test r ≡ true
  pub before : (q : ℕ) → b ≤ q → q < r → test q ≡ false

pub first_is : (test : ℕ → Bool) (b n : ℕ) → First test b n (first_that test b n)
unfolding first_that
first_is test b zero =
    record { from = omega arith; to = omega arith; holds = λ h. absurd (omega arith); before = λ q p l. absurd (omega arith) }
first_is test b (suc n) = pick (test b) refl (first_is test (suc b) n)
  where
    pick : (t : Bool) → test b ≡ t → First test (suc b) n (first_that test (suc b) n) → First test b (suc n) (cond t b (first_that test (suc b) n))
    pick true e f = record { from = omega arith; to = omega arith; holds = λ h. e; before = λ q p l. absurd (omega arith) }
    pick false e f =
        record {
          from = omega (arith, f.from);
          to = omega (arith, f.to);
          holds = λ h. f.holds (omega arith);
          before = λ q p l. at q p l (dec_le (suc b) q);
        }
      where
        at : (q : ℕ) → b ≤ q → q < first_that test (suc b) n → Dec (suc b ≤ q) → test q ≡ false
        at q p l (yes k) = f.before q k l
        at q p l (no k) = let e' : b ≡ q = omega arith in subst (λ (i : ℕ). test i ≡ false) e' e

pub first_one : (test : ℕ → Bool) (b n r : ℕ) → First test b n r → r ≡ first_that test b n
first_one test b n r f = pick (dec_le r x) (dec_le x r)
  where
    x : ℕ
    x = first_that test b n

    g : First test b n x
    g = first_is test b n

    pick : Dec (r ≤ x) → Dec (x ≤ r) → r ≡ x
    pick (yes h) (yes k) = omega arith
    pick (yes h) (no k) = absurd (false≢true (sym (g.before r f.from (omega arith)) ∙ f.holds (omega (arith, g.to))))
    pick (no h) k = absurd (false≢true (sym (f.before x g.from (omega arith)) ∙ g.holds (omega (arith, f.to))))

-- ---- for loops: no place before k is taken

abbrev pub NoneTo : (ℕ → Bool) → ℕ → ℕ → Type 0
NoneTo test b k = (q : ℕ) → b ≤ q → q < k → test q ≡ false

-- nor is k
pub none_more : (test : ℕ → Bool) (b k : ℕ) → NoneTo test b k → test k ≡ false → NoneTo test b (k + 1)
none_more test b k h e q p l = pick (dec_le k q)
  where
    pick : Dec (k ≤ q) → test q ≡ false
    pick (yes m) = let s : k ≡ q = omega arith in subst (λ (i : ℕ). test i ≡ false) s e
    pick (no m) = h q p (omega arith)

-- nor are those before m
pub none-further : (test : ℕ → Bool) (b k m : ℕ) → NoneTo test b k → NoneTo test k m → NoneTo test b m
none-further test b k m h g q p l = pick (dec_le k q)
  where
    pick : Dec (k ≤ q) → test q ≡ false
    pick (yes i) = g q i l
    pick (no i) = h q p (omega arith)

-- k is taken
pub found_at : (test : ℕ → Bool) (b n k : ℕ) → b ≤ k → k < b + n → NoneTo test b k → test k ≡ true → k ≡ first_that test b n
found_at test b n k h l f e = first_one test b n k (record { from = h; to = omega arith; holds = λ m. e; before = f })

-- none is
pub found_none : (test : ℕ → Bool) (b n k : ℕ) → k ≡ b + n → NoneTo test b k → k ≡ first_that test b n
found_none test b n k h f = first_one test b n k (record { from = omega arith; to = omega arith; holds = λ m. absurd (omega arith); before = f })
