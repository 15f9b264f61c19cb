-- Laws of whole numbers and of tests over a range. Assumes nothing.
use mathlib.Core.Path.{◌≡◌, refl, sym, subst}
use mathlib.Core.Bool.{Bool, true, false, ◌&&◌}
use Prim.Native.Nat.{ℕ, zero, suc, ◌<◌}
use native.Mathlib.Nat.{not-suc-le-zero, le_of_suc-le-suc}
use lib.Arith.{lt_of_le-ne}
use lib.Dec.{T, eqb}
use borrow.Author.Tests.{eqb-true, eqb-false}

-- whether a test holds at every number below n
abbrev pub all_below : ℕ → (ℕ → Bool) → Bool
all_below zero t = true
all_below (suc n) t = t n && all_below n t

and_left : (a b : Bool) → T (a && b) → T a
and_left true b h = tt
and_left false b h = absurd h

and_right : (a b : Bool) → T (a && b) → T b
and_right true b h = h
and_right false b h = absurd h

-- what was computed at every number below n holds at each
pub at_each : (n : ℕ) (t : ℕ → Bool) → T (all_below n t) → (k : ℕ) → k < n → T (t k)
at_each zero t h k l = absurd (not-suc-le-zero l)
at_each (suc n) t h k l = by (eqb k n) refl (at_each n t (and_right (t n) (all_below n t) h) k)
  where
    by : (b : Bool) → eqb k n ≡ b → (k < n → T (t k)) → T (t k)
    by true e below = subst (λ (i : ℕ). T (t i)) (sym (eqb-true k n e)) (and_left (t n) (all_below n t) h)
    by false e below = below (lt_of_le-ne (le_of_suc-le-suc l) (eqb-false k n e))
