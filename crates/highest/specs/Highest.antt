-- The coefficients in use, as far as a frame shows them: up to the highest that is not zero.
use Rattle.std.specs.Prelude.{Bool, true, false, cond, ◌&&◌, List, [], ◌∷◌, ℕ, zero, suc, ℤ, pos, negsuc}

-- whether a coefficient is zero
unfoldable pub is_zero : ℤ → Bool
is_zero (pos zero) = true
is_zero (pos (suc n)) = false
is_zero (negsuc n) = false

-- whether all are
unfoldable pub all_zero : List ℤ → Bool
all_zero [] = true
all_zero (c ∷ cs) = is_zero c && all_zero cs

-- the number of the highest non-zero coefficient, the first being number 1; 0 where all are zero
unfoldable pub highest : List ℤ → ℕ
highest [] = 0
highest (c ∷ cs) = cond (all_zero (c ∷ cs)) 0 (suc (highest cs))
