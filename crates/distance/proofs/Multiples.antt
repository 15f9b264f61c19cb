-- Multiples of a polynomial: 0, twice one, and a multiple of one. Assumes nothing.
use mathlib.Core.Path.{refl, sym, ap, ◌∙◌, subst}
use mathlib.Core.Bool.{Bool, true, false}
use mathlib.Core.List.{List, [], ◌∷◌}
use Prim.Native.Nat.{ℕ, ◌*◌}
use lib.Bits.{xor_zero_r}
use Rattle.remainder.specs.Division.{scale, times, Multiple}
use Rattle.remainder.proofs.Errors.{sum-multiple}

pub none : (g : ℕ) → Multiple g 0
unfolding times
none g = record { quotient = []; product = refl }

pub twice : (g n : ℕ) → Multiple g n → Multiple g (n * 2)
unfolding times
twice g n m =
    record { quotient = false ∷ m.quotient; product = ap (λ (x : ℕ). x * 2) m.product ∙ sym (xor_zero_r (times m.quotient g * 2)) }

-- a multiple of b is one of a, where b is
pub through : (a b n : ℕ) → Multiple a b → Multiple b n → Multiple a n
unfolding times
through a b n h m = subst (Multiple a) (sym m.product) (go m.quotient)
  where
    scaled : (c : Bool) → Multiple a (scale c b)
    scaled true = h
    scaled false = none a

    go : (q : List Bool) → Multiple a (times q b)
    go [] = none a
    go (c ∷ q) = sum-multiple a (times q b * 2) (scale c b) (twice a (times q b) (go q)) (scaled c)
