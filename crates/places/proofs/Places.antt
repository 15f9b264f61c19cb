-- Every bit belongs to one field and to no other, whatever the widths are. Assumes nothing.
use mathlib.Core.Path.{◌≡◌, refl, sym, ap, ◌∙◌}
use mathlib.Core.Logic.{◌⊎◌, inl, inr}
use mathlib.Core.List.{List, [], ◌∷◌, ◌++◌}
use Prim.Native.Nat.{ℕ, zero, suc, ◌+◌, ◌-◌, ◌*◌, ◌≤◌, ◌<◌, zero-le}
use native.Mathlib.Decide.{dec_lt}
use native.Mathlib.Nat.{le_of_suc-le-suc, not-suc-le-zero, zero-add, mul-zero, mul-suc}
use native.Mathlib.Omega.{arith}
use lib.ListN.{length, replicate}
use Rattle.places.specs.Places.{total, width_in, place_in, Holds, Held}

-- ---- places

-- the next field begins where this one ends
pub place-next : (ws : List ℕ) (k : ℕ) → place_in ws (suc k) ≡ place_in ws k + width_in ws k
place-next [] zero = refl
place-next [] (suc k) = refl
place-next (w ∷ ws) zero = omega arith
place-next (w ∷ ws) (suc k) = omega (arith, place-next ws k)

pub place-grows : (ws : List ℕ) (i j : ℕ) → i ≤ j → place_in ws i ≤ place_in ws j
place-grows ws zero j h = zero-le
place-grows ws (suc i) zero h = absurd (not-suc-le-zero h)
place-grows [] (suc i) (suc j) h = zero-le
place-grows (w ∷ ws) (suc i) (suc j) h = omega (arith, place-grows ws i j (le_of_suc-le-suc h))

-- the place behind all fields
pub place_end : (ws : List ℕ) → place_in ws (length ws) ≡ total ws
place_end [] = refl
place_end (w ∷ ws) = omega (arith, place_end ws)

pub place-most : (ws : List ℕ) (k : ℕ) → place_in ws k ≤ total ws
place-most ws zero = zero-le
place-most [] (suc k) = zero-le
place-most (w ∷ ws) (suc k) = omega (arith, place-most ws k)

-- a field lies within all bits
pub inside : (ws : List ℕ) (k : ℕ) → place_in ws k + width_in ws k ≤ total ws
inside ws k = omega (arith, place-next ws k, place-most ws (suc k))

-- ---- no two fields share a bit

-- a field ends before each later one begins
pub apart : (ws : List ℕ) (i j : ℕ) → i < j → place_in ws i + width_in ws i ≤ place_in ws j
apart ws i j h = omega (arith, place-next ws i, place-grows ws (suc i) j h)

-- fields of other numbers lie before or behind
pub aside : (ws : List ℕ) (i j : ℕ) → (i ≡ j → ⊥) → (place_in ws i + width_in ws i ≤ place_in ws j) ⊎ (place_in ws j + width_in ws j ≤ place_in ws i)
aside ws i j n = pick (dec_lt i j)
  where
    pick : Dec (i < j) → (place_in ws i + width_in ws i ≤ place_in ws j) ⊎ (place_in ws j + width_in ws j ≤ place_in ws i)
    pick (yes h) = inl (apart ws i j h)
    pick (no h) = inr (apart ws j i (other (dec_lt j i)))
      where
        other : Dec (j < i) → j < i
        other (yes g) = g
        other (no g) = absurd (n (omega arith))

-- two fields that hold the same bit are one
pub holds-one : (ws : List ℕ) (i j at : ℕ) → Holds ws i at → Holds ws j at → i ≡ j
holds-one ws i j at p q = pick (dec_lt i j) (dec_lt j i)
  where
    pick : Dec (i < j) → Dec (j < i) → i ≡ j
    pick (yes h) d = absurd (omega (arith, apart ws i j h, p.within, q.begun))
    pick (no h) (yes g) = absurd (omega (arith, apart ws j i g, q.within, p.begun))
    pick (no h) (no g) = omega arith

-- ---- together they are all bits

-- each belongs to one
pub held : (ws : List ℕ) (at : ℕ) → at < total ws → Held ws at
held [] at h = absurd (not-suc-le-zero h)
held (w ∷ ws) at h = pick (dec_lt at w) (held ws (at - w))
  where
    later : Held ws (at - w) → (at < w → ⊥) → Held (w ∷ ws) at
    later f n =
        record {
          number = suc f.number;
          listed = omega (arith, f.listed);
          holds = record { begun = omega (arith, f.holds.begun); within = omega (arith, f.holds.within) };
        }

    pick : Dec (at < w) → (at - w < total ws → Held ws (at - w)) → Held (w ∷ ws) at
    pick (yes l) f = record { number = 0; listed = omega arith; holds = record { begun = zero-le; within = omega arith } }
    pick (no n) f = later (f (omega arith)) n

-- ---- widths one list behind the other, and equal widths

pub total-append : (us ws : List ℕ) → total (us ++ ws) ≡ total us + total ws
total-append [] ws = omega arith
total-append (u ∷ us) ws = omega (arith, total-append us ws)

-- field k of the second list is field j of both
pub place-append : (us ws : List ℕ) (k j : ℕ) → length us + k ≡ j → place_in (us ++ ws) j ≡ total us + place_in ws k
place-append [] ws k j e = omega (arith, ap (place_in ws) e, ap (place_in ws) (zero-add k))
place-append (u ∷ us) ws k zero e = absurd (omega arith)
place-append (u ∷ us) ws k (suc j) e = omega (arith, place-append us ws k j (omega arith))

pub width-append : (us ws : List ℕ) (k j : ℕ) → length us + k ≡ j → width_in (us ++ ws) j ≡ width_in ws k
width-append [] ws k j e = ap (width_in ws) (sym e ∙ zero-add k)
width-append (u ∷ us) ws k zero e = absurd (omega arith)
width-append (u ∷ us) ws k (suc j) e = width-append us ws k j (omega arith)

pub total-equal : (n w : ℕ) → total (replicate n w) ≡ w * n
total-equal zero w = omega (arith, mul-zero w)
total-equal (suc n) w = omega (arith, mul-suc w n, total-equal n w)
