-- Laws of ranges: numbers from -(h + 1) to h, one by one and in lists. Assumes nothing.
use mathlib.Core.Path.{◌≡◌, refl, sym, ap, ◌∙◌}
use mathlib.Core.Bool.{Bool, true, false, ◌&&◌, and-true, false≢true}
use mathlib.Core.List.{List, [], ◌∷◌, ◌++◌}
use Prim.Native.Nat.{ℕ, zero, suc, ◌≤◌, ◌<◌, zero-le}
use native.Mathlib.Nat.{not-suc-le-zero, le_of_suc-le-suc}
use borrow.Author.Tests.{le-leb, leb-true}
use lib.Dec.{leb}
use lib.IntN.{ℤ, pos, negsuc}
use lib.ListN.{length, get_or, take, replicate}
use lib.Signed.{mag}
use Rattle.std.specs.List.{list_all, fold}
use Rattle.std.proofs.Math.Bool.{and_assoc}
use Rattle.ranges.specs.Ranges.{between, every}

-- two tests that both hold
pub both : (s t : Bool) → (s && t) ≡ true → (s ≡ true) × (t ≡ true)
both true t e = (refl, e)
both false t e = absurd (false≢true e)

-- ---- one number

-- from -(h + 1) to h, and back
pub range-mag : (h : ℕ) (z : ℤ) → between (negsuc h) (pos h) z ≡ true → mag z ≤ h
range-mag h (pos n) e = leb-true n h e
range-mag h (negsuc n) e = leb-true n h (both (leb n h) true e).0

pub mag-range : (h : ℕ) (z : ℤ) → mag z ≤ h → between (negsuc h) (pos h) z ≡ true
mag-range h (pos n) l = le-leb n h l
mag-range h (negsuc n) l = and-true (leb n h) ∙ le-leb n h l

-- ---- a list

-- the test of every number, as an iterator makes it
pub every-all : (test : ℤ → Bool) (zs : List ℤ) → list_all test zs ≡ every test zs
unfolding every
every-all test [] = refl
every-all test (z ∷ zs) = ap (λ (t : Bool). test z && t) (every-all test zs)

pub every-folded : (test : ℤ → Bool) (a : Bool) (zs : List ℤ) → fold (λ b z. b && test z) a zs ≡ (a && every test zs)
unfolding every
every-folded test a [] = sym (and-true a)
every-folded test a (z ∷ zs) = every-folded test (a && test z) zs ∙ and_assoc a (test z) (every test zs)

pub every-at : (test : ℤ → Bool) (zs : List ℤ) (i : ℕ) → i < length zs → every test zs ≡ true → test (get_or zs i (pos 0)) ≡ true
unfolding every
every-at test [] i h e = absurd (not-suc-le-zero h)
every-at test (z ∷ zs) zero h e = (both (test z) (every test zs) e).0
every-at test (z ∷ zs) (suc i) h e = every-at test zs i (le_of_suc-le-suc h) (both (test z) (every test zs) e).1

pub every_append : (test : ℤ → Bool) (zs ys : List ℤ) → every test zs ≡ true → every test ys ≡ true → every test (zs ++ ys) ≡ true
unfolding every
every_append test [] ys e f = f
every_append test (z ∷ zs) ys e f =
    let p = both (test z) (every test zs) e in
    rw p.0 (every_append test zs ys p.1 f)

pub every-same : (test : ℤ → Bool) (n : ℕ) (z : ℤ) → test z ≡ true → every test (replicate n z) ≡ true
unfolding every
every-same test zero z e = refl
every-same test (suc n) z e = rw e (every-same test n z e)

pub every_take : (test : ℤ → Bool) (n : ℕ) (zs : List ℤ) → every test zs ≡ true → every test (take n zs) ≡ true
unfolding every
every_take test zero zs e = refl
every_take test (suc n) [] e = refl
every_take test (suc n) (z ∷ zs) e =
    let p = both (test z) (every test zs) e in
    rw p.0 (every_take test n zs p.1)

-- past the end stands 0, so a bound on the numbers of a list holds at every place
pub mag-at : (h : ℕ) (zs : List ℤ) (i : ℕ) → every (between (negsuc h) (pos h)) zs ≡ true → mag (get_or zs i (pos 0)) ≤ h
unfolding every
mag-at h [] i e = zero-le
mag-at h (z ∷ zs) zero e = range-mag h z (both (between (negsuc h) (pos h) z) (every (between (negsuc h) (pos h)) zs) e).0
mag-at h (z ∷ zs) (suc i) e = mag-at h zs i (both (between (negsuc h) (pos h) z) (every (between (negsuc h) (pos h)) zs) e).1
