-- One result per call. Assumes nothing.
use mathlib.Core.Path.{◌≡◌, sym, ◌∙◌}
use mathlib.Core.List.{List}
use Prim.Native.Nat.{ℕ}
use lib.IntN.{ℤ}
use Rattle.numbers.specs.Promises.{NumberRead, NumberPut, NumbersRead, NumbersPut}

pub number-one : (os : List ℕ) (k : ℕ) (r r' : ℤ) → NumberRead os k r → NumberRead os k r' → r ≡ r'
number-one os k r r' p q = p ∙ sym q

pub put-number-one : (os : List ℕ) (k : ℕ) (z : ℤ) (t t' : List ℕ) → NumberPut os k z t → NumberPut os k z t' → t ≡ t'
put-number-one os k z t t' p q = p ∙ sym q

pub numbers-one : (os : List ℕ) (r r' : List ℤ) → NumbersRead os r → NumbersRead os r' → r ≡ r'
numbers-one os r r' p q = p ∙ sym q

pub put-numbers-one : (os : List ℕ) (zs : List ℤ) (t t' : List ℕ) → NumbersPut os zs t → NumbersPut os zs t' → t ≡ t'
put-numbers-one os zs t t' p q = p ∙ sym q
