-- One result per call. Assumes nothing.
use mathlib.Core.Path.{◌≡◌, sym, ◌∙◌}
use Prim.Native.Nat.{ℕ}
use Rattle.outside.specs.declared.Status.{Status}
use Rattle.outside.specs.Status.{digit_of}

pub digit-one : (s : Status) (r r' : ℕ) → r ≡ digit_of s → r' ≡ digit_of s → r ≡ r'
digit-one s r r' p q = p ∙ sym q
