-- One result per call. Assumes nothing.
use mathlib.Core.Path.{◌≡◌, sym, ◌∙◌}
use Prim.Native.Nat.{ℕ}
use Rattle.answer.specs.declared.Refused.{Refused}
use Rattle.answer.specs.Given.{number_of}

pub number-of-one : (e : Refused) (r s : ℕ) → r ≡ number_of e → s ≡ number_of e → r ≡ s
number-of-one e r s h k = h ∙ sym k
