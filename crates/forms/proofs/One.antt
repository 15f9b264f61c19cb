-- One result per call. Assumes nothing.
use mathlib.Core.Path.{◌≡◌, sym, ◌∙◌}
use mathlib.Core.List.{List}
use Prim.Native.Nat.{ℕ}
use Rattle.forms.specs.Forms.{row_of}

pub row-one : (table : List ℕ) (n : ℕ) (r r' : List ℕ) → r ≡ row_of table n → r' ≡ row_of table n → r ≡ r'
row-one table n r r' p q = p ∙ sym q
