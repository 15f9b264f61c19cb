-- Octets of a field that may hold text: printable ones at its front, and nothing but zeros behind them.
use Rattle.std.specs.Prelude.{◌≡◌, Bool, true, cond, ◌&&◌, List, [], ◌∷◌, ℕ, suc, leb, eqb, drop}

-- whether an octet is a printable character, a blank (32) to ~ (126)
abbrev pub is_printable : ℕ → Bool
is_printable o = leb 32 o && leb o 126

-- how many printable octets stand at the front
unfoldable pub printables : List ℕ → ℕ
printables [] = 0
printables (o ∷ os) = cond (is_printable o) (suc (printables os)) 0

-- whether all octets are zero
unfoldable pub all_zeros : List ℕ → Bool
all_zeros [] = true
all_zeros (o ∷ os) = eqb o 0 && all_zeros os

-- HOW MANY OCTETS OF A FIELD ARE TEXT: those at its front, where only zeros follow; else none
abbrev pub text_length : List ℕ → ℕ
text_length os = cond (all_zeros (drop (printables os) os)) (printables os) 0

-- text_length
abbrev pub TextLength : List ℕ → ℕ → Type 0
TextLength os r = r ≡ text_length os
