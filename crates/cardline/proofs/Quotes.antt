-- The comma-separated form, cell by cell, is that of RFC 4180. Assumes nothing.
use mathlib.Core.Path.{◌≡◌, refl, sym, ap, ap₂, ◌∙◌}
use mathlib.Core.Bool.{Bool, true, false, cond}
use mathlib.Core.List.{List, [], ◌∷◌, ◌++◌, append_assoc}
use Prim.Native.Nat.{ℕ}
use native.Mathlib.Omega.{arith}
use lib.Dec.{eqb}
use Rattle.ascii.specs.Text.{text}
use Rattle.cardline.specs.Line.{csv_octet, csv_octets, csv_line}
use Rattle.cardline.proofs.Cells.{times}

-- a cell with each quote (34) twice
unfoldable pub doubled : List ℕ → List ℕ
doubled [] = []
doubled (o ∷ os) = cond (eqb o 34) (text "\"\"") (o ∷ []) ++ doubled os

-- a cell in quotes
abbrev pub quoted : List ℕ → List ℕ
quoted c = text "\"" ++ doubled c ++ text "\""

-- a cell and those behind it: with a tab between and a line end behind
abbrev pub tabbed : List ℕ → List (List ℕ) → List ℕ
tabbed c [] = c ++ text "\n"
tabbed c (d ∷ ds) = c ++ text "\t" ++ tabbed d ds

-- the same cells in quotes, with a comma between and CR LF behind
abbrev pub separated : List ℕ → List (List ℕ) → List ℕ
separated c [] = quoted c ++ text "\r\n"
separated c (d ∷ ds) = quoted c ++ text "," ++ separated d ds

-- cells that hold no tab and no line end
abbrev pub Free : List (List ℕ) → Type 0
Free [] = Unit {0}
Free (c ∷ cs) = (times 9 c ≡ 0) × (times 10 c ≡ 0) × Free cs

csv-append : (xs ys : List ℕ) → csv_octets (xs ++ ys) ≡ csv_octets xs ++ csv_octets ys
unfolding csv_octets
csv-append [] ys = refl
csv-append (x ∷ xs) ys = ap (λ (l : List ℕ). csv_octet x ++ l) (csv-append xs ys) ∙ sym (append_assoc (csv_octet x) (csv_octets xs) (csv_octets ys))

-- a cell: its quotes are doubled
cell : (c : List ℕ) → times 9 c ≡ 0 → times 10 c ≡ 0 → csv_octets c ≡ doubled c
unfolding csv_octets csv_octet doubled times
cell [] t e = refl
cell (o ∷ os) t e =
    ap₂ ◌++◌ (octet (eqb o 9) (eqb o 10) (omega arith) (omega arith)) (cell os (omega arith) (omega arith))
  where
    octet : (b c : Bool) → ◌≡◌ {A = ℕ} (cond b 1 0) 0 → ◌≡◌ {A = ℕ} (cond c 1 0) 0
        → cond b (text "\",\"") (cond c (text "\"\r\n") (cond (eqb o 34) (text "\"\"") (o ∷ []))) ≡ cond (eqb o 34) (text "\"\"") (o ∷ [])
    octet true c h l = absurd (omega arith)
    octet false true h l = absurd (omega arith)
    octet false false h l = refl

-- a whole line
pub csv-is : (c : List ℕ) (cs : List (List ℕ)) → Free (c ∷ cs) → csv_line (tabbed c cs) ≡ separated c cs
unfolding csv_line csv_octets csv_octet
csv-is c [] h =
    ap (λ (l : List ℕ). text "\"" ++ l) (csv-append c (text "\n") ∙ ap (λ (l : List ℕ). l ++ text "\"\r\n") (cell c h.0 h.1))
    ∙ (simp append_assoc)
csv-is c (d ∷ ds) h =
    ap (λ (l : List ℕ). text "\"" ++ l)
    (csv-append (c ++ text "\t") (tabbed d ds) ∙ ap (λ (l : List ℕ). l ++ csv_octets (tabbed d ds)) (csv-append c (text "\t"))
    ∙ ap (λ (l : List ℕ). l ++ text "\",\"" ++ csv_octets (tabbed d ds)) (cell c h.0 h.1))
    ∙ (simp append_assoc)
    ∙ ap (λ (l : List ℕ). quoted c ++ text "," ++ l) (csv-is d ds h.2)
