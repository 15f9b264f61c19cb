-- Text by forms and tables.
use Rattle.std.specs.Prelude.{Bool, true, false, List, [], ◌∷◌, ◌++◌, ℕ, zero, suc, eqb, drop}
use Rattle.ascii.specs.Text.{decimal}

-- the first of some numbers in decimal, where there is one
unfoldable pub first_of : List ℕ → List ℕ
first_of [] = []
first_of (n ∷ ns) = decimal n

-- a form from its octet o on, which is a mark or not; the next number is put for a mark
unfoldable pub formed_by : Bool → ℕ → (List ℕ → List ℕ) → List ℕ → List ℕ
formed_by true o rest ns = first_of ns ++ rest (drop 1 ns)
formed_by false o rest ns = o ∷ rest ns

-- a form with its numbers; its marks are # (35)
unfoldable pub formed : List ℕ → List ℕ → List ℕ
formed [] ns = []
formed (o ∷ os) ns = formed_by (eqb o 35) o (formed os) ns

-- row n of a table from its octet o on, which is a newline or not
unfoldable pub row_by : Bool → ℕ → (ℕ → List ℕ) → ℕ → List ℕ
row_by true o rest zero = []
row_by true o rest (suc n) = rest n
row_by false o rest zero = o ∷ rest zero
row_by false o rest (suc n) = rest (suc n)

-- row number n of a table, counted from 0; each ends with a newline (10), and behind the last there is nothing
unfoldable pub row_of : List ℕ → ℕ → List ℕ
row_of [] n = []
row_of (o ∷ os) n = row_by (eqb o 10) o (row_of os) n
