-- Text by phrases: rows of a table, one behind the other, each with a number for its marks.
use Rattle.std.specs.Prelude.{cond, List, [], ◌∷◌, ◌++◌, ℕ, ◌/◌, ◌%◌, eqb}
use Rattle.ascii.specs.Text.{text, decimal}
use Rattle.forms.specs.Forms.{row_of}
use Rattle.phrases.specs.declared.Phrase.{Phrase}

-- n thousandths with three decimals: "2.800"
unfoldable pub thousandths : ℕ → List ℕ
thousandths n = decimal (n / 1000) ++ text "." ++ decimal (n / 100 % 10) ++ decimal (n / 10 % 10) ++ decimal (n % 10)

-- an octet of a phrase: # (35) is n in decimal, @ (64) n thousandths, $ (36) the end of a line, and any other is itself
unfoldable pub marked : ℕ → ℕ → List ℕ
marked n o = cond (eqb o 35) (decimal n) (cond (eqb o 64) (thousandths n) (cond (eqb o 36) (text "\n") (o ∷ [])))

-- a text with the number n for its marks
unfoldable pub phrase : List ℕ → ℕ → List ℕ
phrase [] n = []
phrase (o ∷ os) n = marked n o ++ phrase os n

-- a row of a table, with the number n for its marks
abbrev pub phrase_of : List ℕ → ℕ → ℕ → List ℕ
phrase_of table row n = phrase (row_of table row) n

-- phrases one behind the other: the row of each, and its number
unfoldable pub phrases : List ℕ → List ℕ → List ℕ
phrases table [] = []
phrases table (row ∷ []) = []
phrases table (row ∷ n ∷ said) = phrase_of table row n ++ phrases table said

-- phrases as numbers: the row of each, and its number
abbrev pub said_of : List Phrase → List ℕ
said_of [] = []
said_of (p ∷ ps) = p.row ∷ p.number ∷ said_of ps
