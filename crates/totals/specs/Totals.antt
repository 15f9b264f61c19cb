-- The totals of sorted cards, over a list with each card's verdict (card: Ranks): how many there are and how many are fine, then a line
-- for each verdict that occurs, the worst first, and a last line for a script.
use Rattle.std.specs.Prelude.{Bool, cond, List, [], ◌∷◌, ◌++◌, ℕ, zero, suc, ◌+◌, ◌-◌, min, eqb, ltb, length}
use Rattle.ascii.specs.Text.{text}
use Rattle.forms.specs.Forms.{formed}
use Rattle.card.specs.Ranks.{cannot_be_read, matching, good, verdicts}
use Rattle.card.specs.Words.{row_of_rank, refused_row, name_of, todo}
use Rattle.totals.specs.declared.Sorted.{Sorted}
use Rattle.totals.specs.declared.Sorted.TheVariants.{Fine, NotFine, NotRead}

-- how many verdicts of a list are x
unfoldable pub how_many : ℕ → List ℕ → ℕ
how_many x [] = 0
how_many x (y ∷ ys) = cond (eqb y x) 1 0 + how_many x ys

-- the verdict of a card that is fine: beside a customer a match, without one good
abbrev pub fine : Bool → ℕ
fine given = cond given matching good

-- the highest number that is written; a higher count is written as this
abbrev pub most_written : ℕ
most_written = 4294967295

-- a count as it is written
abbrev pub written : ℕ → ℕ
written n = min n most_written

-- so many cards: "1 card: ", "340 cards: "
unfoldable pub cards_text : ℕ → List ℕ
cards_text n = cond (eqb n 1) (text "1 card: ") (formed (text "# cards: ") (written n ∷ []))

-- so many fine, so many not: "204 match, 136 do not"
unfoldable pub fine_text : Bool → ℕ → ℕ → List ℕ
fine_text given n rest = formed (cond given (text "# match, # do not\n") (text "# good, # bad\n")) (written n ∷ written rest ∷ [])

-- the first line
unfoldable pub first_line : Bool → List ℕ → List ℕ
first_line given ranks =
    cards_text (length ranks) ++ fine_text given (how_many (fine given) ranks) (length ranks - how_many (fine given) ranks)

-- between a verdict's name and what to do: a refusal's name has a colon already
unfoldable pub joint : ℕ → List ℕ
joint n = cond (eqb (row_of_rank n) refused_row) (text "; ") (text ": ")

-- a line for a verdict that so many cards have: "44 TURNED: do not ship; words stand last bit first"
unfoldable pub verdict_line : ℕ → ℕ → List ℕ
verdict_line n count = cond (eqb count 0) [] (formed (text "# ") (written count ∷ []) ++ name_of n ++ joint n ++ todo n ++ text "\n")

-- the lines for the verdicts below n
unfoldable pub verdict_lines : ℕ → List ℕ → List ℕ
verdict_lines zero ranks = []
verdict_lines (suc n) ranks = verdict_lines n ranks ++ verdict_line n (how_many n ranks)

-- whether every card is fine
abbrev pub all_fine : Bool → List ℕ → Bool
all_fine given ranks = eqb (how_many (fine given) ranks) (length ranks)

-- the last line's first word, where not every card is fine
unfoldable pub not_text : Bool → List ℕ
not_text all = cond all [] (text "not ")

-- the last line: "all match", "not all match", and with no customer "all good", "not all good"
unfoldable pub last_line : Bool → Bool → List ℕ
last_line given all = not_text all ++ cond given (text "all match\n") (text "all good\n")

-- the totals
unfoldable pub totals_text : Bool → List ℕ → List ℕ
totals_text given ranks = first_line given ranks ++ verdict_lines verdicts ranks ++ last_line given (all_fine given ranks)

-- the digit that says how it went: 0 every card is fine, 1 not, 2 where a file cannot be read
unfoldable pub status_of : Bool → List ℕ → ℕ
status_of given ranks = cond (ltb 0 (how_many cannot_be_read ranks)) 2 (cond (all_fine given ranks) 0 1)

-- how a sorting went, as that digit
abbrev pub sorted_number : Sorted → ℕ
sorted_number Fine = 0
sorted_number NotFine = 1
sorted_number NotRead = 2
