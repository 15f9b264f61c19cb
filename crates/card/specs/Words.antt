-- The words for each verdict (Ranks): its name, and what to do. A table's rows are counted from 0.
use Rattle.std.specs.Prelude.{cond, List, [], ◌∷◌, ◌++◌, ℕ, ◌-◌, ◌+◌, eqb, ltb}
use Rattle.ascii.specs.Text.{text}
use Rattle.forms.specs.Forms.{formed, row_of}
use Rattle.card.specs.Ranks.{cannot_be_read, last_refusal}

-- the row of all refusals
abbrev pub refused_row : ℕ
refused_row = 1

-- the row of a verdict: cannot be read, 0; refused with any answer; then the others as they are numbered
abbrev pub row_of_rank : ℕ → ℕ
row_of_rank n = cond (eqb n cannot_be_read) 0 (cond (ltb last_refusal n) (n - last_refusal + refused_row) refused_row)

-- the verdicts' names; a refusal's number and reason follow
abbrev pub names : List ℕ
names = text "cannot be read\nrefused \nfinal frame\nTURNED\nother words\nmatch\ngood\n"

-- what to do about each
abbrev pub todos : List ℕ
todos =
    text "check the file\ndo not ship; capture its frame again\ncapture its training frame; this one has no A and B\n"
    ++ text "do not ship; words stand last bit first\ndo not ship as a replacement; A or B differs\nship\ncompare with a customer's frame\n"

-- why a frame is refused, by the answer's number
abbrev pub reasons : List ℕ
reasons =
    text "\nthe file is not as long as a frame\nunknown end, frame kind or report code\ncoefficient count outside 128 to 180\n"
    ++ text "a number outside its range\nthe sync word is neither of the two, so it is no frame\n"
    ++ text "a pad bit is not zero, so it is more than a frame\n"
    ++ text "the check bits differ, so it is damaged\n"

-- behind the word "refused": "7: the check bits differ, so it is damaged"
unfoldable pub refusal : ℕ → List ℕ
refusal n = formed (text "#: ") (n ∷ []) ++ row_of reasons n

-- a verdict's name
unfoldable pub name_of : ℕ → List ℕ
name_of n = row_of names (row_of_rank n) ++ cond (eqb (row_of_rank n) refused_row) (refusal n) []

-- what to do with a card
unfoldable pub todo : ℕ → List ℕ
todo n = row_of todos (row_of_rank n)
