-- What is said behind the lines of messages: what was left out, and how many messages there were.
use Rattle.std.specs.Prelude.{cond, ◌&&◌, List, [], ◌∷◌, ◌++◌, ℕ, ◌-◌, eqb, ltb}
use Rattle.ascii.specs.Text.{text}
use Rattle.ascii.specs.Promises.{Told}
use Rattle.forms.specs.Forms.{formed, row_of}
use Rattle.eoc.specs.Message.{addresses}
use Rattle.eoclisting.specs.Names.{units}
use Rattle.eoclisting.specs.declared.Counts.{Counts}

-- octets that no flag stands before, and octets that none stands behind
unfoldable pub left_text : ℕ → ℕ → List ℕ
left_text before behind =
    cond (eqb before 0 && eqb behind 0) [] (formed (text "left out: octets before the first flag: #, behind the last: #\n") (before ∷ behind ∷ []))

-- so many messages, so many of them good; the others are refused
unfoldable pub count_text : ℕ → ℕ → List ℕ
count_text n good =
    cond (eqb n 1) (formed (text "# message: # good, # refused") (n ∷ good ∷ (n - good) ∷ []))
    (formed (text "# messages: # good, # refused") (n ∷ good ∷ (n - good) ∷ []))

-- how many of them a unit takes, by its address; an address that no unit can have asks for nothing
unfoldable pub taken_text : ℕ → ℕ → List ℕ
taken_text own taken = cond (ltb own addresses) (text "; " ++ row_of units own ++ formed (text " takes #") (taken ∷ [])) []

-- THE TOTALS
unfoldable pub totals_text : Counts → List ℕ
totals_text c = left_text c.before c.behind ++ count_text c.messages c.good ++ taken_text c.own c.taken ++ text "\n"

-- totals
abbrev pub Totalled : Counts → List ℕ → ℕ → List ℕ → Type 0
Totalled c room r exit = Told (totals_text c) room r exit
