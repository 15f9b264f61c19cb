-- What the functions for a card's line promise.
use Rattle.std.specs.Prelude.{Bool, List, ℕ}
use Rattle.ascii.specs.Promises.{Told}
use Rattle.card.specs.declared.Verdict.{Verdict}
use Rattle.cardline.specs.Line.{card_line, heading, csv_line, reference_line}

-- header
abbrev pub Headed : Bool → List ℕ → ℕ → List ℕ → Type 0
Headed given room r exit = Told (heading given) room r exit

-- line
abbrev pub Lined : List ℕ → Verdict → List ℕ → ℕ → List ℕ → Type 0
Lined name v room r exit = Told (card_line name v) room r exit

-- csv
abbrev pub Separated : List ℕ → List ℕ → ℕ → List ℕ → Type 0
Separated line room r exit = Told (csv_line line) room r exit

-- reference
abbrev pub Referred : List ℕ → Verdict → List ℕ → ℕ → List ℕ → Type 0
Referred name v room r exit = Told (reference_line name v) room r exit
