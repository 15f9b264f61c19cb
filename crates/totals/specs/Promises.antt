-- What telling the totals promises.
use Rattle.std.specs.Prelude.{◌≡◌, Bool, List, ℕ}
use Rattle.ascii.specs.Promises.{Told}
use Rattle.totals.specs.declared.Sorted.{Sorted}
use Rattle.totals.specs.Totals.{totals_text, status_of, sorted_number}

-- totals
abbrev pub Totalled : Bool → List ℕ → List ℕ → ℕ → List ℕ → Type 0
Totalled given ranks room r exit = Told (totals_text given ranks) room r exit

-- status
abbrev pub IsStatus : Bool → List ℕ → Sorted → Type 0
IsStatus given ranks r = sorted_number r ≡ status_of given ranks
