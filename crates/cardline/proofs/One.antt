-- One result per call. Assumes nothing.
use mathlib.Core.Path.{◌≡◌}
use mathlib.Core.Bool.{Bool}
use mathlib.Core.List.{List}
use Prim.Native.Nat.{ℕ}
use Rattle.ascii.proofs.One.{told-one}
use Rattle.card.specs.declared.Verdict.{Verdict}
use Rattle.cardline.specs.Line.{card_line, heading, csv_line, reference_line}
use Rattle.cardline.specs.Promises.{Headed, Lined, Separated, Referred}

pub header-one : (given : Bool) (room : List ℕ) (r r' : ℕ) (t t' : List ℕ) → Headed given room r t → Headed given room r' t' → (r ≡ r') × (t ≡ t')
header-one given = told-one (heading given)

pub line-one : (name : List ℕ) (v : Verdict) (room : List ℕ) (r r' : ℕ) (t t' : List ℕ) → Lined name v room r t → Lined name v room r' t'
    → (r ≡ r') × (t ≡ t')
line-one name v = told-one (card_line name v)

pub csv-one : (line room : List ℕ) (r r' : ℕ) (t t' : List ℕ) → Separated line room r t → Separated line room r' t' → (r ≡ r') × (t ≡ t')
csv-one line = told-one (csv_line line)

pub reference-one : (name : List ℕ) (v : Verdict) (room : List ℕ) (r r' : ℕ) (t t' : List ℕ) → Referred name v room r t → Referred name v room r' t'
    → (r ≡ r') × (t ≡ t')
reference-one name v = told-one (reference_line name v)
