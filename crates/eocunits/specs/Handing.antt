-- For private functions only; no promise of a public function names this: the same with what a record is to hold as octets.
use Rattle.std.specs.Prelude.{cond, List, [], ◌∷◌, ℕ, ◌+◌}
use Rattle.eoc.specs.Addresses.{is_meant}
use Rattle.eocreader.specs.declared.Found.{Found}
use Rattle.eocunits.specs.Units.{own_of}

-- what stands behind the own address: the message's numbers, and its contents as reading gives them
abbrev pub tail_of : Found → List ℕ → List ℕ
tail_of f contents = 1 ∷ f.source ∷ f.destination ∷ f.number ∷ f.length ∷ contents

-- a record afterwards, where a message for destination d puts so many octets behind the own address
abbrev pub put_in : ℕ → List ℕ → List ℕ → List ℕ
put_in d tail r = cond (is_meant (own_of r) d) (own_of r ∷ tail) r

-- how many records it is put into
unfoldable pub count_meant : ℕ → List (List ℕ) → ℕ
count_meant d [] = 0
count_meant d (r ∷ rs) = cond (is_meant (own_of r) d) 1 0 + count_meant d rs
