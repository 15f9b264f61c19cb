-- Handing a message up (SCOPE, K13 to K17; 002, clause 10.5.5.5): "A unit hands a message up exactly when the destination is its own, or is one that
-- clause 10.5.5.5 makes it answer to. Unit records it isn't meant for stay as they are."
use Rattle.std.specs.Prelude.{Bool, false, cond, not, ◌||◌, List, [], ◌∷◌, ◌++◌, map, ℕ, zero, suc, ◌+◌, ◌/◌, ◌%◌, eqb, leb, length, get_or, take, drop}
use Rattle.answer.specs.Answer.{Refusal, refuse}
use Rattle.eoc.specs.Message.{Message, addresses, contents_most, padded}
use Rattle.eoc.specs.Addresses.{is_meant}
use Rattle.eoc.specs.Refusals.{form_refusals}

-- the octets of a record: own address; 1 once a message stands in it; source; destination; message number; length; contents
abbrev pub record_length : ℕ
record_length = 6 + contents_most

-- what stands behind the own address in the record of a unit that has taken a message
abbrev pub held_for : Message → List ℕ
held_for m = 1 ∷ m.source ∷ m.destination ∷ m.number ∷ length m.contents ∷ padded contents_most m.contents

-- the own address that stands in a record
abbrev pub own_of : List ℕ → ℕ
own_of r = get_or r 0 0

-- whether the message is meant for the unit of a record
abbrev pub takes : Message → List ℕ → Bool
takes m r = is_meant (own_of r) m.destination

-- A RECORD AFTERWARDS: the message where its unit is meant, else what it was
abbrev pub record_after : Message → List ℕ → List ℕ
record_after m r = cond (takes m r) (own_of r ∷ held_for m) r

-- the first n records of octets
unfoldable pub records_of : ℕ → List ℕ → List (List ℕ)
records_of zero s = []
records_of (suc n) s = take record_length s ∷ records_of n (drop record_length s)

-- all of them
abbrev pub records_in : List ℕ → List (List ℕ)
records_in s = records_of (length s / record_length) s

-- octets of records one after the other
unfoldable pub joined : List (List ℕ) → List ℕ
joined [] = []
joined (r ∷ rs) = r ++ joined rs

-- how many units take the message
unfoldable pub count_taking : Message → List (List ℕ) → ℕ
count_taking m [] = 0
count_taking m (r ∷ rs) = cond (takes m r) 1 0 + count_taking m rs

-- ALL RECORDS AFTERWARDS
abbrev pub units_after : Message → List ℕ → List ℕ
units_after m s = joined (map (record_after m) (records_in s))

-- whether an own address does not fit four bits
unfoldable pub some_wide : List (List ℕ) → Bool
some_wide [] = false
some_wide (r ∷ rs) = leb addresses (own_of r) || some_wide rs

-- 1: not a whole number of records; 4: an own address over 15; then what is wrong with the message
abbrev pub hand_up_refusals : List ℕ → List ℕ → List Refusal
hand_up_refusals s units = refuse 1 (not (eqb (length units % record_length) 0)) ∷ refuse 4 (some_wide (records_in units)) ∷ form_refusals s
