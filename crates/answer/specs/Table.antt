-- What comes back (SCOPE), number by number with its meaning: the one table. Header, README and programs have their words from here (tests/answers).
-- A function's checks run in an order of its own, a list of numbers; SCOPE's is the rising one.
use Rattle.std.specs.Prelude.{Bool, true, false, cond, ◌&&◌, List, [], ◌∷◌, ◌++◌, ℕ, eqb}
use Prim.Native.String.{String}
use Rattle.answer.specs.Answer.{Refusal}

-- a number and what it says
pub record Meaning : Type 0 where
  pub number : ℕ
  pub text : String

-- such a number
abbrev pub means : ℕ → String → Meaning
means n t = record { number = n; text = t }

-- no refusal
abbrev pub done : Meaning
done = means 0 "done"

-- the refusals, as SCOPE lists them; 8 is not used (it was: a reserved bit is not zero)
abbrev pub refusals : List Meaning
refusals =
    means 1 "a lent buffer has the wrong length"
    ∷ means 2 "unknown end, frame kind, form or report code"
    ∷ means 3 "coefficient count outside 128 to 180"
    ∷ means 4 "a number outside its range"
    ∷ means 5 "the sync word is not an expected one"
    ∷ means 6 "an unused bit behind the frame is not zero"
    ∷ means 7 "the check bits differ"
    ∷ []

-- and one more that only data-mode frames have, beside 1, 2, 4, 5, 6 and 7
abbrev pub data_refusals : List Meaning
data_refusals = means 9 "stuffing bits that the form cannot have (data-mode frame)" ∷ []

-- and three that only operations channel messages have, beside 1, 4 and 7
abbrev pub eoc_refusals : List Meaning
eoc_refusals =
    means 10 "a flag is missing or stands inside the message (operations channel)"
    ∷ means 11 "an escape other than 7D 5E and 7D 5D (operations channel)"
    ∷ means 12 "the message is too long or too short (operations channel)"
    ∷ []

-- the table's numbers, in its order
abbrev pub numbers_of : List Meaning → List ℕ
numbers_of [] = []
numbers_of (m ∷ ms) = m.number ∷ numbers_of ms

-- SCOPE's order: rising
abbrev pub rising : List ℕ
rising = numbers_of refusals

-- an order from its first n on; nothing where n does not stand in it
abbrev pub from : ℕ → List ℕ → List ℕ
from n [] = []
from n (o ∷ os) = cond (eqb o n) (o ∷ os) (from n os)

-- whether there is one
abbrev pub some : List ℕ → Bool
some [] = false
some (o ∷ os) = true

-- whether a number is one of the table
abbrev pub in_table : ℕ → Bool
in_table n = some (from n (numbers_of (done ∷ refusals ++ data_refusals ++ eoc_refusals)))

-- whether checks run in an order: the number of each stands in it, at or behind that of the one before
unfoldable pub in_turn : List ℕ → List Refusal → Bool
in_turn order [] = true
in_turn order (t ∷ ts) = some (from t.number order) && in_turn (from t.number order) ts
