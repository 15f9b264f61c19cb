-- The messages of a channel, counted: the pieces between its flags (eoc: pieces), each with a flag on either side.
use Rattle.std.specs.Prelude.{Bool, cond, ◌&&◌, List, [], ◌∷◌, ℕ, suc, ◌+◌, eqb, drop}
use Rattle.answer.specs.Answer.{answer}
use Rattle.eoc.specs.Message.{flag, framed}
use Rattle.eoc.specs.Reading.{message_in}
use Rattle.eoc.specs.Refusals.{form_refusals}
use Rattle.eoc.specs.Addresses.{is_meant}

-- the most octets that are read; one more shows that there are too many
abbrev pub most_octets : ℕ
most_octets = 1048576

-- how many octets stand before the first flag
unfoldable pub up_to_flag : List ℕ → ℕ
up_to_flag [] = 0
up_to_flag (o ∷ os) = cond (eqb o flag) 0 (suc (up_to_flag os))

-- the place of the first flag from a place on, or the channel's end
abbrev pub flag_from : List ℕ → ℕ → ℕ
flag_from s at = at + up_to_flag (drop at s)

-- whether a message reads, and whether a unit takes it
abbrev pub is_good : List ℕ → Bool
is_good s = eqb (answer (form_refusals s)) 0

abbrev pub is_taken : ℕ → List ℕ → Bool
is_taken own s = is_good s && is_meant own (message_in s).destination

-- HOW MANY MESSAGES ARE GOOD, of pieces
unfoldable pub count_good : List (List ℕ) → ℕ
count_good [] = 0
count_good (p ∷ ps) = cond (is_good (framed p)) 1 0 + count_good ps

-- HOW MANY A UNIT TAKES
unfoldable pub count_taken : ℕ → List (List ℕ) → ℕ
count_taken own [] = 0
count_taken own (p ∷ ps) = cond (is_taken own (framed p)) 1 0 + count_taken own ps
