-- What writing, reading and handing up refuse, in SCOPE's order for them (K21): 1, 4, 10, 11, 12, 7; the first that applies to the whole message.
use Rattle.std.specs.Prelude.{not, List, [], ◌∷◌, ℕ, leb, ltb, length}
use Rattle.answer.specs.Answer.{Refusal, refuse, wrong_length}
use Rattle.eoc.specs.Message.{addresses, message_numbers, contents_most, form_most}
use Rattle.eoc.specs.Reading.{between, fields_in, is_between_flags, other_escape, is_length, is_checked}

-- the order
abbrev pub eoc_order : List ℕ
eoc_order = 1 ∷ 4 ∷ 10 ∷ 11 ∷ 12 ∷ 7 ∷ []

-- writing
abbrev pub write_refusals : ℕ → ℕ → ℕ → List ℕ → List ℕ → List Refusal
write_refusals source destination number contents room =
    wrong_length room form_most ∷ refuse 4 (leb addresses source) ∷ refuse 4 (leb addresses destination) ∷ refuse 4 (leb message_numbers number)
    ∷ refuse 12 (ltb contents_most (length contents)) ∷ []

-- what is wrong with a message as it came
abbrev pub form_refusals : List ℕ → List Refusal
form_refusals s =
    refuse 10 (not (is_between_flags s)) ∷ refuse 11 (other_escape (between s))
    ∷ refuse 12 (not (is_length (fields_in s))) ∷ refuse 7 (not (is_checked (fields_in s))) ∷ []

-- reading
abbrev pub read_refusals : List ℕ → List ℕ → List Refusal
read_refusals s room = wrong_length room contents_most ∷ form_refusals s
