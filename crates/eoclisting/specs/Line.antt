-- A line for each message of the channel: its place, from whom to whom, its number and name, its contents; or why it is refused.
use Rattle.std.specs.Prelude.{List, [], ◌∷◌, ◌++◌, cond, ℕ, zero, suc, ◌-◌, eqb}
use Rattle.answer.specs.Answer.{answer}
use Rattle.ascii.specs.Text.{text}
use Rattle.forms.specs.Forms.{formed, row_of}
use Rattle.eoc.specs.Message.{Message}
use Rattle.eoc.specs.Reading.{message_in}
use Rattle.eoc.specs.Refusals.{form_refusals}
use Rattle.eoclisting.specs.Names.{source_name, destination_name, name_of}
use Rattle.eoclisting.specs.Contents.{contents_text}

-- from whom to whom
unfoldable pub way_text : ℕ → ℕ → List ℕ
way_text source destination = source_name source ++ text " to " ++ destination_name destination

-- the line of message number n of the channel
unfoldable pub message_line : ℕ → Message → List ℕ
message_line n m =
    formed (text "# ") (n ∷ []) ++ way_text m.source m.destination ++ formed (text ": # ") (m.number ∷ []) ++ name_of m.number
    ++ contents_text m.number m.contents ++ text "\n"

-- why a message is refused: 7, 10, 11 or 12
abbrev pub reasons : List ℕ
reasons =
    text "the check bits differ\na flag is missing or stands inside the message\nan escape other than 7D 5E and 7D 5D\n"
    ++ text "the message is too long or too short\n"

abbrev pub reason_row : ℕ → ℕ
reason_row a = cond (eqb a 7) 0 (a - 9)

-- the line of a message that is refused
unfoldable pub refused_line : ℕ → ℕ → List ℕ
refused_line n a = formed (text "# refused #: ") (n ∷ a ∷ []) ++ row_of reasons (reason_row a) ++ text "\n"

-- by its answer
unfoldable pub line_by : ℕ → ℕ → List ℕ → List ℕ
line_by zero n s = message_line n (message_in s)
line_by (suc a) n s = refused_line n (suc a)

-- THE LINE of message number n, which came as these octets
abbrev pub line_of : ℕ → List ℕ → List ℕ
line_of n s = line_by (answer (form_refusals s)) n s
