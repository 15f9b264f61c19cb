-- A start-up log as text: one code a line, 0 to 8; `0*300` is 300 ticks; an empty line, or one that begins with #, says nothing. A line ends
-- with a newline, in front of which a carriage return may stand.
use Rattle.std.specs.Prelude.{Bool, true, cond, ◌&&◌, ◌||◌, List, [], ◌∷◌, Result, Ok, Err, ℕ, suc, ◌+◌, ◌-◌, leb, eqb, length, get_or, take, drop}
use Rattle.answer.specs.declared.Refused.{Refused}
use Rattle.answer.specs.Given.{number_of}
use Rattle.ascii.specs.Text.{reading}
use Rattle.startlog.specs.declared.Line.{Line as Given}

-- what a line says, with the answer's number
pub record Line : Type 0 where
  pub answer : ℕ
  pub code : ℕ
  pub times : ℕ

-- an answer, a code, and how often it comes
abbrev pub line : ℕ → ℕ → ℕ → Line
line n c t = record { answer = n; code = c; times = t }

-- a Result so: 0 with what the line says, or a refusal's number, and then the others are 0
abbrev pub numbered : Result Given Refused → Line
numbered (Ok l) = line 0 l.code l.times
numbered (Err e) = line (number_of e) 0 0

-- whether an octet is the character of a decimal digit
abbrev pub is_digit : ℕ → Bool
is_digit o = leb 48 o && leb o 57

-- whether all octets of a list are
unfoldable pub digits : List ℕ → Bool
digits [] = true
digits (o ∷ os) = is_digit o && digits os

-- the most ticks that a line may count
abbrev pub most_ticks : ℕ
most_ticks = 1000000000

-- behind `0*`: digits that read as 1 to 1,000,000,000 are that many ticks; other digits, or none at all, are 4; what is no digit is 2
unfoldable pub counted : List ℕ → Line
counted ds =
    cond (digits ds)
    (cond (leb 1 (reading 10 0 ds) && leb (reading 10 0 ds) most_ticks) (line 0 0 (reading 10 0 ds)) (line 4 0 0))
    (line 2 0 0)

-- a character alone: one of the codes 0 to 8, else 2
abbrev pub one_code : ℕ → Line
one_code o = cond (leb 48 o && leb o 56) (line 0 (o - 48) 1) (line 2 0 0)

-- what a line without its end says: nothing, where it is empty or begins with #; a code; or, behind `0*`, ticks. Anything else is no code
unfoldable pub said : List ℕ → Line
said l =
    cond (eqb (length l) 0 || eqb (get_or l 0 0) 35) (line 0 0 0)
    (cond (eqb (length l) 1) (one_code (get_or l 0 0))
    (cond (eqb (get_or l 0 0) 48 && eqb (get_or l 1 0) 42) (counted (drop 2 l)) (line 2 0 0)))

-- a line without the carriage return at its end
abbrev pub plain : List ℕ → List ℕ
plain l = cond (eqb (get_or l (length l - 1) 0) 13) (take (length l - 1) l) l

-- WHAT A LINE SAYS
abbrev pub line_of : List ℕ → Line
line_of l = said (plain l)

-- how many octets stand in front of the first newline
unfoldable pub up_to_end : List ℕ → ℕ
up_to_end [] = 0
up_to_end (o ∷ os) = cond (eqb o 10) 0 (suc (up_to_end os))

-- WHERE A LINE ENDS that begins at a place: at the first newline from there on, or at the log's end
abbrev pub end_of : List ℕ → ℕ → ℕ
end_of log at = at + up_to_end (drop at log)
