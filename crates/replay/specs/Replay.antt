-- What the replayer follows: the lines of a log in order, a step for each code of a line, up to the first that is refused.
use Rattle.std.specs.Prelude.{◌≡◌, ℕ, zero, suc, cond, List, [], ◌∷◌, ◌++◌, Result, Ok, Err, eqb, replicate}
use Rattle.answer.specs.Given.{number_of}
use Rattle.startlog.specs.Lines.{Line}
use Rattle.startlog.specs.Lines.{line_of}
use Rattle.story.specs.declared.Story.{Story}
use Rattle.story.specs.Events.{Event}
use Rattle.story.specs.Events.{refused_with, event_of}
use Rattle.replay.specs.declared.Stop.{Stop}
use Rattle.replay.specs.declared.Stop.TheVariants.{Unwritten, Refused}
use Rattle.replay.specs.declared.Stopped.{Stopped}

-- the most octets that a log may have; one more is read, which shows that it is too long
abbrev pub most_octets : ℕ
most_octets = 1048576

-- the last event of a code that comes n times behind the event e, up to the first that is refused
unfoldable pub repeated : ℕ → ℕ → Event → Event
repeated c zero e = e
repeated c (suc n) e = cond (eqb (event_of e.story c).answer 0) (repeated c n (event_of e.story c)) (event_of e.story c)

-- the last event of a line; one that tells nothing where the line has no code, or is itself refused
abbrev pub followed : Story → Line → Event
followed s l = repeated l.code l.times (refused_with s l.answer)

-- an octet in front of the first of some lines
abbrev pub onto : ℕ → List (List ℕ) → List (List ℕ)
onto o [] = (o ∷ []) ∷ []
onto o (l ∷ ls) = (o ∷ l) ∷ ls

-- the lines of a log, each ended by a newline, the last perhaps by the log's end
unfoldable pub lines_of : List ℕ → List (List ℕ)
lines_of [] = []
lines_of (o ∷ os) = cond (eqb o 10) ([] ∷ lines_of os) (onto o (lines_of os))

-- how a log ended: 0 at its end, or what refused a line of it; the line; and the story there
pub record Ending : Type 0 where
  pub answer : ℕ
  pub line : ℕ
  pub story : Story

-- how a log ended, where all of its story could be written: with this answer, on this line, and the story there
abbrev pub ending : ℕ → ℕ → Story → Ending
ending n line s = record { answer = n; line = line; story = s }

-- how it ends from the line number n on: with 0 behind the last line, or on the first that is refused
unfoldable pub ending_from : ℕ → Story → List (List ℕ) → Ending
ending_from n s [] = ending 0 n s
ending_from n s (l ∷ ls) =
    cond (eqb (followed s (line_of l)).answer 0)
    (ending_from (suc n) (followed s (line_of l)).story ls)
    (ending (followed s (line_of l)).answer n (followed s (line_of l)).story)

-- the codes of lines, in order, each as often as its line says
unfoldable pub codes_of : List (List ℕ) → List ℕ
codes_of [] = []
codes_of (l ∷ ls) = replicate (line_of l).times (line_of l).code ++ codes_of ls

-- what following a line to its last event e gives: the same answer, and the story s, unless it could not be written
abbrev pub Follows : Result Unit Stop → Story → Event → Type 0
Follows (Ok v) s e = (e.answer ≡ 0) × (e.story ≡ s)
Follows (Err Unwritten) s e = Unit
Follows (Err (Refused n)) s e = (e.answer ≡ number_of n) × (e.story ≡ s)

-- the same of a log, with the line that is refused
abbrev pub EndsSo : Stop → ℕ → Story → Ending → Type 0
EndsSo Unwritten line s e = Unit
EndsSo (Refused n) line s e = (e.answer ≡ number_of n) × (e.line ≡ line) × (e.story ≡ s)

abbrev pub Ends : Result Unit Stopped → Story → Ending → Type 0
Ends (Ok v) s e = (e.answer ≡ 0) × (e.story ≡ s)
Ends (Err t) s e = EndsSo t.why t.line s e
