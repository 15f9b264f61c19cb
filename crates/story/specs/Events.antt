-- The story of a log: for each code an event, over the supervisor's own definitions (supervisor: start_of, step_of, in_attempt; startup: event_of).
use Rattle.std.specs.Prelude.{ℕ, ◌+◌, cond, not, ◌||◌, List, [], ◌∷◌, Result, Ok, Err, leb, ltb, eqb}
use Rattle.answer.specs.declared.Refused.{Refused}
use Rattle.answer.specs.Answer.{Refusal, refuse, answer, held}
use Rattle.answer.specs.Given.{number_of as refusal_number}
use Rattle.supervisor.specs.declared.Supervisor.{Supervisor}
use Rattle.supervisor.specs.Step.{Numbered}
use Rattle.supervisor.specs.Phases.{in_attempt}
use Rattle.supervisor.specs.Step.{step_of}
use Rattle.supervisor.specs.Step.{start_of as supervisor_start}
use Rattle.startup.specs.Reports.{one}
use Rattle.startup.specs.Run.{event_of as attempt_event}
use Rattle.story.specs.declared.Outcome.{Outcome}
use Rattle.story.specs.declared.Story.{Story}
use Rattle.story.specs.declared.Event.{Event as Given}

-- what a code did, with the answer's number
pub record Event : Type 0 where
  pub answer : ℕ
  pub kind : ℕ
  pub code : ℕ
  pub attempt : ℕ
  pub ticks : ℕ
  pub story : Story

-- the ticks, and the attempts, that a story has at most
abbrev pub most : ℕ
most = 1000000000

-- how an attempt ended: 2 in data mode, 3 in the exception state; the ticks that it took, the phase that it was in, the code that ended it
abbrev pub outcome : ℕ → ℕ → ℕ → ℕ → Outcome
outcome how ticks phase code = record { how = how; ticks = ticks; phase = phase; code = code }

-- none has ended
abbrev pub no_outcome : Outcome
no_outcome = outcome 0 0 0 0

-- a story
abbrev pub story : Supervisor → ℕ → ℕ → ℕ → Outcome → Story
story s clock attempts entered last = record { state = s; clock = clock; attempts = attempts; entered = entered; last = last }

-- no code has come yet
abbrev pub beginning : Supervisor → Story
beginning s = story s 0 0 0 no_outcome

-- an answer other than 0: the other numbers are 0 and the story is the one handed in
abbrev pub refused_with : Story → ℕ → Event
refused_with s n = record { answer = n; kind = 0; code = 0; attempt = 0; ticks = 0; story = s }

-- an event that the code gives, with its number 0
abbrev pub numbers : Given → Event
numbers e = record { answer = 0; kind = e.kind; code = e.code; attempt = e.attempt; ticks = e.ticks; story = e.story }

-- a Result so: with a refusal its number, and the story that was handed in
abbrev pub numbered : Story → Result Given Refused → Event
numbered old (Ok e) = numbers e
numbered old (Err e) = refused_with old (refusal_number e)

-- what there is to tell of a code that took one state to another, where startup's event of the two phases is e: that, 1 an attempt opened,
-- 2 it ended in data mode, 3 in the exception state; else 4 where another phase was entered; else nothing of a tick, 5 of an 8, with which
-- the silence starts again, 6 of a report that was heard, and 7 of one that changed nothing
abbrev pub kind_with : ℕ → Supervisor → Supervisor → ℕ → ℕ
kind_with e s t c =
    cond (eqb e 0)
    (cond (eqb s.phase t.phase)
    (cond (eqb c 0) 0 (cond (eqb c 8) 5 (cond (eqb s.converged t.converged) (cond (eqb s.seen t.seen) 7 6) 6)))
    4)
    e

-- the same, of the two states alone
abbrev pub kind_of : Supervisor → Supervisor → ℕ → ℕ
kind_of s t c = kind_with (attempt_event s.phase t.phase) s t c

-- in an attempt the ticks since its opening, that of the code too, else 0
abbrev pub since_opening : Supervisor → ℕ → ℕ
since_opening s c = cond (in_attempt s.phase) (s.attempt + one (eqb c 0)) 0

-- the number of the attempt, the last that opened, where the code came in it or opened it, else 0
abbrev pub attempt_number : ℕ → ℕ → ℕ → ℕ
attempt_number p event attempts = cond (in_attempt p || eqb event 1) attempts 0

-- the clock when the phase was entered: the present one, n, where another was entered
abbrev pub entered_at : Story → Supervisor → ℕ → ℕ
entered_at s t n = cond (eqb s.state.phase t.phase) s.entered n

-- the last attempt that has ended, after a code whose event for attempts is e: another one, where it ended an attempt
abbrev pub last_with : ℕ → Story → ℕ → Outcome
last_with e s c = cond (ltb 1 e) (outcome e (since_opening s.state c) s.state.phase c) s.last

-- the story with a code more, which took its state to t and whose event is e: the clock counts ticks, the attempts their openings
abbrev pub onward_with : ℕ → Story → Supervisor → ℕ → Story
onward_with e s t c =
    story t (s.clock + one (eqb c 0)) (s.attempts + one (eqb e 1)) (entered_at s t (s.clock + one (eqb c 0))) (last_with e s c)

-- the same, of the two states alone
abbrev pub onward : Story → Supervisor → ℕ → Story
onward s t c = onward_with (attempt_event s.state.phase t.phase) s t c

-- the event of that code
abbrev pub told : Story → Supervisor → ℕ → Event
told s t c = record {
  answer = 0;
  kind = kind_of s.state t c;
  code = c;
  attempt = attempt_number s.state.phase (attempt_event s.state.phase t.phase) (onward s t c).attempts;
  ticks = since_opening s.state c;
  story = onward s t c;
}

-- what a code is refused with: what the supervisor's step answers; and 4 at the 1,000,000,000th tick or attempt of a story
abbrev pub refusals : ℕ → Story → List Refusal
refusals n s = refuse n (not (eqb n 0)) ∷ refuse 4 (leb most s.clock) ∷ refuse 4 (leb most s.attempts) ∷ []

-- the event of a code to which the supervisor's step gave this
abbrev pub event_with : Numbered → Story → ℕ → Event
event_with g s c =
    held (answer (refusals g.answer s)) (refused_with s (answer (refusals g.answer s))) (told s g.state c)

-- THE EVENT of a code
abbrev pub event_of : Story → ℕ → Event
event_of s c = event_with (step_of s.state c) s c

-- the start of a story from what the supervisor's start gave: an event too, Ready is entered at tick 0
abbrev pub start_with : Numbered → Event
start_with g =
    held g.answer (refused_with (beginning g.state) g.answer)
    (record { answer = 0; kind = 4; code = 0; attempt = 0; ticks = 0; story = beginning g.state })

-- THE START of a story
abbrev pub start_of : ℕ → ℕ → Event
start_of end silence = start_with (supervisor_start end silence)

-- the story after the codes of a list, one step for each
abbrev pub story_of : Story → List ℕ → Story
story_of s [] = s
story_of s (c ∷ cs) = story_of (event_of s c).story cs
