-- A start and a step of the supervisor, over the table of phases.
use Rattle.std.specs.Prelude.{ℕ, cond, not, List, [], ◌∷◌, Result, Ok, Err, ltb, eqb}
use Rattle.answer.specs.declared.Refused.{Refused}
use Rattle.answer.specs.Answer.{Refusal, refuse, answer, held}
use Rattle.answer.specs.Given.{number_of}
use Rattle.supervisor.specs.declared.Supervisor.{Supervisor}
use Rattle.supervisor.specs.declared.Answer.{Answer}
use Rattle.supervisor.specs.Limits.{most_attempt, most_ticks, default_silence, shortest_silence, longest_silence}
use Rattle.supervisor.specs.Names.{Ready}
use Rattle.supervisor.specs.Phases.{phases_of, is_of, in_attempt}
use Rattle.supervisor.specs.Rules.{moved}

-- An unknown end is 2. "A state is refused with 4 exactly when its phase isn't one of its end, its attempt ticks exceed 14,999,
-- its phase ticks exceed 59,999, or its silence lies outside 2,000 to 60,000."
abbrev pub state_refusals : Supervisor → List Refusal
state_refusals s =
    refuse 2 (ltb 1 s.end)
    ∷ refuse 4 (not (is_of s.phase (phases_of s.end s.silence)))
    ∷ refuse 4 (ltb most_attempt s.attempt)
    ∷ refuse 4 (ltb most_ticks s.ticks)
    ∷ refuse 4 (ltb s.silence shortest_silence)
    ∷ refuse 4 (ltb longest_silence s.silence)
    ∷ []

-- an unknown report code is 2
abbrev pub step_refusals : Supervisor → ℕ → List Refusal
step_refusals s c = refuse 2 (ltb 8 c) ∷ state_refusals s

-- what a start and a step give, with the answer's number
pub record Numbered : Type 0 where
  pub answer : ℕ
  pub phase : ℕ
  pub attempt : ℕ
  pub state : Supervisor

-- a Result so: 0 with what it gives; or with a refusal its number, every other number 0, and the state that was handed in
abbrev pub numbered : Supervisor → Result Answer Refused → Numbered
numbered old (Ok a) = record { answer = 0; phase = a.phase; attempt = a.attempt; state = a.state }
numbered old (Err e) = record { answer = number_of e; phase = 0; attempt = 0; state = old }

-- "Each answer gives the phase and, in an attempt, the ticks since its opening (else 0)." With n other than 0 the state is the one
-- handed in and the other numbers are 0.
abbrev pub answered : ℕ → Supervisor → Supervisor → Numbered
answered n old new = record {
  answer = n;
  phase = held n 0 new.phase;
  attempt = held n 0 (cond (in_attempt new.phase) new.attempt 0);
  state = held n old new;
}

-- THE STEP
abbrev pub step_of : Supervisor → ℕ → Numbered
step_of s c = answered (answer (step_refusals s c)) s (moved s c)

-- no state: every number 0, which each later step refuses, since a silence of 0 is outside its range
abbrev pub none : Supervisor
none = record { end = 0; phase = 0; ticks = 0; attempt = 0; silence = 0; converged = 0; seen = 0 }

-- "0 stands for the default, 5,000 ticks"
abbrev pub silence_of : ℕ → ℕ
silence_of silence = cond (eqb silence 0) default_silence silence

-- what a start refuses: an unknown end, then a silence out of its range
abbrev pub start_refusals : ℕ → ℕ → List Refusal
start_refusals end silence =
    refuse 2 (ltb 1 end)
    ∷ refuse 4 (ltb (silence_of silence) shortest_silence)
    ∷ refuse 4 (ltb longest_silence (silence_of silence))
    ∷ []

-- a card that is ready
abbrev pub fresh : ℕ → ℕ → Supervisor
fresh end silence = record { end = end; phase = Ready; ticks = 0; attempt = 0; silence = silence; converged = 0; seen = 0 }

-- THE START
abbrev pub start_of : ℕ → ℕ → Numbered
start_of end silence = answered (answer (start_refusals end silence)) none (fresh end (silence_of silence))
