-- What the story of a whole list of codes says at its end, against what the list itself says (startup: demand 3's words, over places in it).
use Rattle.std.specs.Prelude.{ℕ, suc, ◌≡◌, true, ◌↔◌, List, length}
use Rattle.supervisor.specs.Phases.{in_attempt}
use Rattle.supervisor.specs.Step.{start_of as supervisor_start}
use Rattle.startup.specs.Reports.{upto, count}
use Rattle.startup.specs.Attempts.{needs_of, meant, StillOpen, EndsInData, EndsInException, OpensAt}
use Rattle.startup.specs.Make.{steps, after}
use Rattle.startup.specs.Scan.{attempts as attempts_of}
use Rattle.story.specs.declared.Story.{Story}
use Rattle.story.specs.Events.{Event}
use Rattle.story.specs.Ended.{Ended, Since}

-- the story s of the list l, from a start with this end and silence
pub record Tells (end silence : ℕ) (l : List ℕ) (s : Story) : Type 0 where
  -- the state is the supervisor's, after a step for each code
  pub state : s.state ≡ steps (supervisor_start end silence).state l
  -- the clock is the number of ticks in the list
  pub clock : s.clock ≡ upto 0 l (length l)
  -- the attempts are those that the list opens
  pub attempts : s.attempts ≡ length (attempts_of (needs_of end (meant silence)) l)
  -- it is told as still trying exactly where the list has an attempt open at its end
  pub trying : (in_attempt s.state.phase ≡ true)
      ↔ ((m : ℕ) × OpensAt (needs_of end (meant silence)) l m × StillOpen (needs_of end (meant silence)) l m (length l))
  -- and the ticks told as used are those of the list since that attempt opened
  pub used : (m : ℕ) → OpensAt (needs_of end (meant silence)) l m → StillOpen (needs_of end (meant silence)) l m (length l)
      → s.state.attempt ≡ count 0 l m (length l)
  -- the last attempt that ended is told as the list has it: in data mode or in the exception state, by which code, and after how many ticks
  pub last : Ended (needs_of end (meant silence)) l (length l) s.last
  -- and the phase is told to last since the clock showed what it did when the phase was entered
  pub since : Since (supervisor_start end silence).state l (length l) s.entered

-- the event e of the code at the place p of that list
pub record TellsEvent (end silence : ℕ) (l : List ℕ) (p : ℕ) (e : Event) : Type 0 where
  -- the state after it is the supervisor's, and the clock the number of ticks up to it
  pub state : e.story.state ≡ after (supervisor_start end silence).state l (suc p)
  pub clock : e.story.clock ≡ upto 0 l (suc p)
  -- it is told as an opening exactly where the list opens an attempt
  pub opens : (e.kind ≡ 1) ↔ OpensAt (needs_of end (meant silence)) l (suc p)
  -- as an end in data mode, or in the exception state, exactly where the list ends one so
  pub in_data : (e.kind ≡ 2) ↔ ((m : ℕ) × OpensAt (needs_of end (meant silence)) l m × EndsInData (needs_of end (meant silence)) l m p)
  pub in_exception : (e.kind ≡ 3) ↔ ((m : ℕ) × OpensAt (needs_of end (meant silence)) l m × EndsInException (needs_of end (meant silence)) l m p)
  -- and in an attempt its ticks are those of the list since the opening, this one too
  pub ticks : (m : ℕ) → OpensAt (needs_of end (meant silence)) l m → StillOpen (needs_of end (meant silence)) l m p
      → e.ticks ≡ count 0 l m (suc p)
