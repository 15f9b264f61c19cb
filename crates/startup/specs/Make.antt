-- A supervisor of any make, its run over a list of codes, and ours among them. Demand 3 is stated of any make (crate demands).
use Rattle.std.specs.Prelude.{ℕ, ◌≤◌, ◌<◌, ◌≡◌, ◌⊎◌, List, [], ◌∷◌, length, take}
use Rattle.supervisor.specs.declared.Supervisor.{Supervisor}
use Rattle.supervisor.specs.Step.{Numbered}
use Rattle.supervisor.specs.Limits.{shortest_silence, longest_silence}
use Rattle.supervisor.specs.Names.{Settling, Exception}
use Rattle.supervisor.specs.Step.{start_of, step_of}
use Rattle.startup.specs.Reports.{at}
use Rattle.startup.specs.Run.{run_of}
use Rattle.startup.specs.Scan.{Attempt}

-- what a start and a step give: the answer's number, the phase, in an attempt the ticks since its opening, and the next state
pub record Reply (S : Type 0) : Type 0 where
  pub answer : ℕ
  pub phase : ℕ
  pub attempt : ℕ
  pub state : S

-- what a run of codes gives: the answer's number; how many attempts opened; of the last one where, what became of it and where; and the next state
pub record Ran (S : Type 0) : Type 0 where
  pub answer : ℕ
  pub attempts : ℕ
  pub opened_at : ℕ
  pub outcome : ℕ
  pub ended_at : ℕ
  pub state : S

-- a supervisor of any make, with states S: a start with an end and a silence, the phase that a state is in, a step with a code, a run of codes
pub record Make (S : Type 0) : Type 0 where
  pub start : ℕ → ℕ → Reply S
  pub phase_of : S → ℕ
  pub step : S → ℕ → Reply S
  pub run : S → List ℕ → Ran S

-- the state after the codes of a list, one step for each
abbrev pub steps_by : {S : Type 0} → Make S → S → List ℕ → S
steps_by make s [] = s
steps_by make s (c ∷ cs) = steps_by make (make.step s c).state cs

-- the phase at the moment n, after the first n codes
abbrev pub phase_at : {S : Type 0} → Make S → S → List ℕ → ℕ → ℕ
phase_at make s l n = make.phase_of (steps_by make s (take n l))

-- the reply to the code at the place p
abbrev pub reply_to : {S : Type 0} → Make S → S → List ℕ → ℕ → Reply S
reply_to make s l p = make.step (steps_by make s (take p l)) (at l p)

-- the code at the place p enters this phase: it is answered with it, and the state before it was in another
abbrev pub Enters : {S : Type 0} → Make S → ℕ → S → List ℕ → ℕ → Type 0
Enters make phase s l p = (phase_at make s l p ≡ phase → ⊥) × ((reply_to make s l p).phase ≡ phase)

-- the code at the place p is the first since the moment m that is answered with Settling or Exception, and it is answered with this one
pub record FirstShows {S : Type 0} (make : Make S) (phase : ℕ) (s : S) (l : List ℕ) (m p : ℕ) : Type 0 where
  pub since : m ≤ p
  pub shows : (reply_to make s l p).phase ≡ phase
  pub not_settling : (q : ℕ) → m ≤ q → q < p → (reply_to make s l q).phase ≡ Settling → ⊥
  pub not_exception : (q : ℕ) → m ≤ q → q < p → (reply_to make s l q).phase ≡ Exception → ⊥

-- what a run gives whose attempts are these, the last first, and whose state is s
abbrev pub ran_over : {S : Type 0} → S → List Attempt → Ran S
ran_over s [] = record { answer = 0; attempts = 0; opened_at = 0; outcome = 0; ended_at = 0; state = s }
ran_over s (a ∷ log) =
    record { answer = 0; attempts = length (a ∷ log); opened_at = a.opened_at; outcome = a.outcome; ended_at = a.ended_at; state = s }

-- a silence that a start takes
abbrev pub Taken : ℕ → Type 0
Taken silence = (silence ≡ 0) ⊎ ((shortest_silence ≤ silence) × (silence ≤ longest_silence))

-- an answer of ours, and a run
abbrev pub reply_of : Numbered → Reply Supervisor
reply_of r = record { answer = r.answer; phase = r.phase; attempt = r.attempt; state = r.state }

-- OURS: `Supervisor::start`, `Supervisor::step` and `Run::over`
abbrev pub ours : Make Supervisor
ours = record {
  start = λ end silence. reply_of (start_of end silence);
  phase_of = λ s. s.phase;
  step = λ s c. reply_of (step_of s c);
  run = λ s l. let r = run_of s l in
      record { answer = r.answer; attempts = r.attempts; opened_at = r.opened_at; outcome = r.outcome; ended_at = r.ended_at; state = r.state };
}

-- the state after the codes of a list
abbrev pub steps : Supervisor → List ℕ → Supervisor
steps s l = steps_by ours s l

-- the state at the moment n
abbrev pub after : Supervisor → List ℕ → ℕ → Supervisor
after s l n = steps s (take n l)

-- the answer to the code at the place p
abbrev pub answer_to : Supervisor → List ℕ → ℕ → Numbered
answer_to s l p = step_of (after s l p) (at l p)
