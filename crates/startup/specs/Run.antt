-- The run over a list of codes: one step for each, and what became of the attempts that opened in it.
use Rattle.std.specs.Prelude.{ℕ, suc, ◌+◌, cond, not, ◌&&◌, List, [], ◌∷◌, Option, None, Some, Result, Ok, Err, eqb, ltb}
use Rattle.answer.specs.declared.Refused.{Refused}
use Rattle.answer.specs.Answer.{answer, held}
use Rattle.answer.specs.Given.{number_of}
use Rattle.supervisor.specs.declared.Supervisor.{Supervisor}
use Rattle.supervisor.specs.Names.{Settling}
use Rattle.supervisor.specs.Phases.{in_attempt}
use Rattle.supervisor.specs.Step.{state_refusals, step_of}
use Rattle.startup.specs.declared.Outcome.{Outcome}
use Rattle.startup.specs.declared.Outcome.TheVariants.{Open, Data, Exception}
use Rattle.startup.specs.declared.Run.{Run as Given}

-- what a run gives, all in numbers: the answer, the state, how many attempts opened, where the last one did, what became of it and where
pub record Run : Type 0 where
  pub answer : ℕ
  pub state : Supervisor
  pub attempts : ℕ
  pub opened_at : ℕ
  pub outcome : ℕ
  pub ended_at : ℕ

-- the number of what became of an attempt: 0 where there is none, 1 still open, 2 data mode, 3 the exception state
abbrev pub outcome_number : Option Outcome → ℕ
outcome_number None = 0
outcome_number (Some Open) = 1
outcome_number (Some Data) = 2
outcome_number (Some Exception) = 3

-- the run that the code gives, in numbers
abbrev pub numbers : Given → Run
numbers r = record {
  answer = 0;
  state = r.state;
  attempts = r.attempts;
  opened_at = r.opened_at;
  outcome = outcome_number r.outcome;
  ended_at = r.ended_at;
}

-- what a change from one phase to another does to an attempt: 1 opens it, 2 ends it in data mode, 3 in the exception state, 0 none of these
abbrev pub event_of : ℕ → ℕ → ℕ
event_of before after =
    cond (in_attempt before) (cond (in_attempt after) 0 (cond (eqb after Settling) 2 3)) (cond (in_attempt after) 1 0)

-- the run goes on with the state s
abbrev pub goes_on : Run → Supervisor → Run
goes_on r s = record { answer = 0; state = s; attempts = r.attempts; opened_at = r.opened_at; outcome = r.outcome; ended_at = r.ended_at }

-- an attempt opens at the place p
abbrev pub opens : Run → Supervisor → ℕ → Run
opens r s p = record { answer = 0; state = s; attempts = r.attempts + 1; opened_at = p; outcome = 1; ended_at = 0 }

-- the last attempt ends at the place p
abbrev pub ends : Run → Supervisor → ℕ → ℕ → Run
ends r s p outcome = record { answer = 0; state = s; attempts = r.attempts; opened_at = r.opened_at; outcome = outcome; ended_at = p }

-- an attempt that was open before the list began, when `outcome` is 0, is not one of it
abbrev pub noted : Run → Supervisor → ℕ → ℕ → Run
noted r s p event = cond (eqb event 1) (opens r s p) (cond (ltb 1 event && not (eqb r.outcome 0)) (ends r s p event) (goes_on r s))

-- one code more, at the place p; a refused code leaves the state
abbrev pub taken_of : ℕ → ℕ → Run → Run
taken_of p c r = noted r (step_of r.state c).state p (event_of r.state.phase (step_of r.state c).state.phase)

-- the codes from the place p on
abbrev pub run_from : ℕ → Run → List ℕ → Run
run_from p r [] = r
run_from p r (c ∷ cs) = run_from (suc p) (taken_of p c r) cs

-- no code yet: no attempt has opened
abbrev pub begun : ℕ → Supervisor → Run
begun n s = record { answer = n; state = s; attempts = 0; opened_at = 0; outcome = 0; ended_at = 0 }

-- a Result in numbers: 0 with the run; or a refusal's number, no attempt, and the state that was handed in
abbrev pub numbered : Supervisor → Result Given Refused → Run
numbered s (Ok r) = numbers r
numbered s (Err e) = begun (number_of e) s

-- THE RUN: 0 for a legal state, and else what a step would answer, with nothing changed
abbrev pub run_of : Supervisor → List ℕ → Run
run_of s l = held (answer (state_refusals s)) (begun (answer (state_refusals s)) s) (run_from 0 (begun 0 s) l)
