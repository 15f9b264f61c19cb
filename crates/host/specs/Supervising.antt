-- What the exported supervisor promises: what supervisor promises of a start and a step, and startup of a run, with the same numbers in the
-- structs that cross.
use Rattle.std.specs.Prelude.{◌≡◌, List, ℕ}
use Rattle.supervisor.specs.declared.Supervisor.{Supervisor as State}
use Rattle.supervisor.specs.Step.{Numbered}
use Rattle.supervisor.specs.Step.{step_of, start_of}
use Rattle.startup.specs.Run.{Run as StartupRun}
use Rattle.startup.specs.Run.{run_of}
use Rattle.host.specs.declared.supervising.Supervisor.{Supervisor}
use Rattle.host.specs.declared.supervising.Stepped.{Stepped}
use Rattle.host.specs.declared.supervising.Run.{Run}

-- struct sdsl_supervisor, as it comes in
abbrev pub state_in : Supervisor → State
state_in s = record { end = s.end; phase = s.phase; ticks = s.ticks; attempt = s.attempt; silence = s.silence; converged = s.converged; seen = s.seen }

-- and as it goes out
abbrev pub state_of : State → Supervisor
state_of s = record { end = s.end; phase = s.phase; ticks = s.ticks; attempt = s.attempt; silence = s.silence; converged = s.converged; seen = s.seen }

-- struct sdsl_stepped
abbrev pub stepped_of : Numbered → Stepped
stepped_of r = record { answer = r.answer; phase = r.phase; attempt = r.attempt; state = state_of r.state }

-- struct sdsl_run
abbrev pub run_fields_of : StartupRun → Run
run_fields_of r =
    record {
      answer = r.answer;
      attempts = r.attempts;
      opened_at = r.opened_at;
      outcome = r.outcome;
      ended_at = r.ended_at;
      state = state_of r.state;
    }

-- sdsl_start
abbrev pub Started : ℕ → ℕ → Stepped → Type 0
Started end silence r = r ≡ stepped_of (start_of end silence)

-- sdsl_step
abbrev pub StateStepped : Supervisor → ℕ → Stepped → Type 0
StateStepped s code r = r ≡ stepped_of (step_of (state_in s) code)

-- sdsl_run_codes
abbrev pub CodesRun : Supervisor → List ℕ → Run → Type 0
CodesRun s codes r = r ≡ run_fields_of (run_of (state_in s) codes)
