-- What is handed in to the supervisor's functions of sdsl.h, and what comes back.
use Rattle.std.specs.Prelude.{List, ℕ}
use Rattle.host.specs.declared.supervising.Supervisor.{Supervisor}

-- sdsl_start
pub record StartCall : Type 0 where
  pub end : ℕ
  pub silence : ℕ

-- sdsl_step
pub record StepCall : Type 0 where
  pub state : Supervisor
  pub code : ℕ

-- the phase, and in an attempt the ticks since its opening
pub record Shown : Type 0 where
  pub phase : ℕ
  pub attempt : ℕ

-- sdsl_run_codes
pub record CodesCall : Type 0 where
  pub state : Supervisor
  pub codes : List ℕ

-- how many attempts opened; where the last one did, what became of it and where
pub record Attempts : Type 0 where
  pub attempts : ℕ
  pub opened_at : ℕ
  pub outcome : ℕ
  pub ended_at : ℕ
