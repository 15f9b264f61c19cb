-- What a run gives, from the attempts of its list.
use Rattle.std.specs.Prelude.{ℕ, ◌≡◌, List, [], ◌∷◌, length}
use Rattle.supervisor.specs.declared.Supervisor.{Supervisor}
use Rattle.supervisor.specs.Step.{start_of}
use Rattle.startup.specs.Run.{Run}
use Rattle.startup.specs.Attempts.{needs_of, meant}
use Rattle.startup.specs.Make.{steps}
use Rattle.startup.specs.Scan.{Attempt, attempts}
use Rattle.startup.specs.Run.{begun, run_of}

-- the state, how many attempts there are, and the last of them: where it opened, how it ended and where
abbrev pub summary : Supervisor → List Attempt → Run
summary s [] = begun 0 s
summary s (a ∷ log) =
    record { answer = 0; state = s; attempts = length (a ∷ log); opened_at = a.opened_at; outcome = a.outcome; ended_at = a.ended_at }

-- the run from a fresh start gives the attempts that the list has
abbrev pub Agrees : ℕ → ℕ → List ℕ → Type 0
Agrees end silence l =
    run_of (start_of end silence).state l ≡ summary (steps (start_of end silence).state l) (attempts (needs_of end (meant silence)) l)
