use Prim.Native.Nat.{◌≤◌}
use mathlib.Core.Path.{◌≡◌}
use lib.ListN.{drop}
use Rattle.startup.specs.Run.{run_from, numbers}
use Rattle.startup.proofs.Run.over.Given as goal

abbrev pub invariant-loop-place : goal.invariant-loop-place
invariant-loop-place l =
    (l.run.attempts ≤ l.place) × (run_from l.place (numbers l.run) (drop l.place l.codes) ≡ run_from 0 (numbers l.initial.run) l.codes)
