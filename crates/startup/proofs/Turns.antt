-- A run, code by code. Assumes nothing.
use Prim.Native.Nat.{ℕ, ◌+◌, ◌≤◌, ◌<◌}
use native.Mathlib.Omega.{arith}
use native.Mathlib.Numerals.{add-one}
use mathlib.Core.Path.{◌≡◌}
use mathlib.Core.Bool.{Bool, true, false, cond, not, ◌&&◌}
use mathlib.Core.List.{List}
use lib.Dec.{eqb, ltb}
use lib.ListN.{length, get_or, drop}
use lib.Seq.{drop-cons}
use Rattle.supervisor.specs.declared.Supervisor.{Supervisor}
use Rattle.supervisor.specs.Step.{step_of}
use Rattle.startup.specs.Run.{Run}
use Rattle.startup.specs.Run.{event_of, goes_on, opens, ends, taken_of, run_from}

abbrev event_at : ℕ → ℕ → Run → ℕ
event_at p c r = event_of r.state.phase (step_of r.state c).state.phase

-- a code opens one attempt at most
opens_one : (r : Run) (s : Supervisor) (p e : ℕ) (a b : Bool)
    → (cond {A = Run} a (opens r s p) (cond {A = Run} b (ends r s p e) (goes_on r s))).attempts ≤ r.attempts + 1
opens_one r s p e true b = omega arith
opens_one r s p e false true = omega arith
opens_one r s p e false false = omega arith

pub one-opens : (p c : ℕ) (r r' : Run) → r' ≡ taken_of p c r → r'.attempts ≤ r.attempts + 1
one-opens p c r r' e =
    rw e (opens_one r (step_of r.state c).state p (event_at p c r) (eqb (event_at p c r) 1) (ltb 1 (event_at p c r) && not (eqb r.outcome 0)))

-- one turn of the loop
pub turn : (codes : List ℕ) (p : ℕ) (r r' : Run) → p < length codes → r' ≡ taken_of p (get_or codes p 0) r
    → run_from (p + 1) r' (drop (p + 1) codes) ≡ run_from p r (drop p codes)
turn codes p r r' h e = rw (add-one, drop-cons codes p 0 h, e)
