-- The silence that is meant where none is asked for. Assumes nothing.
use Prim.Native.Nat.{ℕ}
use mathlib.Core.Path.{◌≡◌, refl}
use Rattle.supervisor.specs.Step.{start_of}

-- a start with 0 is a start with 5,000, at every end: the same answer and the same state
pub start-default : (end : ℕ) → start_of end 0 ≡ start_of end 5000
start-default end = refl
