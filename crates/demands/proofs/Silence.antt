-- A supervisor of any make that meets demand 3 and was started with 0 is silent for 5,000 ticks after an exception. That of every library with our contracts
-- meets it (`three`). Assumes nothing.
use Prim.Native.Nat.{ℕ, suc, ◌≤◌}
use native.Mathlib.Omega.{arith}
use mathlib.Core.Path.{◌≡◌, refl}
use mathlib.Core.Logic.{inl}
use mathlib.Core.List.{List}
use Rattle.supervisor.specs.Names.{Ready, Exception}
use Rattle.startup.specs.Reports.{at, count}
use Rattle.startup.specs.Attempts.{needs_of, meant, SilenceBegins}
use Rattle.startup.specs.Stands.{Stands}
use Rattle.startup.specs.Make.{Make, reply_to}
use Rattle.startup.proofs.Stands.{stands-once}
use Rattle.startup.proofs.Silence.{default-silent, default-ready}
use Rattle.demands.specs.Three.{Three}

-- a silence has begun, with an 8 or the 15,000th tick of an attempt, and no 8 has come since; the code at the place p is a tick
module _ {S : Type 0} (make : Make S) (demand : Three make) (end : ℕ) (known : end ≤ 1) (l : List ℕ) (e p : ℕ)
    (begins : SilenceBegins (needs_of end (meant 0)) l e) (h : e ≤ p) (calm : count 8 l e (suc p) ≡ 0) (tick : at l p ≡ 0) where
  -- it shows what the list says
  shows : (ph t : ℕ) → Stands (needs_of end (meant 0)) l (suc p) ph t → (reply_to make (make.start end 0).state l p).phase ≡ ph
  shows ph t x = (stands-once end 0 known (inl refl) l (suc p) _ _ ph t (((demand end 0 known (inl refl)).1 l).stands p (rw tick (omega arith))) x).0

  pub any-silent : count 0 l e (suc p) ≡ 4999 → (reply_to make (make.start end 0).state l p).phase ≡ Exception
  any-silent t = shows Exception 0 (default-silent end l e p begins h calm t)

  pub any-ready : count 0 l e (suc p) ≡ 5000 → (reply_to make (make.start end 0).state l p).phase ≡ Ready
  any-ready t = shows Ready 0 (default-ready end l e p begins h calm tick t)
