-- What becomes of a silence: what is asked for at a start is kept, and no step changes it. Default.antt has what 0 stands for. Assumes nothing.
use Prim.Native.Nat.{ℕ, zero, suc, ◌+◌, ◌≤◌}
use native.Mathlib.Omega.{arith}
use mathlib.Core.Path.{◌≡◌, refl}
use mathlib.Core.Bool.{Bool, true, false, cond}
use borrow.Author.Tests.{le-ltb, ne_eqb}
use lib.Dec.{eqb}
use Rattle.answer.specs.Answer.{answer, held}
use Rattle.supervisor.specs.declared.Supervisor.{Supervisor}
use Rattle.supervisor.specs.Names.{Ready, Exception}
use Rattle.supervisor.specs.Phases.{Row, counts}
use Rattle.supervisor.specs.Rules.{latest, over, among, acted, here, moved}
use Rattle.supervisor.specs.Step.{step_refusals, step_of, fresh, start_of}

-- a silence from 2,000 to 60,000 is taken and kept
pub start-kept : (end silence : ℕ) → end ≤ 1 → 2000 ≤ silence → silence ≤ 60000
    → start_of end silence ≡ record { answer = 0; phase = Ready; attempt = 0; state = fresh end silence }
start-kept end silence h lo hi =
    rw (ne_eqb silence 0 (λ q. omega arith)) (simp (le-ltb 1 end h, le-ltb silence 2000 lo, le-ltb 60000 silence hi))

-- so a start with 2,000 keeps 2,000
pub start-2000 : (end : ℕ) → end ≤ 1 → start_of end 2000 ≡ record { answer = 0; phase = Ready; attempt = 0; state = fresh end 2000 }
start-2000 end h = rw (le-ltb 1 end h) refl

-- where two states have the silence n, so has whichever is chosen
either : (b : Bool) (x y : Supervisor) (n : ℕ) → x.silence ≡ n → y.silence ≡ n → (cond b x y).silence ≡ n
either true x y n p q = p
either false x y n p q = q

-- what a code does in a phase keeps it
acted-keeps : (r : Row) (s : Supervisor) (c : ℕ) → (acted r s c).silence ≡ s.silence
acted-keeps r s c =
    either (eqb c 0) _ _ _
    (either (counts r.phase) _ _ _ (either (latest r s) _ _ _ refl (either (over r s (s.ticks + 1) 0) _ _ _ refl refl)) refl)
    (either (eqb c 8) _ _ _ (either (eqb r.phase Exception) _ _ _ refl refl)
    (either (among c r.awaits) _ _ _ (either (over r s s.ticks c) _ _ _ refl refl) refl))

-- a step keeps it, in every state and with every code, taken or refused
pub step_keeps : (s : Supervisor) (c : ℕ) → (step_of s c).state.silence ≡ s.silence
step_keeps s c = go (answer (step_refusals s c))
  where
    go : (n : ℕ) → (held n s (moved s c)).silence ≡ s.silence
    go zero = acted-keeps (here s) s c
    go (suc n) = refl
