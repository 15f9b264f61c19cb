-- Laws of the table of phases and of what is refused. Assumes nothing.
use Prim.Native.Nat.{ℕ, ◌≤◌}
use native.Mathlib.Omega.{arith}
use mathlib.Core.Path.{◌≡◌, refl, sym, ◌∙◌}
use mathlib.Core.Bool.{Bool, true, false, cond, false≢true, not}
use borrow.Author.Tests.{ltb-false, not-false}
use mathlib.Core.List.{[], ◌∷◌}
use lib.Dec.{ltb}
use Rattle.std.proofs.lemmas.Bool.Decides.{nat_tests}
use Rattle.answer.specs.Answer.{refuse, answer}
use Rattle.answer.proofs.Laws.{none}
use Rattle.supervisor.specs.declared.Supervisor.{Supervisor}
use Rattle.supervisor.specs.Phases.{ntu_phases, ltu_phases, phases_of, is_of}
use Rattle.supervisor.specs.Step.{state_refusals}

-- two cases of a test
pub by_cases : {P : Type 0} (b : Bool) → (b ≡ true → P) → (b ≡ false → P) → P
by_cases true f g = f refl
by_cases false f g = g refl

-- a test is not both
pub clash : {P : Type 0} (b : Bool) → b ≡ true → b ≡ false → P
clash b p q = absurd (false≢true (sym q ∙ p))

-- what a state that is not refused is
pub record Legal (s : Supervisor) : Type 0 where
  pub known : s.end ≤ 1
  pub of : is_of s.phase (phases_of s.end s.silence) ≡ true
  pub attempt : s.attempt ≤ 14999
  pub ticks : s.ticks ≤ 59999
  pub low : 2000 ≤ s.silence
  pub high : s.silence ≤ 60000

pub legal : (s : Supervisor) → answer (state_refusals s) ≡ 0 → Legal s
legal s e =
    let high = refuse 4 (ltb 60000 s.silence) ∷ [] in
    let low = refuse 4 (ltb s.silence 2000) ∷ high in
    let ticks = refuse 4 (ltb 59999 s.ticks) ∷ low in
    let attempt = refuse 4 (ltb 14999 s.attempt) ∷ ticks in
    let of = refuse 4 (not (is_of s.phase (phases_of s.end s.silence))) ∷ attempt in
    let a = none 1 (ltb 1 s.end) of e in
    let b = none 3 (not (is_of s.phase (phases_of s.end s.silence))) attempt a.1 in
    let c = none 3 (ltb 14999 s.attempt) ticks b.1 in
    let d = none 3 (ltb 59999 s.ticks) low c.1 in
    let f = none 3 (ltb s.silence 2000) high d.1 in
    let g = none 3 (ltb 60000 s.silence) [] f.1 in
    record {
      known = ltb-false _ _ a.0;
      of = not-false _ b.0;
      attempt = ltb-false _ _ c.0;
      ticks = ltb-false _ _ d.0;
      low = ltb-false _ _ f.0;
      high = ltb-false _ _ g.0;
    }

-- an end's phase that is none before the last is the last
pub last : (p : ℕ) (b : Bool) (silence : ℕ) → is_of p (cond b (ntu_phases silence) (ltu_phases silence)) ≡ true → 13 ≤ p → p ≡ 13
last p true silence h le = grind (arith, nat_tests)
last p false silence h le = grind (arith, nat_tests)
