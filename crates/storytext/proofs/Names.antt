-- The phases' words are those of startup's table, for every legal state. Assumes nothing.
use mathlib.Core.Path.{◌≡◌, refl, sym, ap, subst, ◌∙◌}
use mathlib.Core.Bool.{Bool, true, false, cond, ◌||◌, false≢true}
use mathlib.Core.Logic.{◌⊎◌, inl, inr, ⊎_elim}
use mathlib.Core.List.{List, [], ◌∷◌, append_assoc}
use Prim.Native.Nat.{ℕ, ◌≤◌}
use native.Mathlib.Nat.{eq-or-lt_of_le}
use native.Mathlib.Omega.{arith}
use borrow.Author.Tests.{eqb-true}
use lib.Dec.{eqb}
use Rattle.answer.specs.Answer.{answer}
use Rattle.ascii.specs.Text.{decimal, decimal_in}
use Rattle.supervisor.specs.declared.Supervisor.{Supervisor}
use Rattle.supervisor.specs.Names.{Ready, Exception}
use Rattle.supervisor.specs.Phases.{Row, row, ntu_phases, ltu_phases, phases_of, is_of, row_of}
use Rattle.supervisor.specs.Rules.{here}
use Rattle.supervisor.specs.Step.{state_refusals}
use Rattle.supervisor.proofs.Laws.{legal}
use Rattle.phrases.specs.Phrases.{thousandths}
use Rattle.storytext.specs.Events.{seconds, report_name, name_of, phase_text}
use Rattle.storytext.specs.Ending.{lasts}
use Rattle.storytext.specs.Names.{awaits_text, rule_text, row_text}

-- a state of this end and silence in this phase
abbrev in_phase : ℕ → ℕ → ℕ → Supervisor
in_phase end silence p = record { end = end; phase = p; ticks = 0; attempt = 0; silence = silence; converged = 0; seen = 0 }

-- each row of a table is told by its words
abbrev AllTold : ℕ → ℕ → List Row → Type 0
AllTold end silence [] = Unit {0}
AllTold end silence (r ∷ rs) = (phase_text (in_phase end silence r.phase) ≡ row_text r) × AllTold end silence rs

-- the exception state, whose silence may be any number
exception-told : (end silence : ℕ) → phase_text (in_phase end silence Exception) ≡ row_text (row Exception silence [] Ready)
unfolding phase_text rule_text
exception-told end silence = simp append_assoc

ntu-told : (silence : ℕ) → AllTold 1 silence (ntu_phases silence)
unfolding phase_text name_of rule_text awaits_text report_name seconds thousandths decimal decimal_in
ntu-told silence = (refl, (refl, (refl, (refl, (refl, (refl, (refl, (refl, (exception-told 1 silence, tt)))))))))

ltu-told : (silence : ℕ) → AllTold 0 silence (ltu_phases silence)
unfolding phase_text name_of rule_text awaits_text report_name seconds thousandths decimal decimal_in
ltu-told silence = (refl, (refl, (refl, (refl, (refl, (refl, (refl, (refl, (refl, (exception-told 0 silence, tt))))))))))

-- the row of a phase is among them
pick : (end silence p : ℕ) (rs : List Row) → AllTold end silence rs → is_of p rs ≡ true
    → phase_text (in_phase end silence p) ≡ row_text (row_of p rs)
pick end silence p [] a h = absurd (false≢true h)
pick end silence p (r ∷ rs) a h = go (eqb p r.phase) refl (pick end silence p rs a.1) h
  where
    go : (b : Bool) → eqb p r.phase ≡ b → (is_of p rs ≡ true → phase_text (in_phase end silence p) ≡ row_text (row_of p rs))
        → (b || is_of p rs) ≡ true
        → phase_text (in_phase end silence p) ≡ row_text (cond b r (row_of p rs))
    go true q rest h = ap (λ (k : ℕ). phase_text (in_phase end silence k)) (eqb-true p r.phase q) ∙ a.0
    go false q rest h = rest h

-- THE WORDS OF A PHASE are its row's
pub told-by-row : (s : Supervisor) → answer (state_refusals s) ≡ 0 → phase_text s ≡ row_text (here s)
unfolding phase_text
told-by-row s h = let w = legal s h in go s.end w.known w.of
  where
    Told : ℕ → Type 0
    Told x =
        is_of s.phase (phases_of x s.silence) ≡ true
        → phase_text (in_phase x s.silence s.phase) ≡ row_text (row_of s.phase (phases_of x s.silence))

    go : (e : ℕ) → e ≤ 1 → Told e
    go e k =
        ⊎_elim
        (λ q. subst Told (sym q) (pick 1 s.silence s.phase (ntu_phases s.silence) (ntu-told s.silence)))
        (λ z. let q : e ≡ 0 = omega arith in subst Told (sym q) (pick 0 s.silence s.phase (ltu_phases s.silence) (ltu-told s.silence)))
        (eq-or-lt_of_le k)

-- and what is told as left of a phase outside an attempt is counted from its row's limit
pub left-by-row : (s : Supervisor) → answer (state_refusals s) ≡ 0 → (s.phase ≡ 1) ⊎ ((s.phase ≡ 11) ⊎ (s.phase ≡ 13))
    → lasts s.silence s.phase ≡ (here s).lasts
left-by-row s h = go s.phase (eqb s.end 1) (legal s h).of
  where
    go : (p : ℕ) (b : Bool) → is_of p (cond b (ntu_phases s.silence) (ltu_phases s.silence)) ≡ true → (p ≡ 1) ⊎ ((p ≡ 11) ⊎ (p ≡ 13))
        → lasts s.silence p ≡ (row_of p (cond b (ntu_phases s.silence) (ltu_phases s.silence))).lasts
    go p true k (inl q) = rw q
    go p false k (inl q) = absurd (false≢true (ap (λ (x : ℕ). is_of x (ltu_phases s.silence)) (sym q) ∙ k))
    go p true k (inr (inl q)) = rw q
    go p false k (inr (inl q)) = rw q
    go p true k (inr (inr q)) = rw q
    go p false k (inr (inr q)) = rw q
