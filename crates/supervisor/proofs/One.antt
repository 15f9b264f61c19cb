-- One result per call: any two results that a promise allows for the same call are equal. Each promise is an equation. Assumes nothing.
use Prim.Native.Nat.{ℕ}
use mathlib.Core.Path.{◌≡◌, refl, sym, ap, ◌∙◌}
use mathlib.Core.Bool.{Bool, true}
use Rattle.std.specs.Prelude.{Result, Ok, Err}
use Rattle.answer.specs.declared.Refused.{Refused}
use Rattle.answer.specs.Answer.{answer, in_order}
use Rattle.answer.specs.Given.{answer_of}
use Rattle.answer.proofs.Given.{result-one}
use Rattle.supervisor.specs.declared.Supervisor.{Supervisor}
use Rattle.supervisor.specs.declared.Answer.{Answer}
use Rattle.supervisor.specs.Phases.{in_attempt}
use Rattle.supervisor.specs.Step.{Numbered, numbered, none, state_refusals, step_refusals, start_refusals, step_of, start_of}

-- two results that are the same with their numbers
pub numbered-one : (s : Supervisor) (r r' : Result Answer Refused) → numbered s r ≡ numbered s r' → r ≡ r'
numbered-one s r r' e = result-one r r' (sym (number r) ∙ ap (λ (n : Numbered). n.answer) e ∙ number r') value
  where
    number : (r : Result Answer Refused) → (numbered s r).answer ≡ answer_of r
    number (Ok v) = refl
    number (Err n) = refl

    value : (v w : Answer) → r ≡ Ok v → r' ≡ Ok w → v ≡ w
    value v w p q =
        let f : numbered s (Ok v) ≡ numbered s (Ok w) = ap (numbered s) (sym p) ∙ e ∙ ap (numbered s) q in
        λ i. record { phase = (f i).phase; attempt = (f i).attempt; state = (f i).state }

pub start-one : (end silence : ℕ) (r r' : Result Answer Refused) → numbered none r ≡ start_of end silence → numbered none r' ≡ start_of end silence → r ≡ r'
start-one end silence r r' p q = numbered-one none r r' (p ∙ sym q)

pub step-one : (s : Supervisor) (c : ℕ) (r r' : Result Answer Refused) → numbered s r ≡ step_of s c → numbered s r' ≡ step_of s c → r ≡ r'
step-one s c r r' p q = numbered-one s r r' (p ∙ sym q)

pub allowed-one : (s : Supervisor) (r r' : Result Unit Refused) → answer_of r ≡ answer (state_refusals s) → answer_of r' ≡ answer (state_refusals s) → r ≡ r'
allowed-one s r r' p q = result-one r r' (p ∙ sym q) (λ v w x y. refl)

pub in-attempt-one : (phase : ℕ) (r r' : Bool) → r ≡ in_attempt phase → r' ≡ in_attempt phase → r ≡ r'
in-attempt-one phase r r' p q = p ∙ sym q

-- the checks run in the order of their numbers
pub start-in-order : (end silence : ℕ) → in_order 1 (start_refusals end silence) ≡ true
unfolding in_order
start-in-order end silence = refl

pub state-in-order : (s : Supervisor) → in_order 1 (state_refusals s) ≡ true
unfolding in_order
state-in-order s = refl

pub step-in-order : (s : Supervisor) (c : ℕ) → in_order 1 (step_refusals s c) ≡ true
unfolding in_order
step-in-order s c = refl
