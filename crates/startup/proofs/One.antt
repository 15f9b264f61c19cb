-- One result per call: any two results that a promise allows for the same call are equal. Each promise is an equation. Assumes nothing.
use Prim.Native.Nat.{ℕ}
use mathlib.Core.Path.{◌≡◌, refl, sym, ap, ◌∙◌}
use mathlib.Core.Bool.{cond}
use mathlib.Core.List.{List}
use lib.Dec.{eqb}
use Rattle.std.specs.Prelude.{Option, None, Some, Result, Ok, Err}
use Rattle.answer.specs.declared.Refused.{Refused}
use Rattle.answer.specs.Given.{answer_of}
use Rattle.answer.proofs.Given.{result-one}
use Rattle.supervisor.specs.declared.Supervisor.{Supervisor}
use Rattle.startup.specs.declared.Outcome.{Outcome}
use Rattle.startup.specs.declared.Outcome.TheVariants.{Open, Data, Exception}
use Rattle.startup.specs.declared.Run.{Run as Given}
use Rattle.startup.specs.Run.{Run, outcome_number, numbers, numbered, event_of, run_of}

-- what became of an attempt, from its number
outcome_of : ℕ → Option Outcome
outcome_of n = cond (eqb n 0) None (cond (eqb n 1) (Some Open) (cond (eqb n 2) (Some Data) (Some Exception)))

back : (o : Option Outcome) → outcome_of (outcome_number o) ≡ o
unfolding outcome_of
back None = refl
back (Some Open) = refl
back (Some Data) = refl
back (Some Exception) = refl

-- no two have the same number
outcome-one : (o p : Option Outcome) → outcome_number o ≡ outcome_number p → o ≡ p
outcome-one o p e = sym (back o) ∙ ap outcome_of e ∙ back p

pub over-one : (s : Supervisor) (l : List ℕ) (r r' : Result Given Refused) → numbered s r ≡ run_of s l → numbered s r' ≡ run_of s l → r ≡ r'
over-one s l r r' p q = result-one r r' (sym (number r) ∙ ap (λ (n : Run). n.answer) (p ∙ sym q) ∙ number r') value
  where
    number : (r : Result Given Refused) → (numbered s r).answer ≡ answer_of r
    number (Ok v) = refl
    number (Err n) = refl

    value : (v w : Given) → r ≡ Ok v → r' ≡ Ok w → v ≡ w
    value v w a b =
        let f : numbers v ≡ numbers w = ap (numbered s) (sym a) ∙ (p ∙ sym q) ∙ ap (numbered s) b in
        λ i. record {
          state = (f i).state;
          attempts = (f i).attempts;
          opened_at = (f i).opened_at;
          outcome = outcome-one v.outcome w.outcome (ap (λ (n : Run). n.outcome) f) i;
          ended_at = (f i).ended_at;
        }

pub event-one : (before after : ℕ) (r r' : Option Outcome) → outcome_number r ≡ event_of before after → outcome_number r' ≡ event_of before after → r ≡ r'
event-one before after r r' p q = outcome-one r r' (p ∙ sym q)
