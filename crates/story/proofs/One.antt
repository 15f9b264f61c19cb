-- One result per call. The promises of a story are equations. Assumes nothing.
use mathlib.Core.Path.{◌≡◌, refl, sym, ap, ◌∙◌}
use Prim.Native.Nat.{ℕ}
use Rattle.std.specs.Prelude.{Result, Ok, Err}
use Rattle.answer.specs.declared.Refused.{Refused}
use Rattle.answer.specs.Given.{answer_of}
use Rattle.answer.proofs.Given.{result-one}
use Rattle.supervisor.specs.Step.{none}
use Rattle.story.specs.declared.Story.{Story}
use Rattle.story.specs.declared.Event.{Event as Given}
use Rattle.story.specs.Events.{Event, beginning, numbered, event_of, start_of}

-- two results that are the same with their numbers
numbered-one : (s : Story) (r r' : Result Given Refused) → numbered s r ≡ numbered s r' → r ≡ r'
numbered-one s r r' e = result-one r r' (sym (number r) ∙ ap (λ (n : Event). n.answer) e ∙ number r') value
  where
    number : (r : Result Given Refused) → (numbered s r).answer ≡ answer_of r
    number (Ok v) = refl
    number (Err n) = refl

    value : (v w : Given) → r ≡ Ok v → r' ≡ Ok w → v ≡ w
    value v w p q =
        let f : numbered s (Ok v) ≡ numbered s (Ok w) = ap (numbered s) (sym p) ∙ e ∙ ap (numbered s) q in
        λ i. record { kind = (f i).kind; code = (f i).code; attempt = (f i).attempt; ticks = (f i).ticks; story = (f i).story }

pub start-one : (end silence : ℕ) (r r' : Result Given Refused) → numbered (beginning none) r ≡ start_of end silence → numbered (beginning none) r' ≡ start_of end silence → r ≡ r'
start-one end silence r r' p q = numbered-one (beginning none) r r' (p ∙ sym q)

pub step-one : (s : Story) (c : ℕ) (r r' : Result Given Refused) → numbered s r ≡ event_of s c → numbered s r' ≡ event_of s c → r ≡ r'
step-one s c r r' p q = numbered-one s r r' (p ∙ sym q)
