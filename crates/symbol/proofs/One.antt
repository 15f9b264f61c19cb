-- One result per call: two results, and two states of lent memory, that a promise allows for the same call are equal. Assumes nothing.
use mathlib.Core.Path.{◌≡◌, sym, ◌∙◌}
use mathlib.Core.List.{List}
use Prim.Native.Nat.{ℕ}
use lib.IntN.{ℤ}
use Rattle.std.specs.Prelude.{Result, IfOk}
use Rattle.answer.specs.declared.Refused.{Refused}
use Rattle.answer.specs.Given.{answer_of}
use Rattle.answer.proofs.Given.{result-one}
use Rattle.symbol.specs.declared.Encoder.{Encoder}
use Rattle.symbol.specs.declared.Step.{Step}
use Rattle.symbol.specs.Levels.{ActivationLevel, DataLevel, LevelCode}
use Rattle.symbol.specs.Encoder.{Sent, Started, Stepped, Ran}

-- two results with one answer, whose values are the same x where they have one
same : {A : Type 0} (r s : Result A Refused) (x : A) → answer_of r ≡ answer_of s → IfOk r (λ v. v ≡ x) → IfOk s (λ v. v ≡ x) → r ≡ s
same r s x e p q =
    result-one r s e
    (λ v w rv sw. (rw rv at p) ∙ sym (rw sw at q))

pub activation-level-one : (bit : ℕ) (r s : Result ℤ Refused) → ActivationLevel bit r → ActivationLevel bit s → r ≡ s
activation-level-one bit r s p q = same r s _ (p.answered ∙ sym q.answered) p.level q.level

pub data-level-one : (code : ℕ) (r s : Result ℤ Refused) → DataLevel code r → DataLevel code s → r ≡ s
data-level-one code r s p q = same r s _ (p.answered ∙ sym q.answered) p.level q.level

pub level-code-one : (level : ℤ) (r s : Result ℕ Refused) → LevelCode level r → LevelCode level s → r ≡ s
level-code-one level r s p q = same r s _ (p.answered ∙ sym q.answered) p.code q.code

pub start-one : (a b : ℕ) (r s : Result Encoder Refused) → Started a b r → Started a b s → r ≡ s
start-one a b r s p q = same r s _ (p.answered ∙ sym q.answered) p.first q.first

sent-one : (e : Encoder) (symbol : ℕ) (s t : Step) → Sent e symbol s → Sent e symbol t → s ≡ t
sent-one e symbol s t p q =
    λ i. record { code = (p.code ∙ sym q.code) i; sixteenths = (p.level ∙ sym q.level) i; next = (p.next ∙ sym q.next) i }

pub step-one : (e : Encoder) (symbol : ℕ) (r s : Result Step Refused) → Stepped e symbol r → Stepped e symbol s → r ≡ s
step-one e symbol r s p q =
    result-one r s (p.answered ∙ sym q.answered)
    (λ v w rv sw. sent-one e symbol v w (rw rv at p.sent) (rw sw at q.sent))

pub run-one : (e : Encoder) (symbols codes : List ℕ) (r s : Result Encoder Refused) (x y : List ℕ)
    → Ran e symbols codes r x → Ran e symbols codes s y → (r ≡ s) × (x ≡ y)
run-one e symbols codes r s x y p q =
    let a = p.answered ∙ sym q.answered in
    (same r s _ a p.next q.next, ((rw a at p.written) ∙ sym q.written))
