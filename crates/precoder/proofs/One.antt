-- One result per call: two results, and two states of lent memory, that a promise allows for the same call are equal. Assumes nothing.
use mathlib.Core.Path.{◌≡◌, refl, sym, ap, ◌∙◌}
use mathlib.Core.Bool.{Bool, true, false}
use mathlib.Core.List.{List}
use Prim.Native.Nat.{ℕ, zero, suc}
use lib.IntN.{ℤ}
use Rattle.std.specs.Prelude.{Result}
use Rattle.answer.specs.declared.Refused.{Refused}
use Rattle.answer.specs.Answer.{held}
use Rattle.answer.specs.Given.{answer_of}
use Rattle.answer.proofs.Given.{result-one}
use Rattle.numbers.specs.Promises.{numbers_of, number_octets}
use Rattle.precoder.specs.Runs.{past_after_all, lines_of, RunPromise, PrecodesRun, DecodesRun}
use Rattle.precoder.proofs.Back.{run_out}

-- what is given where the answer is 0 has to be equal only there
held_one : {A : Type 0} (n : ℕ) (old a b : A) → (n ≡ 0 → a ≡ b) → held n old a ≡ held n old b
held_one zero old a b h = h refl
held_one (suc n) old a b h = refl

number-one : (back : Bool) (coefficients history symbols room : List ℕ) (r s : ℕ) (history' history'' room' room'' : List ℕ)
    → RunPromise back coefficients history symbols room r history' room' → RunPromise back coefficients history symbols room s history'' room''
    → (r ≡ s) × (history' ≡ history'') × (room' ≡ room'')
number-one back coefficients history symbols room r s history' history'' room' room'' p q =
    let a = p.answered ∙ sym q.answered in
    let same : s ≡ 0 → p.out ≡ q.out = λ z.
    run_out back coefficients history symbols room r history' room' p (a ∙ z) ∙ sym (run_out back coefficients history symbols room s history'' room'' q z) in
    let past : List ℤ → List ℕ = λ o. number_octets (past_after_all (numbers_of history) (lines_of back (numbers_of symbols) o)) in (
      a,
      (rw a at p.past) ∙ held_one s history (past p.out) (past q.out) (λ z. ap past (same z)) ∙ sym q.past,
      (rw a at p.written) ∙ held_one s room (number_octets p.out) (number_octets q.out) (λ z. ap number_octets (same z)) ∙ sym q.written,
    )

pub precode-number-one : (coefficients history xs ys : List ℕ) (r s : ℕ) (history' history'' ys' ys'' : List ℕ)
    → PrecodesRun coefficients history xs ys r history' ys' → PrecodesRun coefficients history xs ys s history'' ys''
    → (r ≡ s) × (history' ≡ history'') × (ys' ≡ ys'')
precode-number-one = number-one false

pub decode-number-one : (coefficients history ys xs : List ℕ) (r s : ℕ) (history' history'' xs' xs'' : List ℕ)
    → DecodesRun coefficients history ys xs r history' xs' → DecodesRun coefficients history ys xs s history'' xs''
    → (r ≡ s) × (history' ≡ history'') × (xs' ≡ xs'')
decode-number-one = number-one true

-- a result without a value is its answer
same : (r s : Result (Unit {0}) Refused) → answer_of r ≡ answer_of s → r ≡ s
same r s e = result-one r s e (λ v w p q. refl)

pub precode-run-one : (coefficients history xs ys : List ℕ) (r s : Result (Unit {0}) Refused) (history' history'' ys' ys'' : List ℕ)
    → PrecodesRun coefficients history xs ys (answer_of r) history' ys' → PrecodesRun coefficients history xs ys (answer_of s) history'' ys''
    → (r ≡ s) × (history' ≡ history'') × (ys' ≡ ys'')
precode-run-one coefficients history xs ys r s history' history'' ys' ys'' p q =
    let e = precode-number-one coefficients history xs ys (answer_of r) (answer_of s) history' history'' ys' ys'' p q in
    (same r s e.0, e.1, e.2)

pub decode-run-one : (coefficients history ys xs : List ℕ) (r s : Result (Unit {0}) Refused) (history' history'' xs' xs'' : List ℕ)
    → DecodesRun coefficients history ys xs (answer_of r) history' xs' → DecodesRun coefficients history ys xs (answer_of s) history'' xs''
    → (r ≡ s) × (history' ≡ history'') × (xs' ≡ xs'')
decode-run-one coefficients history ys xs r s history' history'' xs' xs'' p q =
    let e = decode-number-one coefficients history ys xs (answer_of r) (answer_of s) history' history'' xs' xs'' p q in
    (same r s e.0, e.1, e.2)
