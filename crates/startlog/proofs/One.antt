-- One result per call: each promise is an equation. Assumes nothing.
use mathlib.Core.Path.{◌≡◌, refl, sym, ap, ◌∙◌}
use mathlib.Core.List.{List}
use Prim.Native.Nat.{ℕ}
use Rattle.std.specs.Prelude.{Result, Ok, Err}
use Rattle.answer.specs.declared.Refused.{Refused}
use Rattle.answer.specs.Given.{answer_of}
use Rattle.answer.proofs.Given.{result-one}
use Rattle.startlog.specs.declared.Line.{Line as Given}
use Rattle.startlog.specs.Lines.{Line, numbered, counted, line_of, end_of}

-- two results that are the same with their numbers
numbered-one : (r r' : Result Given Refused) → numbered r ≡ numbered r' → r ≡ r'
numbered-one r r' e = result-one r r' (sym (number r) ∙ ap (λ (n : Line). n.answer) e ∙ number r') value
  where
    number : (r : Result Given Refused) → (numbered r).answer ≡ answer_of r
    number (Ok v) = refl
    number (Err n) = refl

    value : (v w : Given) → r ≡ Ok v → r' ≡ Ok w → v ≡ w
    value v w p q =
        let f : numbered (Ok v) ≡ numbered (Ok w) = ap numbered (sym p) ∙ e ∙ ap numbered q in
        λ i. record { code = (f i).code; times = (f i).times }

pub read_one : (l : List ℕ) (r r' : Result Given Refused) → numbered r ≡ line_of l → numbered r' ≡ line_of l → r ≡ r'
read_one l r r' p q = numbered-one r r' (p ∙ sym q)

pub counted-one : (ds : List ℕ) (r r' : Result Given Refused) → numbered r ≡ counted ds → numbered r' ≡ counted ds → r ≡ r'
counted-one ds r r' p q = numbered-one r r' (p ∙ sym q)

pub line-end-one : (log : List ℕ) (at r r' : ℕ) → r ≡ end_of log at → r' ≡ end_of log at → r ≡ r'
line-end-one log at r r' p q = p ∙ sym q
