-- One result per call. Assumes nothing.
use mathlib.Core.Path.{◌≡◌, sym, ◌∙◌}
use mathlib.Core.List.{List}
use Prim.Native.Nat.{ℕ}
use Rattle.std.proofs.lemmas.Result.{IfOk-at_ok}
use Rattle.answer.proofs.Given.{result-one}
use Rattle.ascii.proofs.One.{told-one}
use Rattle.eoclisting.specs.declared.Listed.{Listed}
use Rattle.eoclisting.specs.declared.Counts.{Counts}
use Rattle.eoclisting.specs.Line.{line_of}
use Rattle.eoclisting.specs.Promises.{Lined}
use Rattle.eoclisting.specs.Totals.{totals_text, Totalled}

pub lined-one : (n : ℕ) (s room : List ℕ) (r r' : Listed) (t t' : List ℕ) → Lined n s room r t → Lined n s room r' t' → (r ≡ r') × (t ≡ t')
lined-one n s room r r' t t' p q =
    let e = told-one (line_of n s) room r.length r'.length t t' p.told q.told in
    let d = result-one r.destination r'.destination (p.answered ∙ sym q.answered) (λ v w f g. IfOk-at_ok _ f p.to ∙ sym (IfOk-at_ok _ g q.to)) in
    (λ i. record { destination = d i; length = e.0 i }, e.1)

pub totalled-one : (c : Counts) (room : List ℕ) (r r' : ℕ) (t t' : List ℕ) → Totalled c room r t → Totalled c room r' t' → (r ≡ r') × (t ≡ t')
totalled-one c = told-one (totals_text c)
