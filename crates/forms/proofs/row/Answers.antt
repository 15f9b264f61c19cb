-- `forms::row` meets its contract.
use mathlib.Core.Path.{◌∙◌, ap}
use Rattle.std.proofs.Common.{◌≡◌, refl, rules, tests}
use Rattle.std.proofs.lemmas.Fn.{always_returns_same}
use Rattle.forms.specs.Forms.{row_of}
use Rattle.forms.proofs.Rows.{is_end, nth-is-row}
use Rattle.forms.proofs.row.Goals as goal

pub returns : goal.returns
returns c =
    let s = c.split.ensures in
    let r = c.nth.ensures.ran in
    ap (λ b. b.now) c.unwrap_or.ensures
    ∙ nth-is-row _ _ refl r.0 c.nth.result c.split.result r.1.0 _ c.args.n
    (always_returns_same _ (λ a b. b ≡ is_end a.0.now) _ (λ a b q k. search (rules, tests)))
    s.done r.1.1 r.1.2 r.2
    ∙ ap (λ l. row_of l c.args.n) s.rest
