-- `eoclisting::put_margin` meets its contract.
use mathlib.Core.Path.{ap, ◌∙◌}
use mathlib.Core.List.{[], ◌∷◌}
use Prim.Native.Nat.{ℕ, ◌-◌}
use native.Mathlib.Omega.{arith}
use Rattle.ascii.specs.Text.{text}
use Rattle.ascii.proofs.Room.{puts_as}
use Rattle.forms.specs.Forms.{formed}
use Rattle.eoclisting.proofs.Laws.{margin-none, margin-over, margin-under}
use Rattle.eoclisting.proofs.put_margin.Goals as goal

pub returns-in-127 : goal.returns-in-127
returns-in-127 c = puts_as c.word.ensures (margin-none c.args.margin c.in-127.is)

pub returns-in-0-to-126 : goal.returns-in-0-to-126
returns-in-0-to-126 c =
    puts_as c.form.ensures
    (ap (λ (m : ℕ). formed (text "# dB") (m ∷ [])) c.from.ensures ∙ margin-over c.args.margin (λ e. absurd (omega arith)) (omega arith))

pub returns-in_default : goal.returns-in_default
returns-in_default c =
    puts_as c.form-in_default.ensures
    (ap (λ (m : ℕ). formed (text "-# dB") ((256 - m) ∷ [])) c.from-in_default.ensures ∙ margin-under c.args.margin (λ e. absurd (omega arith)) (omega arith))
