-- `eoclisting::put_refused` meets its contract.
use mathlib.Core.Path.{ap, ◌∙◌}
use mathlib.Core.List.{[], ◌∷◌}
use Prim.Native.Nat.{ℕ}
use Rattle.ascii.specs.Text.{text}
use Rattle.ascii.proofs.Room.{puts-more, puts_as}
use Rattle.forms.specs.Forms.{formed, row_of}
use Rattle.eoclisting.specs.Line.{reasons, refused_line}
use Rattle.eoclisting.proofs.put_refused.Goals as goal

pub returns : goal.returns
unfolding refused_line
returns c =
    puts-more
    (puts-more (puts_as c.form.ensures (ap (λ (k : ℕ). formed (text "# refused #: ") (c.args.n ∷ k ∷ [])) c.number.ensures))
    (puts_as c.word.ensures (c.row.ensures ∙ ap (row_of reasons) c.reason_row.ensures)))
    c.put.ensures
