-- `card::put_name` meets its contract.
use mathlib.Core.Path.{sym, ap, ◌∙◌}
use mathlib.Core.Bool.{cond}
use mathlib.Core.List.{[], ◌++◌, append-nil}
use borrow.Author.Tests.{eq-eqb, ne_eqb}
use lib.Dec.{eqb}
use Rattle.forms.specs.Forms.{row_of}
use Rattle.ascii.proofs.Room.{puts-more, puts_as}
use Rattle.card.specs.Words.{refused_row, names, refusal, name_of}
use Rattle.card.proofs.put_name.Goals as goal

pub returns-then-n-eq-REFUSED_ROW : goal.returns-then-n-eq-REFUSED_ROW
unfolding name_of
returns-then-n-eq-REFUSED_ROW c =
    puts_as (puts-more (puts_as c.word.ensures c.row.ensures) c.put_refusal.ensures)
    ((simp (eq-eqb _ _ c.if-n-eq-REFUSED_ROW.true)) ∙ ap (λ r. row_of names r ++ cond (eqb r refused_row) (refusal c.args.rank) []) c.row-n.ensures)

pub returns-else-n-eq-REFUSED_ROW : goal.returns-else-n-eq-REFUSED_ROW
unfolding name_of
returns-else-n-eq-REFUSED_ROW c =
    puts_as (puts_as c.word.ensures c.row.ensures)
    (sym (append-nil _) ∙ (simp (ne_eqb _ _ c.if-n-eq-REFUSED_ROW.false))
    ∙ ap (λ r. row_of names r ++ cond (eqb r refused_row) (refusal c.args.rank) []) c.row-n.ensures)
