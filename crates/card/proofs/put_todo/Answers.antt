-- `card::put_todo` meets its contract.
use mathlib.Core.Path.{ap, ◌∙◌}
use Rattle.forms.specs.Forms.{row_of}
use Rattle.ascii.proofs.Room.{puts_as}
use Rattle.card.specs.Words.{todos, todo}
use Rattle.card.proofs.put_todo.Goals as goal

pub returns : goal.returns
unfolding todo
returns c = puts_as c.word.ensures (c.row-2.ensures ∙ ap (row_of todos) c.row.ensures)
