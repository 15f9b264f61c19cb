-- `eoclisting::put_name` meets its contract.
use mathlib.Core.Path.{ap, ◌∙◌}
use Rattle.ascii.proofs.Room.{puts_as}
use Rattle.forms.specs.Forms.{row_of}
use Rattle.eoclisting.specs.Names.{names, name_of}
use Rattle.eoclisting.proofs.put_name.Goals as goal

pub returns : goal.returns
unfolding name_of
returns c = puts_as c.word.ensures (c.row.ensures ∙ ap (row_of names) c.name_row.ensures)
