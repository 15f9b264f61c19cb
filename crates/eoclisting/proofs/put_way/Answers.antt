-- `eoclisting::put_way` meets its contract.
use mathlib.Core.Path.{ap}
use Rattle.ascii.proofs.Room.{puts-more, puts_as}
use Rattle.forms.specs.Forms.{row_of}
use Rattle.eoclisting.specs.Names.{units, source_name, destination_name}
use Rattle.eoclisting.specs.Line.{way_text}
use Rattle.eoclisting.proofs.put_way.Goals as goal

pub returns : goal.returns
unfolding way_text source_name destination_name
returns c =
    puts-more (puts-more (puts_as c.put_unit.ensures (ap (row_of units) c.source_row.ensures)) c.word.ensures) c.put_unit-2.ensures
