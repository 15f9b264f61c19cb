-- `listing::put_coefficient_line` meets its contract.
use Rattle.ascii.specs.Text.{signed}
use Rattle.ascii.proofs.Room.{puts-more, puts_as}
use Rattle.listing.specs.Listing.{coefficient_line}
use Rattle.listing.proofs.Laws.{coefficient-form}
use mir.Facts.{to_z-of_z}
use Rattle.listing.proofs.put_coefficient_line.Goals as goal

pub returns : goal.returns
unfolding coefficient_line
returns c =
    let a = c.args in
    puts_as (puts-more (puts-more c.form.ensures (rw (to_z-of_z c.ranges.c) at c.signed.ensures)) c.put.ensures) (coefficient-form a.k (signed a.c))
