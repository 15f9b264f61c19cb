-- `listing::put_tail` meets its contract.
use Rattle.ascii.specs.Text.{hex, hexes}
use Rattle.ascii.proofs.Room.{puts-more}
use Rattle.listing.specs.Listing.{vendor_line, check_line}
use Rattle.listing.proofs.put_tail.Goals as goal

pub returns : goal.returns
unfolding vendor_line check_line hexes hex
returns c = puts-more c.put_hex_line.ensures c.put_hex_line-2.ensures
