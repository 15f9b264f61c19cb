-- `listing::put_hex_line` meets its contract.
use Rattle.ascii.proofs.Room.{puts-more}
use Rattle.listing.proofs.put_hex_line.Goals as goal

pub returns : goal.returns
returns c = puts-more (puts-more c.word.ensures c.hexes.ensures) c.put.ensures
