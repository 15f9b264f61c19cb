-- `eoclisting::put_short` meets its contract.
use Rattle.ascii.proofs.Room.{puts-more}
use Rattle.eoclisting.specs.Contents.{short_part}
use Rattle.eoclisting.proofs.put_short.Goals as goal

pub returns : goal.returns
unfolding short_part
returns c = puts-more c.word.ensures c.put_hex.ensures
