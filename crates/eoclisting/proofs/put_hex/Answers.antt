-- `eoclisting::put_hex` meets its contract.
use Rattle.std.proofs.Common.{rules, tests}
use Rattle.ascii.proofs.Room.{puts-none, puts-more, puts_as}
use Rattle.eoclisting.specs.Contents.{hex_part}
use Rattle.eoclisting.proofs.put_hex.Goals as goal

pub returns-then-not-is_empty : goal.returns-then-not-is_empty
unfolding hex_part
returns-then-not-is_empty c = puts_as (puts-more c.word.ensures c.hexes.ensures) (search (rules, tests))

pub returns-else-not-is_empty : goal.returns-else-not-is_empty
unfolding hex_part
returns-else-not-is_empty c = puts_as (puts-none c.args.text.now) (search (rules, tests))
