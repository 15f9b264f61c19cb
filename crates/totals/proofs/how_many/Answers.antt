-- `totals::how_many` meets its contract.
use Rattle.std.proofs.Common.{rules}
use Rattle.totals.proofs.Counting.{many-counted}
use Rattle.totals.proofs.how_many.Goals as goal

pub returns : goal.returns
returns c = search (rules, many-counted c.args.x)
