-- `phrases::put_marked` meets its contract.
use Rattle.std.proofs.Common.{rules, tests}
use Rattle.phrases.specs.Phrases.{marked}
use Rattle.phrases.proofs.put_marked.Goals as goal

pub returns-in-35 : goal.returns-in-35
unfolding marked
returns-in-35 c = rw c.in-35.is c.decimal.ensures

pub returns-in-64 : goal.returns-in-64
unfolding marked
returns-in-64 c = rw c.in-64.is c.put_thousandths.ensures

pub returns-in-36 : goal.returns-in-36
unfolding marked
returns-in-36 c = rw c.in-36.is c.put.ensures

pub returns-in_default : goal.returns-in_default
unfolding marked
returns-in_default c = search (rules, tests)
