-- `cardline::put_csv` meets its contract.
use Rattle.std.proofs.Common.{rules, tests}
use Rattle.cardline.specs.Line.{csv_octet}
use Rattle.cardline.proofs.put_csv.Goals as goal

pub returns-in-9 : goal.returns-in-9
unfolding csv_octet
returns-in-9 c = rw c.in-9.is c.word.ensures

pub returns-in-10 : goal.returns-in-10
unfolding csv_octet
returns-in-10 c = rw c.in-10.is c.word-in-10.ensures

pub returns-in-34 : goal.returns-in-34
unfolding csv_octet
returns-in-34 c = rw c.in-34.is c.word-in-34.ensures

pub returns-in_default : goal.returns-in_default
unfolding csv_octet
returns-in_default c = search (rules, tests)
