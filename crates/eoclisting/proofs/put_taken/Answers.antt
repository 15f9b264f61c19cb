-- `eoclisting::put_taken` meets its contract.
use borrow.Author.Tests.{lt-ltb, le-ltb}
use Rattle.ascii.proofs.Room.{puts-none, puts-more}
use Rattle.eoclisting.specs.Totals.{taken_text}
use Rattle.eoclisting.proofs.put_taken.Goals as goal

pub returns-then-own-lt-UNITS : goal.returns-then-own-lt-UNITS
unfolding taken_text
returns-then-own-lt-UNITS c =
    simp (lt-ltb c.args.own 16 c.if-own-lt-UNITS.true) (puts-more (puts-more c.word.ensures c.put_unit.ensures) c.form.ensures)

pub returns-else-own-lt-UNITS : goal.returns-else-own-lt-UNITS
unfolding taken_text
returns-else-own-lt-UNITS c = simp (le-ltb c.args.own 16 c.if-own-lt-UNITS.false) (puts-none c.args.text.now)
