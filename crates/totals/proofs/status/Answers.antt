-- `totals::status` meets its contract.
use mathlib.Core.Path.{sym, ◌∙◌}
use native.Mathlib.Omega.{arith}
use borrow.Author.Tests.{lt-ltb, le-ltb}
use Rattle.card.specs.Ranks.{cannot_be_read}
use Rattle.totals.specs.Totals.{how_many, status_of}
use Rattle.totals.proofs.status.Goals as goal

pub returns-then-how_many-gt0 : goal.returns-then-how_many-gt0
unfolding status_of
returns-then-how_many-gt0 c =
    let n = how_many cannot_be_read c.args.ranks.now in simp (lt-ltb 0 n (omega (arith, c.how_many.ensures)))

pub returns-then-all_fine : goal.returns-then-all_fine
unfolding status_of
returns-then-all_fine c =
    let n = how_many cannot_be_read c.args.ranks.now in
    simp (le-ltb 0 n (omega (arith, c.how_many.ensures)), sym c.all_fine.ensures ∙ c.if-all_fine.true)

pub returns-else-all_fine : goal.returns-else-all_fine
unfolding status_of
returns-else-all_fine c =
    let n = how_many cannot_be_read c.args.ranks.now in
    simp (le-ltb 0 n (omega (arith, c.how_many.ensures)), sym c.all_fine.ensures ∙ c.if-all_fine.false)
