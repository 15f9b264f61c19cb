-- `verdict::like` meets its contract.
use borrow.Author.Tests.{not-false}
use mathlib.Core.Path.{sym, ◌∙◌}
use Rattle.verdict.specs.Verdict.{last_first}
use Rattle.verdict.proofs.Laws.{like-turned, like-other}
use Rattle.verdict.proofs.like.Goals as goal

pub returns-then-x-last_first : goal.returns-then-x-last_first
unfolding last_first
returns-then-x-last_first c =
    like-turned c.args.given c.args.x c.args.y (not-false _ c.if-not-given.false-raw) c.if-x-y.false
    (c.if-x-last_first.true ∙ c.turned-last_first.ensures)

pub returns-else-x-last_first : goal.returns-else-x-last_first
unfolding last_first
returns-else-x-last_first c =
    like-other c.args.given c.args.x c.args.y (not-false _ c.if-not-given.false-raw) c.if-x-y.false
    (λ e. c.if-x-last_first.false (e ∙ sym c.turned-last_first.ensures))
