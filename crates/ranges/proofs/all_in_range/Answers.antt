-- `ranges::all_in_range` meets its contract: all numbers are iterated, from the first on (`take_rest`, where a start is counted).
-- Assumes nothing.
use mathlib.Core.Path.{◌∙◌}
use mathlib.Core.Bool.{true, ◌&&◌}
use borrow.Author.Rules.{rules}
use borrow.Author.Tests.{tests}
use Rattle.std.proofs.lemmas.List.{take_rest}
use Rattle.std.proofs.lemmas.Iterator.{YieldsList-from_slice}
use Rattle.std.proofs.lemmas.Iterator.Consumers.{fold_from_yields_List}
use Rattle.ranges.specs.Ranges.{between}
use Rattle.ranges.proofs.Laws.{every-folded}
use Rattle.ranges.proofs.all_in_range.Goals as goal

pub returns : goal.returns
returns c =
    let a = c.args in
    fold_from_yields_List _ (λ all z. all && between a.low a.high z) true _ c.fold.ensures.ran
    (YieldsList-from_slice a.values.now (search (rules, tests, take_rest a.values.now 0))) (λ b x d q k. search (rules, tests))
    ∙ every-folded (between a.low a.high) true a.values.now
