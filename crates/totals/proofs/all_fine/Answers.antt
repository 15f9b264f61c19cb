-- `totals::all_fine` meets its contract.
use mathlib.Core.Path.{ap, ◌∙◌}
use lib.Dec.{eqb}
use lib.ListN.{length}
use Rattle.totals.specs.Totals.{how_many}
use Rattle.totals.proofs.all_fine.Goals as goal

pub returns : goal.returns
returns c =
    let l = c.args.ranks.now in
    ap (λ n. eqb n (length l)) (c.how_many.ensures ∙ ap (λ x. how_many x l) c.fine.ensures)
