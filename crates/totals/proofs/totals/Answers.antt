-- `totals::totals` meets its contract.
use mathlib.Core.Path.{refl, ap}
use mathlib.Core.List.{◌++◌}
use Rattle.std.proofs.Common.{rules}
use Rattle.ascii.proofs.Room.{puts-more, puts_as, puts-told}
use Rattle.card.specs.Ranks.{verdicts}
use Rattle.totals.specs.Totals.{first_line, verdict_lines, last_line, totals_text}
use Rattle.totals.proofs.totals.Goals as goal

pub returns : goal.returns
unfolding totals_text
returns c =
    let r = c.args.ranks.now in
    puts-told
    (puts_as (puts-more (puts-more c.put_first.ensures c.put_lines.ensures) c.put_last.ensures)
    (ap (λ t. first_line c.args.given r ++ verdict_lines verdicts r ++ last_line c.args.given t) c.all_fine.ensures))
    refl (search rules)
