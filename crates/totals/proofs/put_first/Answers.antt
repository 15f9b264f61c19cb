-- `totals::put_first` meets its contract.
use mathlib.Core.Path.{ap, ◌∙◌}
use mathlib.Core.List.{◌++◌}
use Prim.Native.Nat.{◌-◌}
use native.Mathlib.Omega.{arith}
use lib.ListN.{length}
use Rattle.ascii.proofs.Room.{puts-more, puts_as}
use Rattle.totals.specs.Totals.{how_many, cards_text, fine_text, first_line}
use Rattle.totals.proofs.Counting.{many-within}
use Rattle.totals.proofs.put_first.Goals as goal

pub overflow_sub-ranks : goal.overflow_sub-ranks
overflow_sub-ranks c = omega (arith, c.how_many-n.ensures, many-within c.fine.result c.args.ranks.now)

pub returns : goal.returns
unfolding first_line
returns c =
    let l = c.args.ranks.now in
    puts_as (puts-more c.put_cards.ensures c.put_fine.ensures)
    (ap (λ n. cards_text (length l) ++ fine_text c.args.given n (length l - n)) (c.how_many-n.ensures ∙ ap (λ x. how_many x l) c.fine.ensures))
