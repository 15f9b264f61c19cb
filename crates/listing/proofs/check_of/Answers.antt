-- `listing::check_of` meets its contract.
use Rattle.checker.proofs.Laws.{check-number}
use Rattle.listing.proofs.Laws.{check-small}
use Rattle.listing.proofs.check_of.Goals as goal

pub returns : goal.returns
returns c = (
  check-small c.field-c1_lowest.result c.turned-c1_highest.result c.turned-c1_highest.ensures,
  λ l. check-number c.args.frame.now
      c.field-c1_lowest.result c.turned-c1_highest.result l c.field-c1_lowest.ensures c.turned-c1_highest.ensures,
)
