-- `listing::put_kind` meets its contract.
use Rattle.listing.proofs.put_kind.Goals as goal

pub returns-in-Final : goal.returns-in-Final
returns-in-Final c = rw c.in-Final.is c.word.ensures
