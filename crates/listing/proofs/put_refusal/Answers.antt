-- `listing::put_refusal` meets its contract.
use Rattle.ascii.proofs.Room.{puts-more}
use Rattle.listing.specs.Words.{refusal_words}
use Rattle.listing.proofs.put_refusal.Goals as goal

pub returns : goal.returns
unfolding refusal_words
returns c = puts-more (puts-more c.word.ensures c.put_why.ensures) c.put.ensures
