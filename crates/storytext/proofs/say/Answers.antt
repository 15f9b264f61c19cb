-- `storytext::say` meets its contract.
use Rattle.storytext.specs.Words.{end_words}
use Rattle.storytext.proofs.say.Goals as goal

pub returns : goal.returns
unfolding end_words
returns c = c.tell.ensures
