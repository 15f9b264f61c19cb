-- `storytext::put_refused` meets its contract.
use Rattle.ascii.proofs.Room.{puts_as}
use Rattle.storytext.proofs.EndWords.{refused_words, refused-said}
use Rattle.storytext.proofs.put_refused.Goals as goal

pub returns : goal.returns
unfolding refused_words
returns c =
    let a = c.args in
    puts_as c.tell.ensures (refused-said a.answer a.line _ c.reason_row.ensures)
