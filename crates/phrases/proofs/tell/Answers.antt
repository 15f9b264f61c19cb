-- `phrases::tell` meets its contract: what stands in the room after k phrases, with the rest, is the whole.
use Rattle.forms.proofs.Laws.{through-more, through-all}
use Rattle.phrases.proofs.Laws.{said-next, said-end}
use Rattle.phrases.proofs.tell.Goals as goal

pub loop-row-preserved : goal.loop-row-preserved
loop-row-preserved c =
    let l = c.loop-row in let a = c.args in
    through-more l.invariant c.put_phrase.ensures (said-next a.table.now a.said.now l.row-index _ c.loop-row-test.true)

pub returns : goal.returns
returns c = let l = c.loop-row in let a = c.args in
    through-all l.invariant (said-end a.table.now a.said.now l.row-index c.loop-row-test.false)
