-- `phrases::put_phrase` meets its contract: what stands in the room after k octets of the row, with the rest, is the whole.
use Rattle.std.proofs.Common.{rules}
use Rattle.ascii.proofs.Room.{puts_as}
use Rattle.forms.proofs.Laws.{through-none, through-more, through-all}
use Rattle.phrases.proofs.Laws.{phrase-next, phrase-end}
use Rattle.phrases.proofs.put_phrase.Goals as goal

pub loop-octet-init : goal.loop-octet-init
loop-octet-init c = through-none _ c.args.text.now

pub loop-octet-preserved : goal.loop-octet-preserved
loop-octet-preserved c =
    let l = c.loop-octet in
    through-more l.invariant c.put_marked.ensures (phrase-next _ l.octet-index c.args.n c.loop-octet-test.true)

pub returns : goal.returns
returns c =
    let l = c.loop-octet in
    puts_as (through-all l.invariant (phrase-end _ l.octet-index c.args.n c.loop-octet-test.false)) (search rules)
