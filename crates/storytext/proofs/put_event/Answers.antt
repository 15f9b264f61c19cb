-- `storytext::put_event` meets its contract.
use Rattle.ascii.proofs.Room.{puts_as}
use Rattle.story.specs.Events.{numbers}
use Rattle.storytext.proofs.EventWords.{event_words, event-said}
use Rattle.storytext.proofs.put_event.Goals as goal

pub returns : goal.returns
unfolding event_words
returns c =
    puts_as c.tell.ensures
    (event-said (numbers c.args.event) _ _ _ _ _ c.attempt_row.ensures c.attempt_row-2.ensures c.code_row.ensures
    c.verb_row.ensures c.name_row.ensures)
