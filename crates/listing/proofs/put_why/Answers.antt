-- `listing::put_why` meets its contract.
use mathlib.Core.Logic.{⊎_elim}
use Rattle.ascii.proofs.Room.{puts-none}
use Rattle.listing.specs.Words.{reason_words}
use Rattle.listing.proofs.put_why.Goals as goal

pub returns-in-Sync : goal.returns-in-Sync
unfolding reason_words
returns-in-Sync c = rw c.in-Sync.is c.word.ensures

pub returns-in-Pad : goal.returns-in-Pad
unfolding reason_words
returns-in-Pad c = rw c.in-Pad.is c.word-in-Pad.ensures

pub returns-in-Check : goal.returns-in-Check
unfolding reason_words
returns-in-Check c = rw c.in-Check.is c.word-in-Check.ensures

pub returns-in-Unknown : goal.returns-in-Unknown
unfolding reason_words
returns-in-Unknown c =
    let none = puts-none c.args.text.now in
    ⊎_elim (λ e. rw e none)
    (⊎_elim (λ e. rw e none)
    (⊎_elim (λ e. rw e none)
    (⊎_elim (λ e. rw e none)
    (⊎_elim (λ e. rw e none)
    (⊎_elim (λ e. rw e none)
    (λ e. rw e none)))))) c.in-Unknown.is
