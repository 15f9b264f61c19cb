-- `storytext::verdict` meets its contract.
use mathlib.Core.Path.{sym, ap, ◌∙◌}
use mathlib.Core.List.{List, ◌++◌}
use Prim.Native.Nat.{ℕ}
use Rattle.ascii.proofs.Room.{puts_as}
use Rattle.storytext.specs.Ending.{last_tick}
use Rattle.storytext.proofs.EndWords.{none_said, verdict-trying, verdict-none, verdict-ended}
use Rattle.storytext.proofs.verdict.Goals as goal

pub returns-then-in_attempt : goal.returns-then-in_attempt
returns-then-in_attempt c =
    let s = c.args.story in
    puts_as c.trying.ensures (ap (λ (l : List ℕ). last_tick s.clock ++ l) (verdict-trying s (sym c.in_attempt.ensures ∙ c.if-in_attempt.true)))

pub returns-then-story-eq-NOTHING : goal.returns-then-story-eq-NOTHING
returns-then-story-eq-NOTHING c =
    let s = c.args.story in
    puts_as c.say.ensures
    (none_said s.clock
    ∙ ap (λ (l : List ℕ). last_tick s.clock ++ l) (verdict-none s (sym c.in_attempt.ensures ∙ c.if-in_attempt.false) c.if-story-eq-NOTHING.true))

pub returns-else-story-eq-NOTHING : goal.returns-else-story-eq-NOTHING
returns-else-story-eq-NOTHING c =
    let s = c.args.story in
    puts_as c.ended.ensures
    (ap (λ (l : List ℕ). last_tick s.clock ++ l) (verdict-ended s (sym c.in_attempt.ensures ∙ c.if-in_attempt.false) c.if-story-eq-NOTHING.false))
