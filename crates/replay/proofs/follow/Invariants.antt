use Prim.Native.Nat.{◌-◌}
use Rattle.story.specs.Events.{refused_with}
use Rattle.replay.specs.Replay.{repeated}
use Rattle.replay.proofs.Laws.{Alike}
use Rattle.replay.proofs.follow.Given as goal

abbrev pub invariant-loop-k : goal.invariant-loop-k
invariant-loop-k l =
    Alike (repeated l.said.code (l.said.times - l.k) (refused_with l.story 0)) (repeated l.said.code l.said.times (refused_with l.initial.story 0))
