-- Laws of events. Assumes nothing.
use mathlib.Core.Path.{◌≡◌}
use Prim.Native.Nat.{ℕ, ◌<◌}
use borrow.Author.Tests.{lt-leb}
use Rattle.supervisor.specs.Step.{Numbered}
use Rattle.story.specs.declared.Story.{Story}
use Rattle.story.specs.Events.{Event, most, told, event_with}

-- the event of a code that is not refused
pub event-told : (g : Numbered) (s : Story) (c : ℕ) → g.answer ≡ 0 → (r : Event) → s.clock < most → s.attempts < most → r ≡ told s g.state c → r ≡ event_with g s c
event-told g s c z r l h e = simp (z, lt-leb most s.clock l, lt-leb most s.attempts h) e
