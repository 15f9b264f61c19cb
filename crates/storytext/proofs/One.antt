-- One result per call. Assumes nothing.
use mathlib.Core.Path.{◌≡◌, sym, ◌∙◌}
use mathlib.Core.Bool.{Bool}
use Rattle.story.specs.declared.Story.{Story}
use Rattle.storytext.specs.Ending.{InDataMode}

pub in-data-mode-one : (s : Story) (r r' : Bool) → InDataMode s r → InDataMode s r' → r ≡ r'
in-data-mode-one s r r' p q = p ∙ sym q
