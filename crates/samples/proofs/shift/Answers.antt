-- `samples::shift` meets its contract: each output one place on, and the newest in front. Assumes nothing.
use mathlib.Core.Path.{◌≡◌, ap, ◌∙◌}
use mathlib.Core.List.{List, [], ◌∷◌, ◌++◌, append-nil}
use native.Mathlib.Omega.{arith}
use lib.IntN.{ℤ}
use lib.ListN.{length, take, set, drop_of_length-le}
use mir.Facts.{to_z-of_z}
use Rattle.samples.specs.Samples.{past_after}
use Rattle.std.specs.List.{copy_within}
use Rattle.samples.proofs.shift.Goals as goal

moved : (old : List ℤ) (y : ℤ) → length old ≡ 180 → set (copy_within old 0 179 1) 0 y ≡ past_after old y
moved [] y l = absurd (omega arith)
moved (z ∷ old) y l =
    ap (λ (zs : List ℤ). y ∷ take 179 (z ∷ old) ++ zs) (drop_of_length-le old {i = 179} (omega arith)) ∙ ap (λ (zs : List ℤ). y ∷ zs) (append-nil (take 179 (z ∷ old)))

pub returns : goal.returns
returns c = rw (to_z-of_z c.ranges.y, c.copy_within.ensures.after) (moved c.args.history.now c.args.y c.told-history)
