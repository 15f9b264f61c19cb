-- `precoder::output_halves` meets its contract: the constants are such as `split` asks for. Assumes nothing.
use mathlib.Core.Path.{refl, ◌∙◌}
use lib.Dec.{lit<, lit≤}
use mir.Facts.{to_z-of_z}
use Rattle.precoder.proofs.output_halves.Goals as goal

pub split-requires : goal.split-requires
split-requires c =
    record {
      size = 256;
      raise_is = refl;
      lowest_is = refl;
      some = lit< tt;
      sized = lit< tt;
      weight_fits = lit≤ tt;
      size_fits = lit≤ tt;
      range = rw (to_z-of_z c.ranges.y) c.requires;
    }

pub returns : goal.returns
returns c = let e = c.split.ensures in (e.0 ∙ to_z-of_z c.ranges.y, e.1, e.2)
