-- `octets::twos` meets its contract.
use mathlib.Core.Path.{◌∙◌}
use mir.Facts.{to_z-of_z}
use Rattle.octets.proofs.Complement.{cast-twos}
use Rattle.octets.proofs.twos.Goals as goal

pub returns : goal.returns
returns c = c.cast_unsigned.ensures ∙ rw (to_z-of_z c.ranges.v) (cast-twos c.args.v c.ranges.v)
