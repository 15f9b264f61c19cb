-- `precoder::scaled` meets its contract: a shift of a number's bits is a product. Assumes nothing.
use Prim.Native.Nat.{◌^◌, ◌≤◌}
use lib.Pow.{pow_mono, pow_pos}
use mir.Facts.{to_z-of_z}
use Rattle.precoder.proofs.Products.{wide_fits}
use Rattle.precoder.proofs.Columns.{shifted, times-abs}
use Rattle.precoder.proofs.scaled.Goals as goal

pub overflow_cast-result : goal.overflow_cast-result
overflow_cast-result c = rw (to_z-of_z c.ranges.z) (wide_fits _ c.ranges.z)

pub returns : goal.returns
returns c =
    let bits = c.args.bits in
    let power : 2 ^ bits ≤ 2 ^ 20 = pow_mono c.requires in
    let is = shifted (2 ^ bits) c.args.z (pow_pos bits) power c.ranges.z in
    rw (to_z-of_z c.ranges.z) (is, rw is (times-abs (2 ^ bits) c.args.z power c.ranges.z))
