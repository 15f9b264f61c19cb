-- `precoder::split` meets its contract: the law of Columns, at the constants of the call. Assumes nothing.
use Prim.Native.Nat.{ℕ, ◌^◌, ◌≤◌, ◌<◌}
use lib.IntN.{ℤ}
use native.Mathlib.Nat.{mul-pos}
use Rattle.precoder.specs.Precoder.{Splits}
use Rattle.precoder.proofs.Columns.{within, to_raise, quotient-fits, lower-asks, found}
use Rattle.precoder.proofs.split.Goals as goal

sizes : {lowest raise z : ℤ} {n : ℕ} (s : Splits lowest n raise z) → (0 < n) × (n ≤ 2 ^ 14) × (s.size ≤ 2 ^ 14)
sizes s = (s.some, s.weight_fits, s.size_fits)

pub overflow_cast-result : goal.overflow_cast-result
overflow_cast-result g c =
    let s = c.requires in
    let range = within _ c.args.z (mul-pos s.some s.sized) (rw s.lowest_is at s.range) in
    rw s.lowest_is (quotient-fits g.row.WEIGHT s.size (sizes s) c.args.z range c.ranges.z)

pub overflow_sub-result : goal.overflow_sub-result
overflow_sub-result g c =
    let s = c.requires in
    let range = within _ c.args.z (mul-pos s.some s.sized) (rw s.lowest_is at s.range) in
    rw (s.lowest_is, s.raise_is) (lower-asks g.row.WEIGHT s.size (sizes s) c.args.z range c.ranges.z)

pub returns : goal.returns
returns g c =
    let s = c.requires in
    let range = within _ c.args.z (mul-pos s.some s.sized) (rw s.lowest_is at s.range) in
    let f = found g.row.WEIGHT s.size (sizes s) c.args.z range c.ranges.z in
    rw (s.lowest_is, s.raise_is) (f.0, to_raise s.size s.sized _ f.1, f.2)
