use mathlib.Core.Path.{◌≡◌}
use Prim.Native.Nat.{ℕ, ◌*◌, ◌^◌, ◌≤◌}
use lib.ListN.{length}
use lib.IntN.{pos, nat_abs, ◌+ℤ◌, ◌*ℤ◌}
use Rattle.precoder.specs.Precoder.{exact_sum}
use Rattle.precoder.proofs.Precoder.sum.Given as goal

abbrev pub most : ℕ
most = 2047 * 511

abbrev pub invariant-loop-coefficient : goal.invariant-loop-coefficient
invariant-loop-coefficient l = (pos (2 ^ 20) *ℤ l.hh +ℤ pos (2 ^ 11) *ℤ l.hl +ℤ pos (2 ^ 9) *ℤ l.lh +ℤ l.ll ≡ exact_sum (length l.yielded) l.self.taps.now l.self.past)
    × (nat_abs (l.hh) ≤ most * length l.yielded) × (nat_abs (l.hl) ≤ most * length l.yielded) × (nat_abs (l.lh) ≤ most * length l.yielded) × (nat_abs (l.ll) ≤ most * length l.yielded)
