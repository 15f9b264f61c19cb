-- `symbol::level_code` meets its contract. Assumes nothing.
use mathlib.Core.Path.{◌≡◌, sym, ◌∙◌}
use mathlib.Core.Bool.{Bool, true}
use Prim.Native.Nat.{◌+◌, ◌-◌, ◌/◌}
use native.Mathlib.Omega.{arith}
use lib.IntN.{ℤ, pos, negsuc, nat_abs, ◌+ℤ◌}
use mir.Syntax.{w32}
use mir.Val.{SFits, to_z, of_z}
use mir.Facts.{to_z-of_z}
use Rattle.ranges.specs.Ranges.{between}
use Rattle.symbol.proofs.Levels.{rank-low, rank-middle, rank-high, place-out, place-odd, place-even, Above, above, level_code-given, level_code-refused}
use Rattle.symbol.proofs.level_code.Goals as goal

-- a level from -15 to 15, with how far it lies above -15 read back from its bits
record Read (z : ℤ) : Type 0 where
  far : Above z
  sum : to_z w32 (of_z w32 z) +ℤ pos 15 ≡ pos far.far
  fits : SFits w32 (pos far.far)
  is : nat_abs (to_z w32 (of_z w32 (to_z w32 (of_z w32 z) +ℤ pos 15))) ≡ far.far

read-in : (z : ℤ) → SFits w32 z → between (negsuc 14) (pos 15) z ≡ true → Read z
read-in z h e =
    let a = above z e in
    let f : SFits w32 (pos a.far) = record { sfits = omega (arith, a.small) } in
    record { far = a; sum = rw (to_z-of_z h) a.is; fits = f; is = rw (to_z-of_z h, a.is, to_z-of_z f) }

read : (z : ℤ) (t : Bool) → SFits w32 z → t ≡ between (negsuc 14) (pos 15) (to_z w32 (of_z w32 z)) → t ≡ true → Read z
read z t h said e = read-in z h (rw (to_z-of_z h) at (sym said ∙ e))

pub returns-then-not-in_range : goal.returns-then-not-in_range
returns-then-not-in_range c = level_code-refused _ (place-out _ (rw (to_z-of_z c.ranges.sixteenths) at (sym c.in_range.ensures ∙ c.if-not-in_range.true)))

pub overflow_add-above : goal.overflow_add-above
overflow_add-above c =
    let r = read c.args.sixteenths _ c.ranges.sixteenths c.in_range.ensures c.if-not-in_range.false in
    rw r.sum r.fits

pub overflow_cast-above : goal.overflow_cast-above
overflow_cast-above c =
    let r = read c.args.sixteenths _ c.ranges.sixteenths c.in_range.ensures c.if-not-in_range.false in
    rw (r.sum, to_z-of_z r.fits) (tt, record { fits = omega (arith, r.far.small) })

pub returns-then-above-eq1 : goal.returns-then-above-eq1
returns-then-above-eq1 c =
    let r = read c.args.sixteenths _ c.ranges.sixteenths c.in_range.ensures c.if-not-in_range.false in
    level_code-refused _ (place-odd _ r.far (rw r.is at c.if-above-eq1.true))

pub returns-in-0-to-7 : goal.returns-in-0-to-7
returns-in-0-to-7 c =
    let r = read c.args.sixteenths _ c.ranges.sixteenths c.in_range.ensures c.if-not-in_range.false in
    let even = place-even _ r.far (rw r.is at c.if-above-eq1.false) in
    rw r.is (level_code-given _ (r.far.far / 2) (even ∙ rank-low (r.far.far / 2) (omega arith)) (omega arith))

pub returns-in-8-to-11 : goal.returns-in-8-to-11
returns-in-8-to-11 c =
    let r = read c.args.sixteenths _ c.ranges.sixteenths c.in_range.ensures c.if-not-in_range.false in
    let even = place-even _ r.far (rw r.is at c.if-above-eq1.false) in
    rw r.is (level_code-given _ (r.far.far / 2 + 4) (even ∙ rank-middle (r.far.far / 2) (omega arith) (omega arith)) (omega arith))

pub returns-in_default : goal.returns-in_default
returns-in_default c =
    let r = read c.args.sixteenths _ c.ranges.sixteenths c.in_range.ensures c.if-not-in_range.false in
    let even = place-even _ r.far (rw r.is at c.if-above-eq1.false) in
    rw r.is (level_code-given _ (r.far.far / 2 - 4) (even ∙ rank-high (r.far.far / 2) (omega arith)) (omega arith))
