-- `precoder::joined` meets its contract: nothing on the way leaves an i64. Assumes nothing.
use mathlib.Core.Path.{◌≡◌, refl, ◌∙◌}
use Prim.Native.Nat.{◌^◌, ◌≤◌}
use native.Mathlib.Omega.{arith}
use lib.IntN.{ℤ, nat_abs, ◌+ℤ◌}
use mir.Syntax.{w32, w64}
use mir.Val.{SFits, of_z, to_z}
use mir.Facts.{to_z-of_z}
use Rattle.samples.proofs.Rounding.{abs-fits}
use Rattle.precoder.proofs.Products.{wide_fits}
use Rattle.precoder.proofs.Columns.{two-fit, three-fit, four-fit}
use Rattle.precoder.proofs.joined.Goals as goal

-- the code's sums of what the three calls gave and the last part, read back from their bits at every step
module _ (a b : ℤ) (f : nat_abs a ≤ 2 ^ 51) (g : nat_abs b ≤ 2 ^ 51) where
  two : to_z w64 (of_z w64 a) +ℤ to_z w64 (of_z w64 b) ≡ a +ℤ b
  two = rw (to_z-of_z (abs-fits a (omega arith)), to_z-of_z (abs-fits b (omega arith))) refl

  module _ (d : ℤ) (h : nat_abs d ≤ 2 ^ 51) where
    three : to_z w64 (of_z w64 (to_z w64 (of_z w64 a) +ℤ to_z w64 (of_z w64 b))) +ℤ to_z w64 (of_z w64 d) ≡ a +ℤ b +ℤ d
    three = rw (two, to_z-of_z (two-fit a b f g), to_z-of_z (abs-fits d (omega arith))) refl

    all : (l : ℤ) → SFits w32 l
        → to_z w64 (of_z w64 (to_z w64 (of_z w64 (to_z w64 (of_z w64 a) +ℤ to_z w64 (of_z w64 b))) +ℤ to_z w64 (of_z w64 d)))
        +ℤ to_z w64 (of_z w64 (to_z w32 (of_z w32 l))) ≡ a +ℤ b +ℤ d +ℤ l
    all l i = rw (three, to_z-of_z (three-fit a b d f g h), to_z-of_z i, to_z-of_z (wide_fits l i)) refl

pub overflow_add-result : goal.overflow_add-result
overflow_add-result c =
    let a = c.scaled in
    let b = c.scaled-2 in
    rw (two a.result b.result a.ensures.1 b.ensures.1) (two-fit a.result b.result a.ensures.1 b.ensures.1)

pub overflow_add-result-2 : goal.overflow_add-result-2
overflow_add-result-2 c =
    let a = c.scaled in
    let b = c.scaled-2 in
    let d = c.scaled-3 in
    rw (three a.result b.result a.ensures.1 b.ensures.1 d.result d.ensures.1) (three-fit a.result b.result d.result a.ensures.1 b.ensures.1 d.ensures.1)

pub overflow_cast-result : goal.overflow_cast-result
overflow_cast-result c =
    let f : SFits w32 c.args.parts.ll = record { sfits = omega arith } in
    rw (to_z-of_z f) (wide_fits c.args.parts.ll f)

pub overflow_add-result-3 : goal.overflow_add-result-3
overflow_add-result-3 c =
    let a = c.scaled in
    let b = c.scaled-2 in
    let d = c.scaled-3 in
    let f : SFits w32 c.args.parts.ll = record { sfits = omega arith } in
    rw (all a.result b.result a.ensures.1 b.ensures.1 d.result d.ensures.1 c.args.parts.ll f)
    (four-fit a.result b.result d.result c.args.parts.ll a.ensures.1 b.ensures.1 d.ensures.1 f)

pub returns : goal.returns
returns c =
    let p = c.args.parts in
    let a = c.scaled in
    let b = c.scaled-2 in
    let d = c.scaled-3 in
    let f : SFits w32 p.ll = record { sfits = omega arith } in
    let hh : SFits w32 p.hh = record { sfits = omega arith } in
    let hl : SFits w32 p.hl = record { sfits = omega arith } in
    let lh : SFits w32 p.lh = record { sfits = omega arith } in
    let e1 = rw (to_z-of_z hh) at a.ensures.0 in
    let e2 = rw (to_z-of_z hl) at b.ensures.0 in
    let e3 = rw (to_z-of_z lh) at d.ensures.0 in
    rw (all a.result b.result a.ensures.1 b.ensures.1 d.result d.ensures.1 p.ll f)
    (to_z-of_z (four-fit a.result b.result d.result p.ll a.ensures.1 b.ensures.1 d.ensures.1 f) ∙ rw (e1, e2, e3) refl)
