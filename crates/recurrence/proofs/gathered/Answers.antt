-- `recurrence::gathered` meets its contract. The spread of the word so far is u with its bits k back added.
use mathlib.Core.List.{[], ◌∷◌}
use Prim.Native.Nat.{◌^◌, ◌<◌}
use native.Mathlib.Omega.{arith}
use Rattle.octets.proofs.Sums.{doubled, coded-lt}
use Rattle.recurrence.proofs.Block.{begun, gathering, done}
use Rattle.recurrence.proofs.gathered.Goals as goal

pub overflow_add-two : goal.overflow_add-two
overflow_add-two c = omega arith

pub overflow_cast-line : goal.overflow_cast-line
overflow_cast-line c = omega arith

pub overflow_shl-line : goal.overflow_shl-line
overflow_shl-line c = omega arith

pub overflow_add-k : goal.overflow_add-k
overflow_add-k c = omega arith

pub loop-k-init : goal.loop-k-init
loop-k-init c =
    let a = c.args in
    let o = c.spread-once in
    let h : o.result < 2 ^ 64 = omega arith in
    (omega arith, coded-lt 64 (doubled (a.tap ∷ 23 ∷ [])) o.result h, begun a.tap a.u (omega arith) o.result o.ensures h)

pub overflow_cast-line-in-loop-k : goal.overflow_cast-line-in-loop-k
overflow_cast-line-in-loop-k c = omega arith

pub overflow_shl-line-in-loop-k : goal.overflow_shl-line-in-loop-k
overflow_shl-line-in-loop-k c = omega arith

pub overflow_add-k-in-loop-k : goal.overflow_add-k-in-loop-k
overflow_add-k-in-loop-k c = omega arith

pub loop-k-smaller : goal.loop-k-smaller
loop-k-smaller c = omega arith

pub loop-k-preserved : goal.loop-k-preserved
loop-k-preserved c =
    let a = c.args in
    let l = c.loop-k in
    (omega arith, coded-lt 64 (l.k ∷ []) l.line l.invariant.1, gathering a.tap a.u (omega arith) l.line l.k l.invariant.1 l.invariant.2)

pub returns : goal.returns
returns c =
    let a = c.args in
    let l = c.loop-k in
    done a.tap a.u (omega arith) l.line l.k (omega arith) l.invariant.2
