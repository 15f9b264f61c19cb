-- `receiver::next_sync` meets its contract: no sync word stands at a place before `at`.
use mathlib.Core.Path.{◌≡◌, sym, ◌∙◌}
use Prim.Native.Nat.{◌-◌}
use native.Mathlib.Omega.{arith}
use Rattle.octets.specs.Bits.{bits_of}
use Rattle.receiver.specs.Stream.{synced}
use Rattle.receiver.proofs.Earliest.{found_none}
use Rattle.receiver.proofs.Laws.{sync-found, sync-none}
use Rattle.receiver.proofs.next_sync.Goals as goal

pub loop-at-init : goal.loop-at-init
loop-at-init c = (omega arith, c.requires.0, λ q h l. absurd (omega arith))

pub overflow_sub-stop : goal.overflow_sub-stop
overflow_sub-stop c = omega arith

pub overflow_add-result : goal.overflow_add-result
overflow_add-result c = omega (arith, c.min-n.ensures)

pub returns-then-j-n : goal.returns-then-j-n
returns-then-j-n c =
    let l = c.loop-at in
    let a = c.args in
    sync-found a.s.now a.p a.stop l.at c.min-n.result c.bits.result c.first_in-j.result c.requires.1 l.invariant.0
    c.loop-at-test.true c.min-n.ensures c.bits.ensures c.first_in-j.ensures l.invariant.2 c.if-j-n.true

pub overflow_add-at : goal.overflow_add-at
overflow_add-at c = omega (arith, c.min-n.ensures)

pub loop-at-smaller : goal.loop-at-smaller
loop-at-smaller c = omega (arith, c.min-n.ensures)

pub loop-at-preserved : goal.loop-at-preserved
loop-at-preserved c =
    let l = c.loop-at in
    let a = c.args in (
      omega (arith, l.invariant.0),
      omega (arith, c.min-n.ensures, c.loop-at-test.true),
      sync-none a.s.now a.p a.stop l.at c.min-n.result c.bits.result c.first_in-j.result c.requires.1 l.invariant.0
          c.loop-at-test.true c.min-n.ensures c.bits.ensures c.first_in-j.ensures l.invariant.2 c.if-j-n.false,
    )

pub returns : goal.returns
returns c =
    let l = c.loop-at in
    let a = c.args in
    let e : l.at ≡ a.stop = omega (arith, c.loop-at-test.false, l.invariant.1) in
    sym e ∙ found_none (synced (bits_of a.s.now)) a.p (a.stop - a.p) l.at (omega (arith, e, c.requires.0)) l.invariant.2
