-- `receiver::Heard::first` meets its contract: no frame lies at a place before `at`, and a sync word stands there.
use borrow.Author.Tests.{lt-ltb, le-ltb}
use mathlib.Core.Path.{◌≡◌, refl, sym, ap, ◌∙◌}
use Prim.Native.Nat.{◌+◌, ◌-◌}
use native.Mathlib.Omega.{arith}
use lib.Dec.{ltb}
use lib.ListN.{length}
use Rattle.octets.specs.Bits.{bits_of}
use Rattle.octets.proofs.Laws.{bits-length}
use Rattle.receiver.specs.Stream.{lies_at}
use Rattle.receiver.proofs.Earliest.{none_more, none-further, found_at, found_none}
use Rattle.receiver.proofs.Laws.{by-true, by-false, none-synced, lies-by, next-at}
use Rattle.receiver.proofs.Heard.first.Goals as goal

pub next_sync-at-requires : goal.next_sync-at-requires
next_sync-at-requires c = let p = c.requires in (p.1, omega (arith, p.2))

pub loop-at-init : goal.loop-at-init
loop-at-init c =
    let a = c.args in
    let n = next-at (bits_of a.self.octets.now) a.start a.stop c.next_sync-at.result c.requires.1 c.next_sync-at.ensures in
    (n.0, n.1, n.2, none-synced a.self.end (bits_of a.self.octets.now) a.start c.next_sync-at.result n.3, refl)

pub taken-requires : goal.taken-requires
taken-requires c =
    let l = c.loop-at in
    let p = c.requires in
    (omega (arith, l.invariant.0, p.0), omega (arith, p.2, c.loop-at-test.true), ap length l.invariant.4 ∙ p.3)

pub returns-then-taken : goal.returns-then-taken
returns-then-taken c =
    let l = c.loop-at in
    let a = c.args in
    let B = bits_of a.self.octets.now in
    let h = c.loop-at-test.true in
    let e = lies-by a.self.end B l.at c.taken.result (omega (arith, l.invariant.0, c.requires.0)) (omega (arith, c.requires.2, bits-length a.self.octets.now, h))
    (l.invariant.2 h) c.taken.ensures.0 in (
      found_at (lies_at a.self.end B) a.start (a.stop - a.start) l.at l.invariant.0 (omega (arith, h)) l.invariant.3 (e ∙ c.if-taken.true),
      c.taken.ensures.1 ∙ by-true c.taken.result _ _ c.if-taken.true ∙ sym (by-true (ltb l.at a.stop) _ _ (lt-ltb _ _ h)),
    )

pub overflow_add-at : goal.overflow_add-at
overflow_add-at c = omega (arith, c.loop-at-test.true)

pub next_sync-at-requires-in-loop-at : goal.next_sync-at-requires-in-loop-at
next_sync-at-requires-in-loop-at c =
    (omega (arith, c.loop-at-test.true), omega (arith, c.requires.2))

pub loop-at-smaller : goal.loop-at-smaller
loop-at-smaller c =
    let a = c.args in
    let l = c.loop-at in
    let h = c.loop-at-test.true in
    omega (arith, h, (next-at (bits_of a.self.octets.now) (l.at + 1) a.stop c.next_sync-at-in-loop-at.result (omega arith) c.next_sync-at-in-loop-at.ensures).0)

pub loop-at-preserved : goal.loop-at-preserved
loop-at-preserved c =
    let l = c.loop-at in
    let a = c.args in
    let B = bits_of a.self.octets.now in
    let h = c.loop-at-test.true in
    let n = next-at B (l.at + 1) a.stop c.next_sync-at-in-loop-at.result (omega (arith, h)) c.next_sync-at-in-loop-at.ensures in
    let e = lies-by a.self.end B l.at c.taken.result (omega (arith, l.invariant.0, c.requires.0)) (omega (arith, c.requires.2, bits-length a.self.octets.now, h))
    (l.invariant.2 h) c.taken.ensures.0 in (
      omega (arith, l.invariant.0, n.0),
      n.1,
      n.2,
      none-further (lies_at a.self.end B) a.start (l.at + 1) c.next_sync-at-in-loop-at.result
          (none_more (lies_at a.self.end B) a.start l.at l.invariant.3 (e ∙ c.if-taken.false))
          (none-synced a.self.end B (l.at + 1) c.next_sync-at-in-loop-at.result n.3),
      c.taken.ensures.1 ∙ by-false c.taken.result _ _ c.if-taken.false ∙ l.invariant.4,
    )

pub returns : goal.returns
returns c =
    let l = c.loop-at in
    let a = c.args in
    let e : l.at ≡ a.stop = omega (arith, c.loop-at-test.false, l.invariant.1) in (
      sym e ∙ found_none (lies_at a.self.end (bits_of a.self.octets.now)) a.start (a.stop - a.start) l.at (omega (arith, e, c.requires.1)) l.invariant.3,
      l.invariant.4 ∙ sym (by-false (ltb a.stop a.stop) _ _ (le-ltb a.stop a.stop (omega arith))),
    )
