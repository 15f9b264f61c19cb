-- `receiver::first_in` meets its contract: no sync word begins at a digit before j.
use mathlib.Core.Path.{◌≡◌, sym, ap, ◌∙◌}
use native.Mathlib.Omega.{arith}
use Rattle.octets.proofs.Digits.{rest-next}
use Rattle.receiver.specs.Search.{sync_in, sync_from}
use Rattle.receiver.proofs.Earliest.{none_more, found_at, found_none}
use Rattle.receiver.proofs.Laws.{none-begins}
use Rattle.receiver.proofs.first_in.Goals as goal

pub returns-then-may_begin-eq0 : goal.returns-then-may_begin-eq0
returns-then-may_begin-eq0 c =
    let a = c.args in
    found_none (sync_from a.x) 0 a.n a.n (omega arith) (λ q h l. none-begins a.x c.may_begin.result c.may_begin.ensures c.if-may_begin-eq0.true q)

pub loop-j-init : goal.loop-j-init
loop-j-init c = (omega arith, λ q h l. absurd (omega arith))

pub returns-then-is_sync : goal.returns-then-is_sync
returns-then-is_sync c =
    let l = c.loop-j in
    let a = c.args in
    found_at (sync_from a.x) 0 a.n l.j (omega arith) (omega arith) l.invariant.1
    (ap sync_in (sym l.invariant.0) ∙ sym c.is_sync.ensures ∙ c.if-is_sync.true)

pub loop-j-preserved : goal.loop-j-preserved
loop-j-preserved c =
    let l = c.loop-j in
    let a = c.args in (
      rest-next a.x l.j l.invariant.0,
      none_more (sync_from a.x) 0 l.j l.invariant.1 (ap sync_in (sym l.invariant.0) ∙ sym c.is_sync.ensures ∙ c.if-is_sync.false),
    )

pub returns : goal.returns
returns c =
    let l = c.loop-j in
    let a = c.args in
    let e : l.j ≡ a.n = omega arith in
    sym e ∙ found_none (sync_from a.x) 0 a.n l.j (omega (arith, e)) l.invariant.1
