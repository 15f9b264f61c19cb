-- `eocunits::some_wide` meets its contract.
use mathlib.Core.Path.{sym, ap, ◌∙◌, subst}
use mathlib.Core.Bool.{Bool, ◌||◌}
use Prim.Native.Nat.{ℕ, ◌≤◌, ◌<◌}
use native.Mathlib.Omega.{arith}
use lib.ListN.{length, length-append}
use borrow.Author.Tests.{le-leb, lt-leb}
use Rattle.std.specs.Slice.Iter.{chunks_exact_rest}
use Rattle.eocunits.specs.Units.{records_in, some_wide}
use Rattle.eocunits.proofs.Laws.{wide-cons, none-wide}
use Rattle.eocunits.proofs.some_wide.Goals as goal

pub returns-then-from-ge-ADDRESSES : goal.returns-then-from-ge-ADDRESSES
returns-then-from-ge-ADDRESSES c =
    let i = c.loop-unit.invariant in
    let rest = chunks_exact_rest c.next.new.self in
    let t = c.in-Some.ensures.steps.1 in
    sym (sym i.2 ∙ wide-cons _ c.in-Some.unit.now rest t.0 (t.1 ∙ i.0)
    ∙ ap (λ (b : Bool). b || some_wide (records_in rest)) (le-leb _ _ (subst (λ (n : ℕ). 16 ≤ n) c.from.ensures c.if-from-ge-ADDRESSES.true)))

pub loop-unit-preserved : goal.loop-unit-preserved
loop-unit-preserved c =
    let i = c.loop-unit.invariant in
    let rest = chunks_exact_rest c.next.new.self in
    let s = c.in-Some.ensures.steps in
    let t = s.1 in (
      s.0 ∙ i.0,
      omega (arith, i.1, ap length t.0, length-append c.in-Some.unit.now rest, t.1, i.0),
      sym (ap (λ (b : Bool). b || some_wide (records_in rest)) (lt-leb _ _ (subst (λ (n : ℕ). n < 16) c.from.ensures c.if-from-ge-ADDRESSES.false)))
          ∙ sym (wide-cons _ c.in-Some.unit.now rest t.0 (t.1 ∙ i.0)) ∙ i.2,
    )

pub returns : goal.returns
returns c =
    let i = c.loop-unit.invariant in
    let s = c.in-None.ensures.steps.1 in
    sym (sym i.2 ∙ none-wide (chunks_exact_rest c.loop-unit.unit-iterator) (omega (arith, s.0, i.0)))
