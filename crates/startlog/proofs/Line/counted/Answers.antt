-- `Line::counted` meets its contract. After k turns the first k digits are read.
use mathlib.Core.Logic.{inl, inr}
use native.Mathlib.Omega.{arith}
use Rattle.std.proofs.Common.{◌≡◌, rules, true, false}
use lib.ListN.{get_or}
use Rattle.startlog.specs.Lines.{is_digit}
use Rattle.startlog.proofs.Laws.{read_none, read_more, not-counted, none-counted, some-counted}
use Rattle.startlog.proofs.Line.counted.Goals as goal
use Rattle.startlog.proofs.Line.counted.Goals.{then-ticks-eq0-via-then-ticks-eq0, then-ticks-eq0-via-else-ticks-eq0+then-from-ticks}

pub loop-digit-init : goal.loop-digit-init
loop-digit-init c = read_none c.args.digits.now

pub returns-then-not-contains : goal.returns-then-not-contains
returns-then-not-contains c =
    let d : is_digit (get_or c.args.digits.now c.loop-digit.digit-index 0) ≡ false = search rules in
    not-counted c.args.digits.now c.loop-digit.digit-index c.loop-digit-test.true d

pub loop-digit-preserved : goal.loop-digit-preserved
loop-digit-preserved c =
    let i = c.loop-digit in
    let d : is_digit (get_or c.args.digits.now i.digit-index 0) ≡ true = search rules in
    read_more c.args.digits.now i.ticks i.digit-index c.more-ticks.result i.invariant c.loop-digit-test.true d c.more-ticks.ensures

pub returns-then-ticks-eq0 : goal.returns-then-ticks-eq0
returns-then-ticks-eq0 c =
    let i = c.loop-digit in
    none-counted c.args.digits.now i.ticks i.digit-index i.invariant c.loop-digit-test.false
    (elim c.then-ticks-eq0.branch [
      | then-ticks-eq0-via-then-ticks-eq0 w ↦ inl w.if-ticks-eq0.true
      | then-ticks-eq0-via-else-ticks-eq0+then-from-ticks w ↦ inr (omega arith)
    ])

pub returns : goal.returns
returns c =
    let i = c.loop-digit in
    some-counted c.args.digits.now i.ticks i.digit-index i.invariant c.loop-digit-test.false c.if-ticks-eq0.false (omega arith)
