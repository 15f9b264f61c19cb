-- `datachecker::right` meets its contract.
use mathlib.Core.Path.{◌∙◌}
use borrow.Author.Tests.{eq-eqb, ne_eqb}
use native.Mathlib.Omega.{arith}
use Rattle.datachecker.proofs.Laws.{right-synchronous, differ-in, none-in, ones-in}
use Rattle.datachecker.proofs.right.Goals as goal

pub returns-in-Synchronous : goal.returns-in-Synchronous
returns-in-Synchronous c = right-synchronous c.args.room c.in-Synchronous.is

pub returns-then-stuffing-eq0 : goal.returns-then-stuffing-eq0
returns-then-stuffing-eq0 c =
    eq-eqb _ _ c.if-stuffing-eq0.true
    ∙ none-in c.args.room c.in-Plesiochronous.is c.block-m.result c.args.stuffing c.piece.result c.block-m.ensures c.requires c.piece.ensures.0
    c.if-piece-stuffing.true c.if-stuffing-eq0.true

pub returns-else-stuffing-eq0 : goal.returns-else-stuffing-eq0
returns-else-stuffing-eq0 c =
    let h = c.piece.ensures.1 in
    ones-in c.args.room c.in-Plesiochronous.is c.block-m.result c.args.stuffing c.piece.result c.block-m.ensures c.requires c.piece.ensures.0
    c.piece-else-stuffing-eq0.result c.if-piece-stuffing.true c.if-stuffing-eq0.false (omega (arith, h)) c.piece-else-stuffing-eq0.ensures.0

pub returns-else-piece-stuffing : goal.returns-else-piece-stuffing
returns-else-piece-stuffing c =
    ne_eqb _ _ c.if-piece-stuffing.false
    ∙ differ-in c.args.room c.in-Plesiochronous.is c.block-m.result c.args.stuffing c.piece.result c.block-m.ensures c.requires c.piece.ensures.0
    c.if-piece-stuffing.false
