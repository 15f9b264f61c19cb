-- `datareader::read` meets its contract.
use mathlib.Core.Path.{sym, ap, ◌∙◌}
use Rattle.std.proofs.lemmas.Result.{err_from_is_err_and, MatchResult-at_ok}
use Rattle.dataframe.specs.Table.{room_of}
use Rattle.datareader.proofs.Promise.{short, wrong, right, known, done}
use Rattle.datareader.proofs.read.Goals as goal

pub returns-then-payload-size : goal.returns-then-payload-size
returns-then-payload-size c =
    let a = c.args in
    short a.form a.size a.sync a.next a.frame.now a.payload.now c.if-payload-size.true

pub returns-in_err-found : goal.returns-in_err-found
returns-in_err-found c =
    let a = c.args in
    let p = err_from_is_err_and c.from_residual.result c.from_residual.ensures.1 in
    rw (p.1, p.2)
    (wrong a.form a.size a.sync a.next a.frame.now a.payload.now c.if-payload-size.false c.in_err-found.field-0.0 c.in_err-found.ensures.checked)

pub unwrap-requires : goal.unwrap-requires
unwrap-requires c =
    let a = c.args in
    known a.form a.size a.sync a.next a.frame.now a.payload.now c.try_from.result c.try_from.ensures c.in_ok-found.ensures.checked

pub invariant_of-room : goal.invariant_of-room
invariant_of-room c =
    let a = c.args in
    let f = right a.form a.size a.sync a.next a.frame.now a.payload.now c.in_ok-found.ensures.checked in
    record { least = f.least; most = f.most; whole = f.room ∙ ap room_of (sym (MatchResult-at_ok _ _ _ c.unwrap.ensures c.try_from.ensures)) }

pub returns : goal.returns
returns c =
    let a = c.args in
    let v = c.in_ok-found in
    done a.form a.size a.sync a.next a.frame.now a.payload.now c.if-payload-size.false v.found v.ensures.given.stuffing_is v.ensures.given.crc_is v.ensures.checked c.unwrap.result
    (MatchResult-at_ok _ _ _ c.unwrap.ensures c.try_from.ensures) c.indicators_in.result c.eoc_in.result c.spare_in.result c.take_payload.new.payload
    c.indicators_in.ensures c.eoc_in.ensures c.spare_in.ensures c.take_payload.ensures
