-- `datachecker::judge` meets its contract.
use mathlib.Core.Path.{ap}
use Rattle.std.proofs.lemmas.Result.{err_from_is_err_and}
use Rattle.answer.specs.Given.{number_of}
use Rattle.answer.proofs.Given.{refused-number}
use Rattle.datacrc.specs.declared.Sixes.{Sixes}
use Rattle.datachecker.proofs.Promise.{first-refused, then-refused, found-right}
use Rattle.datachecker.proofs.judge.Goals as goal

pub returns-in_err-room : goal.returns-in_err-room
returns-in_err-room c =
    let a = c.args in
    let e = c.in_err-room.field-0.0 in
    let p = err_from_is_err_and c.from_residual.result c.from_residual.ensures.1 in
    rw (p.1, p.2)
    (record { given = tt; checked = first-refused a.form a.size a.sync a.next a.frame.now (number_of e) c.in_err-room.ensures.answered (refused-number e) })

pub stuffing_of-requires : goal.stuffing_of-requires
stuffing_of-requires c = ap (λ (s : Sixes). s.due) c.sixes_in-six.ensures.given

pub returns-in_err-stuffing : goal.returns-in_err-stuffing
returns-in_err-stuffing c =
    let a = c.args in
    let p = err_from_is_err_and c.from_residual-in_err-stuffing.result c.from_residual-in_err-stuffing.ensures.1 in
    rw (p.1, p.2)
    (then-refused c.in_ok-room.room a.sync a.next a.form a.size a.frame c.in_err-stuffing.field-0.0 c.in_ok-room.ensures.given c.in_err-stuffing.ensures)

pub returns : goal.returns
returns c =
    let a = c.args in
    found-right c.in_ok-room.room a.sync a.next a.form a.size a.frame c.in_ok-stuffing.stuffing c.sixes_in-six.result.carried c.in_ok-room.ensures.given
    c.in_ok-stuffing.ensures (ap (λ (s : Sixes). s.carried) c.sixes_in-six.ensures.given)
