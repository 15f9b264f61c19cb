-- `datawriter::write` meets its contract.
use mathlib.Core.Path.{◌≡◌, sym, ap, subst, ◌∙◌}
use Prim.Native.Nat.{ℕ}
use Rattle.std.proofs.lemmas.Result.{err_from_is_err_and}
use Rattle.answer.specs.Given.{number_of}
use Rattle.answer.specs.Answer.{answer}
use Rattle.dataframe.specs.Forms.{form_number}
use Rattle.dataframe.specs.Table.{room_of}
use Rattle.dataframe.specs.Refusals.{value_refusals}
use Rattle.dataframe.proofs.Refused.{fit}
use Rattle.datacrc.specs.declared.Sixes.{Sixes}
use Rattle.datawriter.proofs.Promise.{stuffing-right, short, room-wrong, value-wrong, written-by}
use Rattle.datawriter.proofs.write.Goals as goal

pub returns-then-payload-size : goal.returns-then-payload-size
returns-then-payload-size c =
    let a = c.args in
    short a.form a.size a.sync a.overhead a.payload.now a.frame.now c.if-payload-size.true

pub returns-in_err-form : goal.returns-in_err-form
returns-in_err-form c =
    let a = c.args in
    let p = err_from_is_err_and c.from_residual.result c.from_residual.ensures.1 in
    rw (p.1, p.2)
    (room-wrong a.form a.size a.sync a.overhead a.payload.now a.frame.now c.in_err-form.field-0.0 c.if-payload-size.false c.in_err-form.ensures.answered)

pub returns-in_err-allowed : goal.returns-in_err-allowed
returns-in_err-allowed c =
    let a = c.args in
    let e = c.in_err-allowed.field-0.0 in
    let p = err_from_is_err_and c.from_residual-in_err-allowed.result c.from_residual-in_err-allowed.ensures.1 in
    rw (p.1, p.2)
    (value-wrong a.form a.size a.sync a.overhead a.payload.now a.frame.now e c.if-payload-size.false (sym c.in_ok-form.ensures.answered)
    (subst (λ (n : ℕ). number_of e ≡ answer (value_refusals n a.sync a.overhead)) c.in_ok-form.ensures.given.form_is c.in_err-allowed.ensures))

pub put_frame-requires : goal.put_frame-requires
put_frame-requires c =
    let a = c.args in
    let f = fit a.form a.size a.frame.now (sym c.in_ok-form.ensures.answered) in (
      f.most,
      stuffing-right (form_number c.in_ok-form.field-0.form) a.sync a.overhead (sym c.in_ok-allowed.ensures),
      c.if-payload-size.false,
      f.room ∙ ap room_of (sym c.in_ok-form.ensures.given.form_is),
    )

pub returns : goal.returns
returns c =
    let a = c.args in
    written-by (form_number c.in_ok-form.field-0.form) a.form a.size a.sync a.overhead a.payload.now a.frame.now c.put_frame.new.frame c.sixes_in-six.result.due
    c.in_ok-form.ensures.given.form_is c.if-payload-size.false c.in_ok-form.ensures.answered c.in_ok-allowed.ensures c.put_frame.ensures
    (ap (λ (s : Sixes). s.due) c.sixes_in-six.ensures.given) c.sixes_in-six.ensures.due_right
