-- `reader::read` meets its contract.
use mathlib.Core.Path.{refl, sym, ap, subst, ◌∙◌}
use Rattle.std.specs.Prelude.{Result, Ok}
use Rattle.answer.specs.declared.Refused.{Refused}
use Rattle.answer.specs.Given.{answer_of}
use Rattle.checker.specs.Promises.{KindChecked}
use Rattle.checker.proofs.Laws.{handed-on, right-length, kind-training, kind-final}
use Rattle.reader.specs.declared.Found.{Found}
use Rattle.reader.specs.Promises.{Read}
use Rattle.reader.proofs.Laws.{refusing, rooms-are, as-checked, training-read, final-read}
use Rattle.reader.proofs.Laws.{coefficients-read, words-at, vendor-read}
use Rattle.reader.proofs.read.Goals as goal

pub returns-in_err-kind_of : goal.returns-in_err-kind_of
returns-in_err-kind_of c =
    let a = c.args in
    let r = c.from_residual in
    let m = rooms-are a.coefficients.now a.vendor.now a.reserved.now c.rooms_right.ensures c.if-not-rooms_right.false-raw in
    let e = c.in_err-kind_of.field-0.0 in
    subst (λ (x : Result Found Refused). Read a.frame.now a.coefficients.now a.vendor.now a.reserved.now x a.coefficients.now a.vendor.now a.reserved.now)
    (sym (handed-on r.result e r.ensures))
    (refusing a.frame.now a.coefficients.now a.vendor.now a.reserved.now e
    (sym (ap answer_of c.in_err-kind_of.was) ∙ c.kind_of.ensures.checked.answered ∙ as-checked a.frame.now a.coefficients.now a.vendor.now a.reserved.now m))

pub words-requires : goal.words-requires
words-requires c =
    let a = c.args in
    let z = sym c.kind_of.ensures.checked.answered ∙ ap answer_of c.in_ok-kind_of.was in
    let m = rooms-are a.coefficients.now a.vendor.now a.reserved.now c.rooms_right.ensures c.if-not-rooms_right.false-raw in (
      right-length a.frame.now z,
      words-at a.frame.now a.coefficients.now c.fill_signed-at.new.into c.fill_signed-at.result m.coefficients c.fill_signed-at.ensures,
      m.vendor,
    )

pub returns-in-Training : goal.returns-in-Training
returns-in-Training c =
    let w = c.words in
    let a = c.args in
    let k = c.kind_of.ensures in
    let z = sym k.checked.answered ∙ ap answer_of c.in_ok-kind_of.was in
    let m = rooms-are a.coefficients.now a.vendor.now a.reserved.now c.rooms_right.ensures c.if-not-rooms_right.false-raw in
    let t = kind-training a.frame.now (subst (KindChecked a.frame.now) (c.in_ok-kind_of.was ∙ ap Ok c.in-Training.is) k) in
    training-read a.frame.now a.coefficients.now a.vendor.now a.reserved.now
    (sym (as-checked a.frame.now a.coefficients.now a.vendor.now a.reserved.now m) ∙ z) w.result c.fill_signed-at.new.into
    w.new.vendor c.put_reserved.new.reserved t w.ensures.1
    (coefficients-read a.frame.now a.coefficients.now c.fill_signed-at.new.into c.fill_signed-at.result m.coefficients
    c.fill_signed-at.ensures) w.ensures.0 c.put_reserved.ensures

pub returns-in-Final : goal.returns-in-Final
returns-in-Final c =
    let y = c.copy in
    let a = c.args in
    let k = c.kind_of.ensures in
    let z = sym k.checked.answered ∙ ap answer_of c.in_ok-kind_of.was in
    let m = rooms-are a.coefficients.now a.vendor.now a.reserved.now c.rooms_right.ensures c.if-not-rooms_right.false-raw in
    final-read a.frame.now a.coefficients.now a.vendor.now a.reserved.now
    (sym (as-checked a.frame.now a.coefficients.now a.vendor.now a.reserved.now m) ∙ z) y.new.s
    (kind-final a.frame.now (subst (KindChecked a.frame.now) (c.in_ok-kind_of.was ∙ ap Ok c.in-Final.is) k))
    (vendor-read a.frame.now a.vendor.now y.new.s (right-length a.frame.now z) m.vendor y.ensures refl refl)
