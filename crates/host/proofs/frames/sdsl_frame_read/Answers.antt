-- `host::frames::sdsl_frame_read` meets its contract.
use borrow.Author.Tests.{ne_eqb}
use mathlib.Core.Path.{refl, sym, subst, ◌∙◌}
use Rattle.host.specs.declared.frames.FrameFields.{FrameFields}
use Rattle.host.specs.Frames.{FrameRead}
use Rattle.host.proofs.FrameLaws.{refused-out, training-out, final-out}
use Rattle.host.proofs.frames.sdsl_frame_read.Goals as goal

pub returns-then-coefficients-ne-COEFFICIENT_OCTETS : goal.returns-then-coefficients-ne-COEFFICIENT_OCTETS
returns-then-coefficients-ne-COEFFICIENT_OCTETS c =
    let wrong = ne_eqb _ _ c.if-coefficients-ne-COEFFICIENT_OCTETS.true in
    record { found = c.refused.ensures ∙ simp wrong; coefficients_held = simp wrong; vendor_held = simp wrong; reserved_held = simp wrong }

pub returns-in-Ok-Training : goal.returns-in-Ok-Training
returns-in-Ok-Training c =
    let a = c.args in
    let r = c.read in
    let put = c.put_numbers in
    let g = c.in-Ok-Training in
    training-out a.frame.now a.coefficients.now a.vendor.now a.reserved.now _ r.new.coefficients r.new.vendor r.new.reserved
    c.if-coefficients-ne-COEFFICIENT_OCTETS.false refl g.field-0 g.ensures g.a g.b g.field-0-is put.new.octets put.ensures

pub returns-in-Ok-Final : goal.returns-in-Ok-Final
returns-in-Ok-Final c =
    let a = c.args in
    let r = c.read in
    let g = c.in-Ok-Final in
    final-out a.frame.now a.coefficients.now a.vendor.now a.reserved.now _ r.new.coefficients r.new.vendor r.new.reserved
    c.if-coefficients-ne-COEFFICIENT_OCTETS.false refl g.field-0 g.ensures g.field-0-is

pub returns-in-Err : goal.returns-in-Err
returns-in-Err c =
    let a = c.args in
    let r = c.read in
    subst (λ (x : FrameFields). FrameRead a.frame.now a.coefficients.now a.vendor.now a.reserved.now x a.coefficients.now r.new.vendor r.new.reserved)
    (sym c.refused-in-Err.ensures)
    (refused-out a.frame.now a.coefficients.now a.vendor.now a.reserved.now _ r.new.coefficients r.new.vendor r.new.reserved
    c.if-coefficients-ne-COEFFICIENT_OCTETS.false refl c.in-Err.no c.in-Err.ensures)
