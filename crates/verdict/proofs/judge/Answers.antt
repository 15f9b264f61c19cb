-- `verdict::judge` meets its contract.
use mathlib.Core.Path.{refl, ap, ◌∙◌}
use native.Mathlib.Omega.{arith}
use Prim.Native.Nat.{ℕ}
use Rattle.highest.proofs.Laws.{highest-within}
use Rattle.verdict.specs.Verdict.{refused_verdict}
use Rattle.verdict.proofs.Laws.{refused-is, training-made, final-made}
use Rattle.verdict.proofs.judge.Goals as goal

pub overflow_cast-result : goal.overflow_cast-result
overflow_cast-result c =
    let r = c.read in omega (arith, c.highest.ensures, highest-within r.new.coefficients, r.auto.coefficients)

pub returns-in-Ok-Training : goal.returns-in-Ok-Training
returns-in-Ok-Training c =
    let a = c.args in
    let r = c.read in
    let g = c.in-Ok-Training in
    training-made a.frame.now _ _ _ (record { coefficients = refl; vendor = refl; reserved = refl }) r.new.coefficients r.new.vendor r.new.reserved a.customer
    g.field-0 g.ensures g.a g.b g.field-0-is _ c.counted-octets.ensures _ _ _ _ c.highest.ensures
    c.like-alike.ensures c.like-blike.ensures c.training_rank.ensures

pub returns-in-Ok-Final : goal.returns-in-Ok-Final
returns-in-Ok-Final c =
    let a = c.args in
    let r = c.read in
    final-made a.frame.now _ _ _ (record { coefficients = refl; vendor = refl; reserved = refl }) r.new.coefficients r.new.vendor r.new.reserved a.customer
    c.in-Ok-Final.field-0 c.in-Ok-Final.ensures c.in-Ok-Final.field-0-is _ c.counted-octets.ensures _ _ _ c.final_rank.ensures
    c.no_word.ensures c.no_word-in-Ok-Final.ensures

pub returns-in-Err : goal.returns-in-Err
returns-in-Err c =
    let a = c.args in
    let r = c.read in
    c.refused.ensures
    ∙ ap (λ (n : ℕ). refused_verdict n c.counted-octets.result a.customer) c.number.ensures
    ∙ refused-is a.frame.now _ _ _ (record { coefficients = refl; vendor = refl; reserved = refl }) r.new.coefficients r.new.vendor r.new.reserved a.customer
    c.in-Err.no c.in-Err.ensures _ c.counted-octets.ensures
