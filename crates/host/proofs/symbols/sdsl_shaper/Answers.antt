-- `host::symbols::sdsl_shaper` meets its contract: a refused call gives +0, which is exactly 0. Assumes nothing.
use mathlib.Core.Path.{◌≡◌, sym, subst, ◌∙◌}
use native.Mathlib.Omega.{arith}
use lib.IntN.{ℤ, pos}
use lib.Ieee.{of_bits, binary32}
use mir.Facts.{to_z-of_z}
use Rattle.answer.specs.Answer.{held}
use Rattle.answer.proofs.Given.{refused-number}
use Rattle.answer.proofs.Laws.{kept}
use Rattle.samples.specs.Shaper.{Exactly}
use Rattle.samples.proofs.Exact.{exact-zero}
use Rattle.host.proofs.symbols.sdsl_shaper.Goals as goal

pub returns-in-Err : goal.returns-in-Err
returns-in-Err c =
    let some = refused-number c.in-Err.outside in
    let said = rw (to_z-of_z c.ranges.y) at c.in-Err.ensures in
    let left : held c.number.result (pos 0) c.args.y ≡ pos 0 = kept c.number.result (pos 0) c.args.y (λ z. omega (arith, c.number.ensures)) in
    record { answered = c.number.ensures ∙ said.answered; value = subst (λ (z : ℤ). Exactly (of_bits binary32 0) z) (sym left) exact-zero }
