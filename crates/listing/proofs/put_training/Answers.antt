-- `listing::put_training` meets its contract.
use mathlib.Core.Path.{sym, ap, ◌∙◌}
use mathlib.Core.List.{◌++◌, append_assoc}
use Prim.Native.Nat.{ℕ}
use native.Mathlib.Omega.{arith}
use lib.ListN.{take}
use lib.Seq.{length-take-le}
use Rattle.ascii.specs.Text.{text}
use Rattle.ascii.proofs.Room.{puts-more, puts_as}
use Rattle.listing.specs.Listing.{number_line, coefficient_lines, training_lines}
use Rattle.highest.proofs.Laws.{highest-within}
use Rattle.listing.proofs.Laws.{kind-form, words-form}
use Rattle.listing.proofs.put_training.Goals as goal

pub overflow_cast-n : goal.overflow_cast-n
overflow_cast-n c = omega (arith, c.highest-n.ensures, highest-within c.args.cs.now, c.requires)

pub slice_bounds-put_coefficient_lines-end : goal.slice_bounds-put_coefficient_lines-end
slice_bounds-put_coefficient_lines-end c =
    sym (length-take-le c.highest-n.result c.args.cs.now (omega (arith, c.highest-n.ensures, highest-within c.args.cs.now)))

pub returns : goal.returns
unfolding training_lines
returns c =
    let a = c.args in
    let n = c.highest-n in
    let wa = number_line "A " a.a in
    let wb = number_line "B " a.b in
    puts_as
    (puts-more (puts-more (puts_as c.form.ensures (kind-form n.result)) c.put_coefficient_lines.ensures) (puts_as c.form-2.ensures (words-form a.a a.b)))
    (sym (append_assoc (text "kind training\n" ++ number_line "coefficients " n.result ++ coefficient_lines 1 (take n.result a.cs.now)) wa wb)
    ∙ ap (λ (m : ℕ). text "kind training\n" ++ number_line "coefficients " m ++ coefficient_lines 1 (take m a.cs.now) ++ wa ++ wb) n.ensures)
