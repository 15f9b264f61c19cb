-- `options::named` meets its contract.
use mathlib.Core.Path.{sym, ◌∙◌}
use lib.Pointwise.{bytes_decides}
use Rattle.options.proofs.Laws.{tested}
use Rattle.options.proofs.named.Goals as goal

pub returns-then-eq : goal.returns-then-eq
returns-then-eq g c =
    let d = bytes_decides c.args.word.now c.args.name.now in
    simp (sym (tested c.args.word.now c.args.name.now _ d.0 d.1) ∙ sym c.eq.ensures ∙ c.if-eq.true)

pub returns-else-eq : goal.returns-else-eq
returns-else-eq g c =
    let d = bytes_decides c.args.word.now c.args.name.now in
    simp (sym (tested c.args.word.now c.args.name.now _ d.0 d.1) ∙ sym c.eq.ensures ∙ c.if-eq.false)
