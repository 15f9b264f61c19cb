-- `eoclisting::put_string` meets its contract.
use mathlib.Core.Path.{sym, ◌∙◌}
use native.Mathlib.Omega.{arith}
use lib.Seq.{length-take-le}
use Rattle.ascii.proofs.Room.{puts-more, puts_as}
use Rattle.eoclisting.proofs.Laws.{string-within, string-hex, string-quoted}
use Rattle.eoclisting.proofs.put_string.Goals as goal

pub slice_bounds-string-end : goal.slice_bounds-string-end
slice_bounds-string-end c =
    let f = c.args.field.now in
    let n = c.string_length in
    sym (length-take-le n.result f (omega (arith, n.ensures, string-within f)))

pub returns-then-text_length-string : goal.returns-then-text_length-string
returns-then-text_length-string c =
    let f = c.args.field.now in
    let n = c.string_length in
    let l = length-take-le n.result f (omega (arith, n.ensures, string-within f)) in
    puts_as (puts-more (puts-more c.put.ensures c.word.ensures) c.put-then-text_length-string.ensures)
    (string-quoted f n.result n.ensures (sym c.text_length.ensures ∙ c.if-text_length-string.true ∙ l))

pub returns-else-text_length-string : goal.returns-else-text_length-string
returns-else-text_length-string c =
    let f = c.args.field.now in
    let n = c.string_length in
    let l = length-take-le n.result f (omega (arith, n.ensures, string-within f)) in
    puts_as c.hexes.ensures (string-hex f n.result n.ensures (λ z. c.if-text_length-string.false (c.text_length.ensures ∙ z ∙ sym l)))
