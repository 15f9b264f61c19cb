-- `cardline::put_text` meets its contract.
use mathlib.Core.Path.{sym}
use native.Mathlib.Omega.{arith}
use lib.Seq.{length-take-le}
use Rattle.ascii.proofs.Plainly.{text-within}
use Rattle.ascii.proofs.Room.{puts_as}
use Rattle.cardline.proofs.Lines.{text-none, text-is}
use Rattle.cardline.proofs.put_text.Goals as goal

pub returns-then-n-eq0 : goal.returns-then-n-eq0
returns-then-n-eq0 c =
    puts_as c.word.ensures (text-none c.args.vendor.now _ c.text_length-n.ensures c.if-n-eq0.true)

pub slice_bounds-word-end-else-n-eq0 : goal.slice_bounds-word-end-else-n-eq0
slice_bounds-word-end-else-n-eq0 c =
    let v = c.args.vendor.now in
    sym (length-take-le c.text_length-n.result v (omega (arith, c.text_length-n.ensures, text-within v)))

pub returns-else-n-eq0 : goal.returns-else-n-eq0
returns-else-n-eq0 c =
    puts_as c.word-else-n-eq0.ensures (text-is c.args.vendor.now _ c.text_length-n.ensures c.if-n-eq0.false)
