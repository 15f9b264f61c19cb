-- `listing::put_vendor` meets its contract.
use mathlib.Core.Path.{sym, ◌∙◌}
use native.Mathlib.Omega.{arith}
use borrow.Author.Tests.{eq-eqb}
use Rattle.ascii.specs.Plain.{text_length}
use lib.Seq.{length-take-le}
use Rattle.ascii.proofs.Plainly.{text-within}
use Rattle.ascii.proofs.Room.{puts-none, puts-more, puts_as}
use Rattle.listing.specs.Words.{vendor_words}
use Rattle.listing.proofs.Wording.{vendor-some}
use Rattle.listing.proofs.put_vendor.Goals as goal

pub returns-then-n-eq0 : goal.returns-then-n-eq0
unfolding vendor_words
returns-then-n-eq0 c =
    let a = c.args in
    let n = c.text_length-n in
    simp (eq-eqb (text_length a.vendor.now) 0 (sym n.ensures ∙ c.if-n-eq0.true)) (puts-none a.text.now)

pub slice_bounds-word-end-2 : goal.slice_bounds-word-end-2
slice_bounds-word-end-2 c =
    let v = c.args.vendor.now in
    let n = c.text_length-n in
    sym (length-take-le n.result v (omega (arith, n.ensures, text-within v)))

pub returns : goal.returns
returns c =
    let n = c.text_length-n in
    puts_as (puts-more (puts-more c.word.ensures c.word-2.ensures) c.put.ensures) (vendor-some c.args.vendor.now n.result n.ensures c.if-n-eq0.false)
