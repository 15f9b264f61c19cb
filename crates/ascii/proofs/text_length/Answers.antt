-- `ascii::text_length` meets its contract.
use mathlib.Core.Path.{sym, ap, ◌∙◌}
use mathlib.Core.Bool.{Bool, cond}
use native.Mathlib.Omega.{arith}
use Rattle.ascii.proofs.Plainly.{text_of, rest_of, prints-within}
use Rattle.ascii.proofs.text_length.Goals as goal

pub slice_bounds-is_zero-start : goal.slice_bounds-is_zero-start
slice_bounds-is_zero-start c = omega (arith, c.printables-n.ensures, prints-within c.args.octets.now)

pub slice_bounds-is_zero-count : goal.slice_bounds-is_zero-count
slice_bounds-is_zero-count c = omega (arith, c.printables-n.ensures, prints-within c.args.octets.now)

pub returns-then-is_zero : goal.returns-then-is_zero
returns-then-is_zero c =
    let n = c.printables-n in
    let z = c.is_zero in
    sym (ap (λ (b : Bool). cond b n.result 0) c.if-is_zero.true)
    ∙ text_of c.args.octets.now n.result z.result n.ensures (z.ensures ∙ rest_of c.args.octets.now n.result)

pub returns-else-is_zero : goal.returns-else-is_zero
returns-else-is_zero c =
    let n = c.printables-n in
    let z = c.is_zero in
    sym (ap (λ (b : Bool). cond b n.result 0) c.if-is_zero.false)
    ∙ text_of c.args.octets.now n.result z.result n.ensures (z.ensures ∙ rest_of c.args.octets.now n.result)
