-- `forms::form` meets its contract: what stands in the room after k octets, with the rest, is the whole.
use Rattle.forms.proofs.Laws.{through-more, through-same, through-all, form-octet, form-next, form-over, form-end}
use Rattle.forms.proofs.form.Goals as goal
use Rattle.forms.proofs.form.Goals.{then-octet-ne35, else-octet-ne35+in-Some, else-octet-ne35+in_default}

pub loop-octet-preserved : goal.loop-octet-preserved
loop-octet-preserved c =
    let l = c.loop-octet in
    let form = c.args.form.now in
    let i = c.loop-octet-test.true in
    elim c.if-octet-ne35.branch [
      | then-octet-ne35 w ↦ rw (w.text-is, w.left-is) (through-more l.invariant w.put.ensures (form-octet form l.left.now l.octet-index i w.if-octet-ne35.true))
      | else-octet-ne35+in-Some w ↦ rw (w.text-is, w.left-is) (through-more l.invariant w.decimal.ensures
          (form-next form l.octet-index i w.if-octet-ne35.false w.in-Some.ensures.cases.0))
      | else-octet-ne35+in_default w ↦ rw (w.text-is, w.left-is) (through-same l.invariant
          (form-over form l.octet-index i w.if-octet-ne35.false l.left.now w.in_default.ensures.cases))
    ]

pub returns : goal.returns
returns c = through-all c.loop-octet.invariant (form-end c.args.form.now _ c.loop-octet.octet-index c.loop-octet-test.false)
