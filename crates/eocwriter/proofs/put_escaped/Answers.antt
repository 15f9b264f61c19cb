-- `eocwriter::put_escaped` meets its contract.
use native.Mathlib.Omega.{arith}
use Rattle.eocwriter.proofs.Laws.{none_yet, one_more}
use Rattle.eocwriter.proofs.put_escaped.Goals as goal

pub loop-octet-init : goal.loop-octet-init
loop-octet-init c = none_yet c.args.room.now c.args.fields.now

pub loop-octet-preserved : goal.loop-octet-preserved
loop-octet-preserved c =
    let l = c.loop-octet in
    let a = c.args in
    let e = c.put_encoded-at.ensures in
    one_more a.room.now a.fields.now l.room c.put_encoded-at.new.room l.at l.octet-index c.put_encoded-at.result (omega arith) l.invariant e.0 e.1 c.put_encoded-at.auto.room
