-- `precoder::Precoder::turn` meets its contract.
use mir.Syntax.{w32}
use mir.Val.{SFits}
use mir.Facts.{to_z-of_z}
use Rattle.precoder.proofs.Precoder.turn.Goals as goal

pub returns-in-Decode : goal.returns-in-Decode
returns-in-Decode c =
    let r = c.receive in
    let fit : SFits w32 r.result = record { sfits = r.type_inv } in
    rw (to_z-of_z fit, c.in-Decode.is) (rw (to_z-of_z c.ranges.z) at r.ensures)

pub returns-in-Precode : goal.returns-in-Precode
returns-in-Precode c =
    let r = c.send in
    let fit : SFits w32 r.result = record { sfits = r.type_inv } in
    rw (to_z-of_z fit, c.in-Precode.is) (rw (to_z-of_z c.ranges.z) at r.ensures)
